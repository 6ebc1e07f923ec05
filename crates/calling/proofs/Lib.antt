pub mod Lengths
mod Changes
pub mod Determined
