pub mod Determined
pub mod Worked
pub mod Walk
mod Paths
