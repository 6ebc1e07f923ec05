pub mod Side
pub mod Seen
