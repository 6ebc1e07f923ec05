pub mod Places
pub mod Problems
pub mod Seen
