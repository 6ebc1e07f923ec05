pub mod Calls
pub mod Seen
