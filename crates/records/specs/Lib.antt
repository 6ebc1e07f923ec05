pub mod Records
pub mod Seen
