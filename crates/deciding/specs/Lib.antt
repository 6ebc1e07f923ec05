pub mod Decision
pub mod Numbers
pub mod Steps
pub mod Seen
