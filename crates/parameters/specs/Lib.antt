pub mod Parameter
pub mod Suits
pub mod Seen
