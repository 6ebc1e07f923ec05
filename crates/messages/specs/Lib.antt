pub mod Layout
pub mod Types
pub mod Scan
pub mod LaterEdition
pub mod Seen
