pub mod Words
pub mod Numbers
pub mod Hex
pub mod Commands
pub mod Lines
