pub mod Lent
pub mod Page
pub mod Numbers
pub mod Lines
pub mod Utf8
pub mod Forty
