pub mod Shown
pub mod Listed
pub mod Told
pub mod Desk
pub mod Book
