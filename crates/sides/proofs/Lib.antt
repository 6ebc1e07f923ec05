pub mod Numbers
pub mod SideLaws
pub mod Asked
mod Steps
