pub mod TableLaws
pub mod ChangeLaws
pub mod Determined
pub mod Worked
mod Joined
mod Steps
