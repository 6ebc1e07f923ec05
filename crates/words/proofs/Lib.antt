pub mod LineLaws
pub mod Onward
mod WordLaws
mod NumberLaws
mod HexLaws
pub mod Determined
