pub mod Determined
pub mod Left
