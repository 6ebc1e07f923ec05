pub mod ParameterLaws
pub mod SizeLaws
pub mod Determined
pub mod Paths
pub mod Worked
