mod Paths
pub mod Determined
pub mod StepLaws
pub mod Keeps
