pub mod IdLaws
pub mod ErrorLaws
pub mod Runs
pub mod Problems
