pub mod RecordLaws
mod Paths
pub mod Determined
