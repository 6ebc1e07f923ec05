mod NumberLaws
pub mod RecordLaws
mod Paths
pub mod BlockLaws
pub mod FaultLaws
pub mod Determined
pub mod CallPaths
