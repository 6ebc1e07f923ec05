pub mod ScanLaws
pub mod Determined
mod NotWhole
mod Paths
pub mod Worked
pub mod TypeLaws
