pub mod ElementLaws
pub mod RowLaws
pub mod Determined
pub mod NotWhole
mod Tags
pub mod Paths
pub mod Worked
