pub mod OctetsLaws
pub mod PartLaws
pub mod SpliceLaws
pub mod ReaderLaws
pub mod TestLaws
pub mod Determined
pub mod EndLaws
pub mod FaultLaws
