pub mod Paths
pub mod OutcomeLaws
pub mod HistoryLaws
pub mod BatchLaws
pub mod Shown
pub mod Stands
pub mod Strings
