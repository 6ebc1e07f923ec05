pub mod JoinLaws
pub mod PageLaws
pub mod FortyLaws
pub mod TextFortyLaws
pub mod Worked
mod DecimalLaws
pub mod FoldLaws
mod CellLaws
