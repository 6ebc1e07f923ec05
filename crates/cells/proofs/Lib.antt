pub mod SeptetLaws
mod DigitLaws
pub mod PackingLaws
mod AlphabetLaws
mod RowLaws
pub mod LineLaws
pub mod BrokenLaws
pub mod FewLaws
mod PutLaws
pub mod LayLaws
pub mod CellsLaws
pub mod RoomLaws
pub mod Worked
