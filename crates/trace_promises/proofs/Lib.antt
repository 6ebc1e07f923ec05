mod FileLaws
mod SealLaws
pub mod Blocks
pub mod Faults
mod WrittenLaws
pub mod Written
pub mod Built
mod RenumberLaws
pub mod Mended
mod WriterLaws
pub mod Programs
mod HexBack
mod LinesBack
pub mod Retold
pub mod Gathered
pub mod Cases
pub mod Determined
pub mod All
