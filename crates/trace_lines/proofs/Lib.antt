mod ShownLaws
pub mod FortyLaws
mod ToldLaws
mod TurnLaws
