mod AnswerLaws
mod RoomLaws
pub mod FortyLaws
