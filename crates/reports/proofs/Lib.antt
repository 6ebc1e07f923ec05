pub mod FortyLaws
mod VerdictLaws
pub mod FeltLaws
mod SlotLaws
