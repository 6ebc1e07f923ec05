pub mod StepSix
pub mod Seen
