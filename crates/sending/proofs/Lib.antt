pub mod SendLaws
pub mod SentBack
