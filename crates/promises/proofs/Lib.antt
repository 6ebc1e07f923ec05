mod Walk
mod CallFacts
mod Silence
mod Listed
mod RejectBack
mod TableOctets
mod Reached
mod ShownWalk
mod FourDigits
pub mod OneVerdict
pub mod ErrorLists
pub mod ReadBack
pub mod WrittenDigits
pub mod ShownDigits
pub mod Demand2
pub mod CannotAlter
pub mod PastIsTooLong
pub mod Exists
pub mod IsOne
pub mod IsOctets
pub mod Unrecognized
pub mod Demand3
pub mod Determined
pub mod Worked
pub mod Editions
pub mod ErrorCases
pub mod PasswordCases
pub mod NeverDamaged
pub mod Apart
pub mod WhatWaits
pub mod Four
pub mod FourCases
pub mod Morning
pub mod MorningCases
pub mod Felt
pub mod All
