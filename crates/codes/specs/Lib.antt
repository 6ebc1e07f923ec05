pub mod Ids
pub mod Operations
pub mod Errors
pub mod Problems
pub mod Refusals
