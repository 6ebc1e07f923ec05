pub mod Octets
pub mod Part
pub mod Splice
pub mod Reader
pub mod Seen
pub mod Unless
pub mod OneAnswer
