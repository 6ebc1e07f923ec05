pub mod Table
pub mod Change
pub mod Seen
pub mod Raw
