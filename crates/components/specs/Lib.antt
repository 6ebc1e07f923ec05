pub mod Component
pub mod Shows
pub mod Facility
pub mod Written
pub mod LaterEdition
pub mod Seen
pub mod Texts
