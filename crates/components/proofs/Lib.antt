pub mod Paths
pub mod ReadBack
pub mod LaterLaws
pub mod FaultIds
pub mod Determined
pub mod Worked
pub mod Was
