pub mod Cases
pub mod Faults
pub mod Makes
pub mod Runs
pub mod Sights
pub mod Stories
pub mod Worlds
