pub mod Ages
pub mod Kept
pub mod Refusals
pub mod Rows
pub mod Searches
pub mod Tests
pub mod Worlds
