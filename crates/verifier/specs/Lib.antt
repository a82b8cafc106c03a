pub mod Ages
pub mod Rows
pub mod Searches
pub mod Seats
pub mod Worlds
