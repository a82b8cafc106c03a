pub mod Lists
pub mod Loads
pub mod Names
pub mod Starts
pub mod Worlds
