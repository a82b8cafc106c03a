pub mod Rows
pub mod Things
pub mod Worlds
