pub mod Commands
pub mod Refusals
pub mod Rows
pub mod Things
pub mod Worlds
