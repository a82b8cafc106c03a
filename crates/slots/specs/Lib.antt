pub mod Histories
pub mod Keepers
pub mod Memories
pub mod Places
