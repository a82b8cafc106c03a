pub mod Names
pub mod Steps
pub mod Kept
pub mod Scenes
