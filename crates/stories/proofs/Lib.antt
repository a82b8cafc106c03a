pub mod Blind
pub mod Named
pub mod Noted
pub mod Stories
