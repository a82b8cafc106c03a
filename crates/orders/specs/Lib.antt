pub mod Answers
pub mod Commands
pub mod Things
pub mod Writes
