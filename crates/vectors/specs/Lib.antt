pub mod Repeats
pub mod Tallies
