pub mod Collisions
pub mod Sums
