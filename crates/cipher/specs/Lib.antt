pub mod Blocks
pub mod Laws
pub mod Rounds
pub mod Streams
pub mod Vectors
