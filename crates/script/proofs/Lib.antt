pub mod Tests
pub mod Tries
mod Fills
mod Shapes
