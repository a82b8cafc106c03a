mod Absorptions
mod Arrays
mod Bits
pub mod Sizes
mod Fillings
mod Macs
mod Messages
mod Paddings
mod Rotations
mod Schedules
mod Similar
