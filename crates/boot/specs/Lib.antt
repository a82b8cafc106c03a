pub mod Disks
pub mod Machines
pub mod Starts
pub mod Worlds
