pub mod Lists
pub mod Places
pub mod Knowledge
mod Machines
pub mod History
pub mod Judges
pub mod Moments
mod Draws
pub mod Secrets
mod Secrecy
pub mod Acceptances
mod Openings
mod Liveness
pub mod Main
