pub mod Faults
pub mod Texts
pub mod Verbs
pub mod Labels
pub mod Numbers
pub mod Forms
pub mod Lines
