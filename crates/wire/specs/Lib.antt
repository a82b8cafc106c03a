pub mod Fields
pub mod Kinds
pub mod Layouts
pub mod Refusals
pub mod Words
