pub mod Bigs
pub mod FieldWrites
pub mod Layouts
pub mod RefusalNumbers
pub mod Words
