pub mod Steps
pub mod NameBytes
pub mod Splits
pub mod LineLists
pub mod Numbers
