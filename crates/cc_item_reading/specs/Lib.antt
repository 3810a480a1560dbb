pub mod Sayings
pub mod AsideLines
pub mod ItemReading
