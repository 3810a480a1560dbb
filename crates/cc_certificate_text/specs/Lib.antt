pub mod BadLineLaws
pub mod Certificates
pub mod Heights
pub mod LineReading
pub mod LocalNames
pub mod NodeTexts
pub mod Reading
