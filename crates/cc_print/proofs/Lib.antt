pub mod ElementTexts
pub mod ShapeWords
pub mod TypeTextLaws
pub mod WrittenTypes
pub mod Words
