pub mod Breaks
pub mod RefusedTexts
