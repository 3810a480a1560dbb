pub mod LabelledTurns
pub mod LabelTexts
pub mod StreamedWords
