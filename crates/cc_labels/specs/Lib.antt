pub mod LabelTexts
pub mod LabelledLines
pub mod LabelledPieces
