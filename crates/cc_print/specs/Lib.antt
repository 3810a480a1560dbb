pub mod PiecesLeft
pub mod TermTexts
pub mod TypeTextExamples
pub mod TypeTextLaws
pub mod TypeTexts
