pub mod KindTexts
pub mod WantedTokens
pub mod Trying
pub mod Tries
pub mod WantedLaws
pub mod WantedExamples
