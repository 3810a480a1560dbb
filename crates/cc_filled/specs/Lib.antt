pub mod FilledTerms
pub mod FilledTests
pub mod FilledLaws
pub mod FilledExamples
