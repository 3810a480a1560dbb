pub mod ClaimViews
pub mod AnswerViews
pub mod KeptFindings
pub mod KnownImports
pub mod AnsweredDefinitions
pub mod AnsweredTexts
