pub mod SubmittedTexts
pub mod VouchingExamples
