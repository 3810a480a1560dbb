pub mod TextReasonLaws
pub mod TextReasonTextExamples
pub mod TextReasonTexts
pub mod TextReasons
