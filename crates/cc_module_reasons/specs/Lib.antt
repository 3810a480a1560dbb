pub mod ImportReasonLaws
pub mod ImportReasonTexts
pub mod ImportReasons
pub mod ModuleLines
pub mod ModuleReasons
pub mod WhyAnswers
pub mod WhyLaws
