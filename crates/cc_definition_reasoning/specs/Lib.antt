pub mod ExplainedDefinitions
pub mod Keeping
pub mod Reasons
