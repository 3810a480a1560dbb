pub mod ExplainedRows
pub mod DefinitionLogs
pub mod KeptFronts
pub mod KeptFailures
pub mod UnsignedTypes
pub mod AnsweredReasons
