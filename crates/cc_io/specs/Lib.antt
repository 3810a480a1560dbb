pub mod CallPlans
pub mod Calls
pub mod Wholes
pub mod HandedOn
pub mod Acknowledged
pub mod AcknowledgedExamples
pub mod Messages
pub mod Pieces
