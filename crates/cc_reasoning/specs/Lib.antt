pub mod ExplainedLogs
pub mod LocatedLogs
