pub mod LocatedSteps
pub mod ExplainedLogs
pub mod ExplainedSteps
pub mod LastSteps
pub mod ExplainedRuns
