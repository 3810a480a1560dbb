pub mod AnsweredRuns
pub mod Comparing
pub mod LineLiterals
pub mod ReplayLaws
pub mod Replays
pub mod RunTexts
pub mod TraceExamples
