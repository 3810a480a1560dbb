pub mod LiveRuns
pub mod LiveLaws
pub mod LiveEnds
pub mod LiveTurns
pub mod LiveExamples
