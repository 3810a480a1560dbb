pub mod HostedRuns
pub mod CourseLaws
pub mod HostedLaws
pub mod HostedExamples
