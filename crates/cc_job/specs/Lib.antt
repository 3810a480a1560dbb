pub mod Jobs
pub mod Reading
pub mod JobExamples
pub mod LimitExamples
