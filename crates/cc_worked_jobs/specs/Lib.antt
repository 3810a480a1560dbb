pub mod CountExamples
pub mod LineExamples
pub mod WholeJobs
