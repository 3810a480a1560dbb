pub mod Submitting
pub mod HeadReading
pub mod SubmissionReading
pub mod SubmissionReadingLaws
pub mod SubmissionExamples
