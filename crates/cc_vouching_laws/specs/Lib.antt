pub mod Completeness
pub mod FilledRightLaws
pub mod Orders
pub mod SignatureLaws
pub mod SubmissionLaws
