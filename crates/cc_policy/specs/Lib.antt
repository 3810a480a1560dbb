pub mod Policies
pub mod PolicyLaws
pub mod PolicyExamples
