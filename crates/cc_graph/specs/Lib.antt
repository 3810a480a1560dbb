pub mod Graph
pub mod GraphLaws
pub mod Places
pub mod GraphExamples
