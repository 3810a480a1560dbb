pub mod Broken
pub mod DerivationViews
pub mod DroppedNodes
pub mod Numbers
pub mod Rows
pub mod ValidityExamples
pub mod ValidityLaws
