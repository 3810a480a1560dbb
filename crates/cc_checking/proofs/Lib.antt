pub mod ComputedChecks
pub mod ComputedExamples
pub mod ShapeEquality
