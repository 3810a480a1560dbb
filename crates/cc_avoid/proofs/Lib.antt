pub mod AvoidedTogether
pub mod AvoidingAnswers
pub mod FreePositions
pub mod WaitingShapes
