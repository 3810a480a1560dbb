pub mod AvoidedTogether
pub mod Avoiding
pub mod WaitingShapes
