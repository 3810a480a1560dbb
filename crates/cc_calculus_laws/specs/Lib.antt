pub mod DirectedLaws
pub mod DirectedTypes
pub mod LeastAvoidance
pub mod Occurring
pub mod OccurringLaws
