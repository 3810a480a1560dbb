pub mod FittingSteps
pub mod WorkedInterleavedTexts
pub mod WorkedRunningTexts
pub mod WorkedStuckTexts
