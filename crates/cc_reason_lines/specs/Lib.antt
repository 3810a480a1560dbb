pub mod LabelledChains
pub mod ReasonLines
