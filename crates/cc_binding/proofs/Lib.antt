pub mod FirstBeyond
pub mod LinkedNames
pub mod Lists
pub mod NamedBits
pub mod NamedPositions
pub mod OperatedDevices
pub mod UnusedRules
pub mod WorkedBinding
