pub mod PresentNames
pub mod WorkloadLines
pub mod WorkedOutputs
pub mod WorkloadOutputs
