pub mod CarriedOut
pub mod JobOutputs
pub mod WorkedCounts
pub mod WorkedJobs
pub mod WorkedLines
