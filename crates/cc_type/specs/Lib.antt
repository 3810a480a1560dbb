pub mod Comparing
pub mod Ends
pub mod FormsAlone
pub mod KeepingExamples
pub mod LoggedInference
pub mod Rows
pub mod Standing
pub mod WholeLogs
