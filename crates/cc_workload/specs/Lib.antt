pub mod Workloads
pub mod ExampleWorkloads
