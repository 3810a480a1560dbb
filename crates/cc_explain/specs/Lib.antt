pub mod Targets
pub mod Chains
pub mod Entries
pub mod Paths
pub mod Steps
pub mod ChainLaws
pub mod ChainExamples
