pub mod MarkedWords
pub mod Markings
pub mod SubcapturingSearch
