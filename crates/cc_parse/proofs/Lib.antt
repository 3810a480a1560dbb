pub mod AsciiNames
pub mod FirstTokens
pub mod FoundLists
pub mod FoundElements
pub mod Operations
pub mod LinkLoops
pub mod ModuleLoops
pub mod Parts
