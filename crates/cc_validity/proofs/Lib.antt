pub mod AlikePlaces
pub mod CountedNodes
mod GatheredTerms
pub mod IndexedElements
pub mod JudgedRoots
pub mod PassedNodes
pub mod ReadCaptures
pub mod ReadTerms
pub mod SameAnswers
