mod ContextLoops
mod JudgedTexts
mod JudgedTrees
mod NamedDefinitions
pub mod PlacedNames
