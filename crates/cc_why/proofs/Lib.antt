mod FoundAnswers
mod FoundDefinitions
mod FoundImports
mod FoundReasons
mod FoundTrees
mod InsideNames
mod SessionFacts
