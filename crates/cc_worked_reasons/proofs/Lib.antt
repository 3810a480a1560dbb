pub mod ComputedReasons
pub mod WorkedDefinitions
