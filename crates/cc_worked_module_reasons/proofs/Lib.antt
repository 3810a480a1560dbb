pub mod ComputedChains
pub mod WorkedImportReasons
pub mod WorkedTextReasons
pub mod WorkedUnwantedTokens
