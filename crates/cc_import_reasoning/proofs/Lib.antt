pub mod FartherDistances
pub mod FirstWays
pub mod FoundPlaces
pub mod GivenImports
pub mod MarkedNames
