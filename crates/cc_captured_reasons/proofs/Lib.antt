pub mod ChainSteps
pub mod FilledDemands
pub mod NearEnds
pub mod SetsCount
pub mod ToldChains
pub mod ToldNumbers
