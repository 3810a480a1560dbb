mod LikeTokens
mod LikeReaders
mod LastTokens
pub mod WantedKinds
mod Pushed
mod NameSamples
mod WorkedFronts
