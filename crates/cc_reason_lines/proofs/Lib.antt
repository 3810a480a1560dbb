pub mod FilledSets
pub mod FormedCauses
pub mod LabelledChains
pub mod TellableReasons
