mod ClaimedBytes
mod DifferentBinds
mod KnownDefinitions
mod OwnSpots
mod SignedBinds
pub mod StandingOutcomes
