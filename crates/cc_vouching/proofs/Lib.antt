pub mod ClaimedOutcomes
pub mod ClosedTypes
pub mod FirstDifferences
pub mod KnownContexts
pub mod OneAnswer
pub mod SoundModules
