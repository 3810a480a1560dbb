mod EarlierEntries
pub mod EnteredNames
pub mod LinkedEntries
pub mod LinkedValues
mod Listed
pub mod NumberedEntries
pub mod Placements
mod Turned
