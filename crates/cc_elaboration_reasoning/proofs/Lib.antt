pub mod FoundFirst
pub mod SeenNames
pub mod SettledRightSides
pub mod TakenPlaces
