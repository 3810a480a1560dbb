mod Fronts
mod Acknowledgements
pub mod PassedPieces
pub mod PassedTurns
