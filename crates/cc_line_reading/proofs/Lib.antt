pub mod LineFronts
pub mod LineTurns
