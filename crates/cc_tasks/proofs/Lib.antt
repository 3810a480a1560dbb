pub mod Loops
pub mod Promises
pub mod Standing
pub mod TakenTurns
pub mod Turns
