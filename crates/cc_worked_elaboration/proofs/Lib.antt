pub mod WorkedElaborations
