pub mod Adding
pub mod Ends
pub mod Solutions
pub mod Spreading
