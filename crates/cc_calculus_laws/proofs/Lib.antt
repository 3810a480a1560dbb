mod CapturedOccurrences
pub mod DirectedDefinitions
mod DirectedTyping
pub mod FilledMatches
pub mod FoundDirected
pub mod FoundWhereDirected
mod LeastAvoiding
mod NotLeast
