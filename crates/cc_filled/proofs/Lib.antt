pub mod DecidedFillings
pub mod FilledValues
mod WorkedFillings
