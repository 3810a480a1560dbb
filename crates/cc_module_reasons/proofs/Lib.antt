pub mod MissingImports
pub mod NearestWays
pub mod OneModuleReason
pub mod WhyAnswered
