pub mod Definitions
pub mod Judging
pub mod Rows
pub mod SignedParts
