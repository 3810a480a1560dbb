pub mod Descents
pub mod MismatchLaws
pub mod Views
