pub mod BindViews
pub mod KnownOutcomes
pub mod OutcomeLaws
pub mod VouchViews
