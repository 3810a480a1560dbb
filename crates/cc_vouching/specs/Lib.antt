pub mod Submissions
pub mod VouchedDefinitions
pub mod ClaimedOutcomes
pub mod VouchedModules
pub mod VouchingReplies
pub mod VouchingLaws
