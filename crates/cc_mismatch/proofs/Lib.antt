pub mod MatchedParts
pub mod SameParts
pub mod LeadingParts
