pub mod Answers
pub mod FindingLaws
pub mod FoundRefusals
pub mod Lines
pub mod RightSides
pub mod ScopeViews
pub mod Views
