pub mod LeafCauses
pub mod MatchedOperands
pub mod LeafAnswers
