pub mod CausesInside
pub mod FirstRefusals
pub mod TextRefusals
pub mod ToldContents
