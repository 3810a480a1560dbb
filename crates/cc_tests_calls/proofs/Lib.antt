mod DifferentNames
pub mod Linking
