pub mod Hearing
pub mod AsideWords
pub mod ItemFronts
pub mod NextItems
