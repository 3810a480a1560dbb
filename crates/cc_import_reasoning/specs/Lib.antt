pub mod Circles
pub mod Distances
pub mod ToldImports
