pub mod Demands
pub mod Exposing
pub mod Parts
