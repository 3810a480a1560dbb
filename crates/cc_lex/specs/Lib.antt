pub mod Lexemes
pub mod Forms
pub mod Lexical
pub mod Cutting
pub mod TokenLaws
pub mod TokenExamples
