pub mod ComputedAnswers
pub mod Declared
pub mod Operations
pub mod Scopes
pub mod Tables
