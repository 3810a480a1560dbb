pub mod Trees
pub mod Agreement
pub mod Steps
pub mod Answers
