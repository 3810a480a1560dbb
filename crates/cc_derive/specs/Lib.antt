pub mod Accepting
pub mod Older
pub mod Steps
pub mod Tables
pub mod Trees
pub mod Typings
