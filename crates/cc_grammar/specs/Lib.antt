pub mod Syntax
pub mod Grammar
pub mod Reads
pub mod Tests
pub mod Reading
pub mod GrammarLaws
