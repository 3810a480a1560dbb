pub mod EntryLists
pub mod Linking
pub mod ModuleLinkLaws
pub mod ModuleLinks
pub mod Tables
