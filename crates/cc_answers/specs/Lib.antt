pub mod Requests
pub mod Running
pub mod KeptEntries
pub mod MadeThings
pub mod LinkedPrograms
pub mod Carried
pub mod Explaining
