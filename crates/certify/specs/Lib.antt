pub mod Status
pub mod Outcome
pub mod Calls
pub mod Said
pub mod StatusTable
pub mod Exactness
