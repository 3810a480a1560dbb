pub mod Marked
pub mod Marking
pub mod Reaching
