pub mod Reports
pub mod SoundTasks
pub mod Tasks
