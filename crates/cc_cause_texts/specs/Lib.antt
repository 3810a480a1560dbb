pub mod CauseLines
