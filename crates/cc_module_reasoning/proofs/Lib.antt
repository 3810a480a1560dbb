pub mod FirstRefused
