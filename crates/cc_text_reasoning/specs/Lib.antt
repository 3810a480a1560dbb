pub mod Answers
pub mod Breaking
pub mod Places
pub mod TokenReasons
pub mod Views
