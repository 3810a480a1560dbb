pub mod ToldReasons
pub mod WhyTexts
