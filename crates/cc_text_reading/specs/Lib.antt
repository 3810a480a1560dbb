pub mod TextReadings
