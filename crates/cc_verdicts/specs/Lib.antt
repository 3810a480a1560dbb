pub mod ExampleModules
pub mod ModuleLaws
pub mod ModuleVerdicts
pub mod PresentTexts
pub mod ReadyDefinitions
pub mod Readings
pub mod StandingDefinitions
pub mod StandingLaws
