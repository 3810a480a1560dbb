pub mod CapturedChains
pub mod FilledScenes
pub mod Nearness
pub mod SetsAlone
pub mod Tellings
