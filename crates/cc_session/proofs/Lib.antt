pub mod CurrentVerdicts
pub mod EntriesByParts
pub mod Lists
pub mod PresentModules
pub mod SessionFacts
pub mod StandingFacts
pub mod TextChanges
