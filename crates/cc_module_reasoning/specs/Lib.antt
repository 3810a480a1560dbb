pub mod RefusedDefinitions
