pub mod DefinitionRows
