pub mod LeafReasons
pub mod Views
