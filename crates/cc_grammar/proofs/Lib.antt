mod Uniform
mod UniformReaders
mod Sure
pub mod Spelling
mod PieceLanguages
mod SurePieces
mod ShapeRules
mod SureShapes
mod ExprRules
mod SureExprs
mod Complete
mod CompleteShapes
mod CompleteExprs
mod SureModules
mod CompleteModules
pub mod Readings
pub mod Rooms
mod InnermostSets
