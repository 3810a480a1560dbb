pub mod FittingCells
pub mod InterleavedTexts
pub mod RunningTexts
pub mod StuckTexts
pub mod TextRuns
