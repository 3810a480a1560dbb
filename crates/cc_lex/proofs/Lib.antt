mod Booleans
mod Constructors
mod Prefixes
mod WordTexts
mod WordsOrNames
mod NumberTexts
mod QuotedTexts
mod Fronts
mod Reaches
mod LongestForms
mod Blanks
mod Spelling
pub mod CuttingLaws
mod TextSlices
mod AsciiWords
mod TextFronts
mod Sizes
mod InLines
mod FoundTokens
mod CuttingSteps
mod LexAnswers
pub mod AnswerLaws
pub mod TokenLaws
mod WorkedTexts
