pub mod ComputedAnswers
pub mod ComputedLines
mod WorkedCanonical
mod WorkedClaimForms
mod WorkedComparisons
mod WorkedConditions
mod WorkedHeights
mod WorkedJudging
mod WorkedLineFacts
mod WorkedLines
mod WorkedNames
mod WorkedPlaces
mod WorkedTypings
mod WorkedTermKinds
