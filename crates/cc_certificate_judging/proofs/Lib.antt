mod Answered
pub mod BytesFound
pub mod FormedAnswers
mod GrownTrees
mod JudgedAnswers
mod JudgedTypes
mod OneJudgement
pub mod OneTree
mod PartsTrees
mod PassSteps
mod PassesOnce
mod ReadElements
mod ReadShapes
pub mod SameParts
mod TreePasses
mod WorkedAnswers
mod WorkedCertificates
