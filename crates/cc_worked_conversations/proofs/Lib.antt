pub mod WorkedQuestions
pub mod WorkedRuns
