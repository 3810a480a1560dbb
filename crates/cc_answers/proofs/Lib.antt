pub mod OutputFronts
mod SessionReplies
mod CommandFacts
pub mod Answering
mod RunFacts
mod KeptFacts
mod StayingTexts
mod MadeFacts
mod CarriedChains
mod DefinitionNumbers
mod RecursiveTypes
mod ExplainingFacts
mod LinkedDefinitions
mod Explained
mod StartedTasks
mod AllOf
mod QuestionReplies
