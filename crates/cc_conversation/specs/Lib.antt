pub mod Conversations
pub mod ConversationExamples
pub mod ConversationLaws
pub mod Progress
pub mod Turns
pub mod Conversed
