pub mod LiveConversations
pub mod QuestionConversations
