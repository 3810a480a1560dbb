-- Conversations with a question why a module is refused, line by line, by example.
use Rattle.std.specs.Prelude.{Bool, true, false, codes, List, [], ◌∷◌, ◌++◌}
use Rattle.cc_words.specs.Lines.{Line}
use Rattle.cc_conversation.specs.ConversationExamples.{Hears}
use Rattle.cc_conversation.specs.Conversations.{Rests, EndedAt}

-- A module m of this line is put, this question is said, and m is dropped: these lines answer the question, and it is told
-- whether it is refused.
abbrev pub Answers : Line → Line → List Line → Bool → Type 0
Answers line question answer refused =
    Hears (codes "capc 1" ∷ codes "put m 1" ∷ line ∷ question ∷ codes "drop m" ∷ [])
    (codes "put m" ∷ [] ∷ (answer ++ [] ∷ codes "drop m" ∷ [] ∷ [])) refused Rests

-- A question about a module that is not present is refused; that a module is refused is an answer.
pub record QuestionsAreAnswered : Type 0 where
  pub not_present : Answers (codes "def a = 1") (codes "why n") (codes "why n refused E32" ∷ []) true
  pub accepted : Answers (codes "def a = 1") (codes "why m") (codes "why m" ∷ []) false
  pub no_module : Answers (codes "def a = @") (codes "why m")
      (codes "why m" ∷ codes "  E02 1:9" ∷ codes "  character U+0040" ∷ []) false
  pub unknown_name : Answers (codes "def a = y") (codes "why m")
      (codes "why m" ∷ codes "  E10 1:9" ∷ codes "  name y" ∷ []) false

-- a line that ends a conversation where a question may be said, and what follows is answered by nothing
abbrev pub EndsIt : Line → Type 0
EndsIt line =
    Hears (codes "capc 1" ∷ codes "policy 0" ∷ line ∷ codes "policy 0" ∷ []) (codes "policy 0" ∷ [] ∷ []) false (EndedAt 3)

-- A question has one name, and one space before it.
pub record BadQuestionsEndIt : Type 0 where
  pub no_name : EndsIt (codes "why")
  pub two_names : EndsIt (codes "why m n")
  pub two_spaces : EndsIt (codes "why  m")

-- Behind a question no device may be declared, as behind a command.
abbrev pub QuestionsEndDeclarations : Type 0
QuestionsEndDeclarations =
    Hears (codes "capc 1" ∷ codes "why m" ∷ codes "device out console" ∷ []) (codes "why m refused E32" ∷ [] ∷ []) true
    (EndedAt 3)
