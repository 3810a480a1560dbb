-- Small conversations, by example: the lines that are said, and the lines that are answered.
use Rattle.std.specs.Prelude.{Bool, true, false, List, [], ◌∷◌, codes}
use Rattle.cc_job.specs.Jobs.{text}
use Rattle.cc_words.specs.Lines.{Line}
use Rattle.cc_conversation.specs.Conversations.{Standing, Rests, Begun, EndedAt, IsSpoken}

-- The lines are answered by these lines, it is told whether a reply is a refusal, and the conversation stands so.
abbrev pub Hears : List Line → List Line → Bool → Standing → Type 0
Hears lines answered refused standing = IsSpoken lines (text answered) refused standing

-- before the first line, and behind it and empty ones
pub record NothingIsAsked : Type 0 where
  pub nothing : Hears [] [] false Rests
  pub opened : Hears (codes "capc 1" ∷ [] ∷ [] ∷ []) [] false Rests

-- another first line ends it, whatever follows
abbrev pub StrangersEndIt : Type 0
StrangersEndIt = Hears (codes "capc 2" ∷ codes "policy 0" ∷ []) [] false (EndedAt 1)

-- each reply has an empty line behind it, and tells of a refusal or of none
abbrev pub RepliesEndWithAnEmptyLine : Type 0
RepliesEndWithAnEmptyLine =
    Hears
    (codes "capc 1" ∷ codes "policy 1" ∷ codes "deny * *" ∷ [] ∷ codes "drop m" ∷ codes "put m 2" ∷ codes "policy 0" ∷ []
    ∷ codes "drop m" ∷ [])
    (codes "policy 1" ∷ [] ∷ codes "drop m refused E32" ∷ [] ∷ codes "put m" ∷ [] ∷ codes "drop m" ∷ [] ∷ []) true Rests

-- a text and rules that lack a line: nothing is answered to them yet
pub record LinesAreMissing : Type 0 where
  pub text : Hears (codes "capc 1" ∷ codes "policy 0" ∷ codes "put m 2" ∷ codes "policy 0" ∷ [])
      (codes "policy 0" ∷ [] ∷ []) false (Begun 17)
  pub rules : Hears (codes "capc 1" ∷ codes "policy 2" ∷ codes "deny * *" ∷ []) [] false (Begun 18)

-- A line with which none goes on ends it, and what follows is answered by nothing: words with two spaces between them,
-- and a device behind a command.
pub record BadLinesEndIt : Type 0 where
  pub words : Hears (codes "capc 1" ∷ codes "policy 0" ∷ [] ∷ codes "policy  0" ∷ codes "policy 0" ∷ [])
      (codes "policy 0" ∷ [] ∷ []) false (EndedAt 4)
  pub device : Hears (codes "capc 1" ∷ codes "policy 0" ∷ codes "device out console" ∷ [])
      (codes "policy 0" ∷ [] ∷ []) false (EndedAt 3)
