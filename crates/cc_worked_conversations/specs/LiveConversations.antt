-- Conversations with a live run, line by line, by example: a module with a function that prints on a console, and with one that
-- calls it, is put; rules are set; and its main is run on the devices of the host.
use Rattle.std.specs.Prelude.{Bool, true, false, codes, List, [], ◌∷◌, ◌++◌}
use Rattle.cc_words.specs.Lines.{Line}
use Rattle.cc_conversation.specs.ConversationExamples.{Hears}
use Rattle.cc_conversation.specs.Conversations.{Standing, Rests, Asks, EndedAt}

-- the lines up to the rules, with what they are, and the live run
abbrev pub opened_with : Line → List Line → List Line
opened_with rule behind =
    codes "capc 1" ∷ codes "device out console" ∷ codes "put tools 2"
    ∷ codes "def f: ((x: Int) -> Unit)^{out} = fun (x: Int) => out.print(x)" ∷ codes "def main = fun (u: Unit) => f(5)"
    ∷ codes "policy 1" ∷ rule ∷ codes "live tools.main 100" ∷ behind

-- the lines that are answered up to there, and those of the run
abbrev pub answered_with : List Line → List Line
answered_with run = codes "put tools" ∷ [] ∷ codes "policy 1" ∷ [] ∷ run

-- By this rule the lines of the host behind the live run are answered so, and the conversation stands so.
abbrev pub Runs : Line → List Line → List Line → Bool → Standing → Type 0
Runs rule said told refused standing = Hears (opened_with rule said) (answered_with told) refused standing

-- the lines of a run up to its operation
abbrev pub up_to_print : List Line
up_to_print = codes "live tools.main" ∷ codes "  authority {out}" ∷ codes "  out print 5" ∷ []

-- A run that the rules allow is told, and waits for its answer; behind its end the conversation goes on.
pub record RunsAreSpoken : Type 0 where
  pub answered : Runs (codes "allow tools out") (codes "ok" ∷ codes "drop tools" ∷ [])
      (up_to_print ++ codes "  done unit after 4 steps" ∷ [] ∷ codes "drop tools" ∷ [] ∷ []) false Rests
  pub waiting : Runs (codes "allow tools out") [] up_to_print false Asks
  pub stopped : Runs (codes "allow tools out") (codes "stop" ∷ [])
      (up_to_print ++ codes "  stopped after 3 steps" ∷ [] ∷ []) true Rests
  pub broken : Runs (codes "allow tools out") (codes "yes" ∷ codes "ok" ∷ []) up_to_print false (EndedAt 9)

-- One that they deny takes no line, and the conversation goes on.
pub record DeniedRunsAreSpoken : Type 0 where
  pub denied : Runs (codes "deny tools out") (codes "drop tools" ∷ [])
      (codes "live tools.main refused E37" ∷ [] ∷ codes "drop tools" ∷ [] ∷ []) true Rests
