-- What was said in whole so far, the last one last. It serves the code alone: `Says` goes from the front.
use Rattle.std.specs.Prelude.{◌≡◌, Bool, false, ◌||◌, ℕ, ◌≤◌, List, [], ◌∷◌, ◌++◌}
use Rattle.cc_job.specs.Jobs.{Item, item_lines}
use Rattle.cc_words.specs.Lines.{Line}
use Rattle.cc_item_reading.specs.Sayings.{IsAside, aside_line, size, item_limit}
use Rattle.cc_item_reading.specs.declared.asides.Aside.{Aside}
use Rattle.cc_live.specs.LiveRuns.{Course, Over}
use Rattle.cc_conversation.specs.Conversations.{Moment, MaySay, Answers, IsCourseOf, AreShort, behind, under_way}

-- From a moment on, these lines were said: whole items, what a job cannot say, to its end, and empty lines between them. They
-- were answered so, and the moment behind them is the last one.
pub data HasSaid (start : Moment) : List Line → List ℕ → Bool → Moment → Type 0 where
  nothing : HasSaid start [] [] false start
  blank : {lines : List Line} {text : List ℕ} {refused : Bool} {now : Moment} → HasSaid start lines text refused now
      → HasSaid start (lines ++ [] ∷ []) text refused now
  item : {lines : List Line} {text : List ℕ} {refused : Bool} {now : Moment} (next : Item) (more : List ℕ) (later : Bool)
      → HasSaid start lines text refused now → MaySay now next → size (item_lines next) ≤ item_limit
      → Answers now next more later
      → HasSaid start (lines ++ item_lines next) (text ++ more) (refused || later) (behind now next)
  aside : {lines : List Line} {text : List ℕ} {refused : Bool} {now : Moment} (it : Aside) (course : Course) (host : List Line)
      (more : List ℕ) (later : Bool) → HasSaid start lines text refused now → IsAside it → size (aside_line it ∷ []) ≤ item_limit
      → IsCourseOf now.devices now.state it course → AreShort host
      → course host ≡ record { text = more; standing = Over later [] }
      → HasSaid start (lines ++ aside_line it ∷ host) (text ++ (more ++ 10 ∷ [])) (refused || later) (under_way now)
