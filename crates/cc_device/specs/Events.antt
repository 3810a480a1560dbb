-- The events of a run, and what keeps entering and leaving boundaries in order.
use Rattle.std.specs.Prelude.{◌≡◌, ℕ, List, [], ◌∷◌, ◌++◌, Option, Some, None}
use Rattle.cc_base.specs.declared.literal.Op.{Op}
use Rattle.cc_base.specs.Literals.{Literal}

-- A device was operated, with the literal that it took, or else the one that it answered; or a boundary was entered,
-- ended by an answer of its body, or was left by an exit.
pub data Event : Type 0 where
  Operated : (device : ℕ) (operation : Op) (literal : Literal) → Event
  Entered : (label : ℕ) → Event
  Ended : (label : ℕ) → Event
  Exited : (label : ℕ) → Event

-- the argument where there is one, and else the answer
abbrev pub literal_shown : Option Literal → Literal → Literal
literal_shown (Some argument) answer = argument
literal_shown None answer = answer

-- The stack of the boundaries that are entered and not yet left, after the event: an end takes the newest one away, and
-- an exit takes all down to its own, which stands there.
pub data Follows : List ℕ → Event → List ℕ → Type 0 where
  operated : {scopes : List ℕ} {device : ℕ} {operation : Op} {literal : Literal}
      → Follows scopes (Operated device operation literal) scopes
  entered : {scopes : List ℕ} {label : ℕ} → Follows scopes (Entered label) (label ∷ scopes)
  ended : {scopes : List ℕ} {label : ℕ} → Follows (label ∷ scopes) (Ended label) scopes
  exited : (inner : List ℕ) {before scopes : List ℕ} {label : ℕ} → before ≡ inner ++ label ∷ scopes
      → Follows before (Exited label) scopes

-- the stack after several events
pub data FollowsAll : List ℕ → List Event → List ℕ → Type 0 where
  no_event : {scopes : List ℕ} → FollowsAll scopes [] scopes
  then_event : {scopes next last : List ℕ} {event : Event} {events : List Event}
      → Follows scopes event next → FollowsAll next events last → FollowsAll scopes (event ∷ events) last

-- events are well scoped where a stack that begins empty can be kept
abbrev pub IsWellScoped : List Event → Type 0
IsWellScoped events = (scopes : List ℕ) × FollowsAll [] events scopes
