-- What waits where it is gone over a term by a loop to find what its functions capture: what stands round the part that
-- is gone over. It serves the code alone.
use Rattle.std.specs.Prelude.{◌≡◌, ℕ, ◌+◌, ◌<◌, ◌≤◌, List, [], ◌∷◌, reverse, Some}
use Rattle.cc_core.specs.Captured.{captured_variables}
use Rattle.cc_core.specs.Terms.{Term, FunctionTerm, TypeFunctionTerm, Let, Conditional, Boundary}
use Rattle.cc_core.specs.TermViews.{term_of}
use Rattle.cc_validity.specs.Captures.{body_in, parts_in, Tells}
use Rattle.cc_validity.specs.declared.captures.Found.{Found}
use Rattle.cc_validity.specs.declared.captures.Waiting.{Waiting}
use Rattle.cc_validity.specs.declared.captures.Waiting.TheVariants as waits

-- this is what is found for the term
abbrev pub IsFound : Found → Term → Type 0
IsFound found term = (found.set ≡ captured_variables term) × Tells found.captures term

-- what waits, the innermost first; the program has it last
abbrev pub in_turn : List Waiting → List Waiting
in_turn waiting = reverse waiting

-- the term that waits
abbrev pub own_term : Waiting → Term
own_term (waits.Body node) = term_of node.now
own_term (waits.First node second) = term_of node.now
own_term (waits.Second node first) = term_of node.now

-- it waits for what is found for the part
abbrev pub AwaitsPart : Waiting → Term → Type 0
AwaitsPart (waits.Body node) part = body_in (term_of node.now) ≡ Some part
AwaitsPart (waits.First node second) part = parts_in (term_of node.now) ≡ Some (part, term_of second.now.value)
AwaitsPart (waits.Second node found) part =
    (first : Term) × ((parts_in (term_of node.now) ≡ Some (first, part)) × IsFound found first)

-- the innermost one waits for the part, each other one for the one before it, and the last one is the whole
abbrev pub AreNested : Term → List Waiting → Term → Type 0
AreNested whole [] part = part ≡ whole
AreNested whole (next ∷ waiting) part = AwaitsPart next part × AreNested whole waiting (own_term next)

-- how many turns it takes to go over a term
abbrev pub turns : Term → ℕ
turns (FunctionTerm takes c body) = 1 + turns body
turns (TypeFunctionTerm bound body) = 1 + turns body
turns (Let note right body) = 2 + (turns right + turns body)
turns (Conditional note test positive negative) = 2 + (turns positive + turns negative)
turns (Boundary gives body) = 1 + turns body
turns _ = 0

-- how many it takes once the part is gone over
abbrev pub turns_of : Waiting → ℕ
turns_of (waits.Body node) = 1
turns_of (waits.First node second) = 2 + turns (term_of second.now.value)
turns_of (waits.Second node found) = 1

-- how many are left
abbrev pub turns_left : List Waiting → ℕ
turns_left [] = 0
turns_left (next ∷ waiting) = turns_of next + turns_left waiting

-- A part of the whole is gone over, this was found for it, and this waits for it.
pub record IsBehind (whole : Term) (waiting : List Waiting) (found : Found) : Type 0 where
  pub part : Term
  pub nested : AreNested whole waiting part
  pub is : IsFound found part

-- From a part it was gone down to a part of it, and no more turns are left.
pub record GoesDown (part : Term) (old : List Waiting) (inner : Term) (new : List Waiting) : Type 0 where
  pub stays : (whole : Term) → AreNested whole old part → AreNested whole new inner
  pub left : turns inner + turns_left new ≤ turns part + turns_left old

-- From a part it was gone down to one for which this was found, and no more turns are left.
pub record Descends (part : Term) (old new : List Waiting) (found : Found) : Type 0 where
  pub stays : (whole : Term) → AreNested whole old part → IsBehind whole new found
  pub left : turns_left new ≤ turns part + turns_left old

-- A turn is over: what is gone over is still a part of the whole, and fewer turns are left.
pub record TakesTurn (old : List Waiting) (found : Found) (new : List Waiting) (finds : Found) : Type 0 where
  pub stays : (whole : Term) → IsBehind whole old found → IsBehind whole new finds
  pub fewer : turns_left new < turns_left old
