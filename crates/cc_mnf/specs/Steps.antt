-- Steps that are taken in the order of the text: each goes on from the number of holes so far, and a refusal ends all.
use Rattle.std.specs.Prelude.{ℕ, zero, ◌+◌, Option, Some, None}
use Rattle.cc_base.specs.declared.code.Code.{Code}
use Rattle.cc_base.specs.declared.place.Place.{Place}

-- what a step comes to: a refusal with its code and its place, or a value and the number of holes after it
pub data ElaborationOutcome (A : Type 0) : Type 0 where
  Refused : (code : Code) (at : Place) → ElaborationOutcome A
  Found : (value : A) (holes : ℕ) → ElaborationOutcome A

-- a step, which is told the number of holes before it
abbrev pub Step : Type 0 → Type 0
Step A = ℕ → ElaborationOutcome A

-- what comes after an outcome: nothing after a refusal
abbrev pub goes_on : {A B : Type 0} → (A → Step B) → ElaborationOutcome A → ElaborationOutcome B
goes_on next (Refused code at) = Refused code at
goes_on next (Found value holes) = next value holes

-- a step, and then the step that its value leads to
unfoldable pub followed : {A B : Type 0} → Step A → (A → Step B) → Step B
followed step next holes = goes_on next (step holes)

infixl 10 ◌>>=◌
-- the same, between its two steps
abbrev pub ◌>>=◌ : {A B : Type 0} → Step A → (A → Step B) → Step B
step >>= next = followed step next

infixl 10 ◌>>◌
-- the same where the value does not matter
abbrev pub ◌>>◌ : {A B : Type 0} → Step A → Step B → Step B
step >> next = followed step (λ _. next)

-- the value, without a new hole
unfoldable pub gives : {A : Type 0} → A → Step A
gives value holes = Found value holes

-- a refusal
unfoldable pub refuses : {A : Type 0} → Code → Place → Step A
refuses code at holes = Refused code at

-- the value where there is one, else the refusal
abbrev pub or_refused : {A : Type 0} → Code → Place → Option A → Step A
or_refused code at (Some value) = gives value
or_refused code at None = refuses code at

-- a new hole: its number is the number of those before it
unfoldable pub new_hole : Step ℕ
new_hole holes = Found holes (holes + 1)

-- the same step with holes of its own, whose numbers begin at 0; the holes outside go on as if it had none
unfoldable pub with_own_holes : {A : Type 0} → Step A → Step A
with_own_holes step holes = goes_on (λ value _. Found value holes) (step zero)
