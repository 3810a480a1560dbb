-- What a row of steps comes to, each of which may ask for something that is judged later.
use Rattle.std.specs.Prelude.{List, [], ◌++◌, Option, Some, None}
use Rattle.cc_base.specs.declared.code.Code.{Code}
use Rattle.cc_base.specs.declared.place.Place.{Place}
use Rattle.cc_capture.specs.Sets.{Set}
use Rattle.cc_checking.specs.Comparison.{Demand}

-- what is asked: that one set is below another, or that a set has no universal capability
pub data Asked : Type 0 where
  IsBelow : (demand : Demand) → Asked
  IsCapless : (set : Set) → Asked

-- what is asked, and the place to be named where it fails
pub record Placed : Type 0 where
  pub asked : Asked
  pub at : Place

-- what is asked at the place
abbrev pub placed_at : Place → Asked → Placed
placed_at at asked = record { asked = asked; at = at }

-- What steps come to: there is no answer, since a comparison is not at its end or a variable is not there; or a
-- refusal with its code and its place; or a value, where all that is asked holds, in the order in which it was asked.
pub data Outcome (A : Type 0) : Type 0 where
  NoAnswer : Outcome A
  Refused : (code : Code) (at : Place) → Outcome A
  Found : (value : A) (asked : List Placed) → Outcome A

-- the value, and nothing is asked
abbrev pub finds : {A : Type 0} → A → Outcome A
finds value = Found value []

-- with this asked before
abbrev pub asked_before : {A : Type 0} → List Placed → Outcome A → Outcome A
asked_before asked NoAnswer = NoAnswer
asked_before asked (Refused code at) = Refused code at
asked_before asked (Found value more) = Found value (asked ++ more)

infixl 10 ◌>>=◌
-- One step, and then the rest for its value. The first refusal counts, and what the rest asks stands behind.
unfoldable pub ◌>>=◌ : {A B : Type 0} → Outcome A → (A → Outcome B) → Outcome B
◌>>=◌ NoAnswer next = NoAnswer
◌>>=◌ (Refused code at) next = Refused code at
◌>>=◌ (Found value asked) next = asked_before asked (next value)

infixl 10 ◌>>◌
-- the same where the step has no value
abbrev pub ◌>>◌ : {A B : Type 0} → Outcome A → Outcome B → Outcome B
◌>>◌ step rest = ◌>>=◌ step (λ _. rest)

-- the value where there is one, else the refusal
abbrev pub found_or : {A : Type 0} → Code → Place → Option A → Outcome A
found_or code at (Some value) = finds value
found_or code at None = Refused code at
