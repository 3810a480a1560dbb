-- What steps of inference come to in the program, which keeps a log of what is asked: it has all that is kept of what
-- was asked so far, and grows with each step.
use Rattle.std.specs.Prelude.{◌≡◌, List, Result, Ok, Err}
use Rattle.cc_base.specs.declared.code.Code.{Code}
use Rattle.cc_base.specs.declared.place.Place.{Place}
use Rattle.cc_checking.specs.Outcomes.{Placed, Outcome, NoAnswer, Refused, Found, finds}
use Rattle.cc_known.specs.declared.stop.Stop.{Stop}
use Rattle.cc_known.specs.declared.stop.Stop.TheVariants as stops
use Rattle.cc_known.specs.Keeping.{keeping}

-- steps that were taken after others: there is no answer, or a refusal, or a value and the log then
pub data Logged (A : Type 0) : Type 0 where
  Lost : Logged A
  Stopped : (code : Code) (at : Place) → Logged A
  Got : (value : A) (log : List Placed) → Logged A

-- an outcome where this is in the log before, which keeps what has to be kept of what it asks
abbrev pub after : {A : Type 0} → List Placed → Outcome A → Logged A
after log NoAnswer = Lost
after log (Refused code at) = Stopped code at
after log (Found value asked) = Got value (keeping log asked)

-- one step, and then the rest for its value and the log
abbrev pub followed : {A B : Type 0} → Logged A → (A → List Placed → Logged B) → Logged B
followed Lost next = Lost
followed (Stopped code at) next = Stopped code at
followed (Got value log) next = next value log

-- a step that asks nothing, and then the rest for its value
abbrev pub plainly : {A B : Type 0} → Outcome A → (A → Logged B) → Logged B
plainly NoAnswer next = Lost
plainly (Refused code at) next = Stopped code at
plainly (Found value asked) next = next value

-- A step that asks nothing is answered by its outcome, as the view sees the value. Nothing is said where memory is
-- wanting.
abbrev pub Answers : {A B : Type 0} → (A → B) → Result A Stop → Outcome B → Type 0
Answers view (Ok value) outcome = outcome ≡ finds (view value)
Answers view (Err (stops.Refused diag)) outcome = outcome ≡ Refused diag.code diag.place
Answers view (Err stops.NoMemory) outcome = Unit {0}

-- Steps that leave this log are answered so, as the view sees the value. Nothing is said where memory is wanting.
abbrev pub Meets : {A B : Type 0} → (A → B) → Result A Stop → List Placed → Logged B → Type 0
Meets view (Ok value) log steps = steps ≡ Got (view value) log
Meets view (Err (stops.Refused diag)) log steps = steps ≡ Stopped diag.code diag.place
Meets view (Err stops.NoMemory) log steps = Unit {0}
