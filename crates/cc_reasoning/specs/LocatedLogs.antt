-- A log that says of each thing that is kept which the local variables are where it is asked. Whether it is kept depends on
-- what is asked alone.
use Rattle.std.specs.Prelude.{◌≡◌, List, [], ◌∷◌, ◌++◌, Result, Ok, Err, if◌then◌else◌}
use Rattle.cc_base.specs.declared.place.Place.{Place}
use Rattle.cc_checking.specs.Outcomes.{Placed}
use Rattle.cc_known.specs.Keeping.{is_needless}
use Rattle.cc_reasons.specs.Causes.{Local, Cause, Located, located, Explained, NoAnswer, Refused, Found, finds}
use Rattle.cc_reasons.specs.DefinitionReasons.{placed_of}
use Rattle.cc_causes.specs.declared.reason.Halt.{Halt}
use Rattle.cc_causes.specs.declared.reason.Halt.TheVariants as halts
use Rattle.cc_causes.specs.Views.{cause_of}

-- the list with one more thing that is asked, unless that is needless
abbrev pub with_one : List Located → Located → List Located
with_one list one = if is_needless (placed_of list) one.placed.asked then list else list ++ one ∷ []

-- the list with all that is asked then, in its order, but for what is needless
abbrev pub keeping : List Located → List Located → List Located
keeping list [] = list
keeping list (first ∷ rest) = keeping (with_one list first) rest

-- steps that were taken after others: there is no answer, or a refusal with its cause, or a value and the log then
pub data Reached (A : Type 0) : Type 0 where
  Lost : Reached A
  Stopped : (cause : Cause) (at : Place) → Reached A
  Got : (value : A) (log : List Located) → Reached A

-- what steps come to where this is in the log before, which keeps what has to be kept of what they ask
abbrev pub after : {A : Type 0} → List Located → Explained A → Reached A
after log NoAnswer = Lost
after log (Refused cause at) = Stopped cause at
after log (Found value asked) = Got value (keeping log asked)

-- one step, and then the rest for its value and the log
abbrev pub followed : {A B : Type 0} → Reached A → (A → List Located → Reached B) → Reached B
followed Lost next = Lost
followed (Stopped cause at) next = Stopped cause at
followed (Got value log) next = next value log

-- the last steps, which ask nothing
abbrev pub ends : {A : Type 0} → Explained A → List Located → Reached A
ends NoAnswer log = Lost
ends (Refused cause at) log = Stopped cause at
ends (Found value asked) log = Got value log

-- a step that asks nothing, and then others that ask nothing
abbrev pub directly : {A B : Type 0} → Explained A → (A → Explained B) → Explained B
directly NoAnswer next = NoAnswer
directly (Refused cause at) next = Refused cause at
directly (Found value asked) next = next value

-- what is asked, each with the local variables that stand in the same place of a list; where that is shorter there are none
abbrev pub beside : List Placed → List (List Local) → List Located
beside [] locals = []
beside (placed ∷ asked) [] = located [] placed ∷ beside asked []
beside (placed ∷ asked) (first ∷ locals) = located first placed ∷ beside asked locals

-- A step that asks nothing is answered by what it comes to, as the view sees the value. Nothing is said where memory is
-- wanting.
abbrev pub Answers : {A B : Type 0} → (A → B) → Result A Halt → Explained B → Type 0
Answers view (Ok value) outcome = outcome ≡ finds (view value)
Answers view (Err (halts.Refused cause at)) outcome = outcome ≡ Refused (cause_of cause.value) at
Answers view (Err halts.NoMemory) outcome = Unit {0}

-- Steps that leave this log are answered so, as the view sees the value. Nothing is said where memory is wanting.
abbrev pub Meets : {A B : Type 0} → (A → B) → Result A Halt → List Located → Reached B → Type 0
Meets view (Ok value) log steps = steps ≡ Got (view value) log
Meets view (Err (halts.Refused cause at)) log steps = steps ≡ Stopped (cause_of cause.value) at
Meets view (Err halts.NoMemory) log steps = Unit {0}
