-- What a call answers of a step: what the step comes to, unless there is no memory.
use Rattle.std.specs.Prelude.{◌≡◌, ℕ, Result, Ok, Err}
use Rattle.cc_mnf.specs.declared.stop.Stop.{Stop}
use Rattle.cc_mnf.specs.declared.stop.Stop.TheVariants as stops
use Rattle.cc_mnf.specs.Steps.{ElaborationOutcome, Refused, Found, Step, gives, refuses}

-- The answer is the outcome: a value that is seen so, with the number of holes after it, or the same refusal.
abbrev pub Meets : {A B : Type 0} → (A → B) → ℕ → Result A Stop → ElaborationOutcome B → Type 0
Meets view holes (Ok value) outcome = outcome ≡ Found (view value) holes
Meets view holes (Err (stops.Refused code at)) outcome = outcome ≡ Refused code at
Meets view holes (Err stops.NoMemory) outcome = Unit {0}

-- The answer is what the step comes to, which makes no hole and asks for no number of them.
abbrev pub MeetsWithoutHoles : {A B : Type 0} → (A → B) → Result A Stop → Step B → Type 0
MeetsWithoutHoles view (Ok value) step = step ≡ gives (view value)
MeetsWithoutHoles view (Err (stops.Refused code at)) step = step ≡ refuses code at
MeetsWithoutHoles view (Err stops.NoMemory) step = Unit {0}
