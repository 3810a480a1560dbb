-- What a reader of the program answers, beside what its definition finds.
use Rattle.std.specs.Prelude.{◌≡◌, ⊤, List, ℕ, Result, Ok, Err, Option, Some, None}
use Rattle.std.specs.Borrow.{Bor}
use Rattle.cc_certificate_text.specs.Reading.{Found, Got, Wrong}
use Rattle.cc_certificate_reading.specs.declared.stop.Stop.{Stop}
use Rattle.cc_certificate_reading.specs.declared.stop.Stop.TheVariants as stops

-- The answer is what is found: the value, as the view sees it, and the bytes behind it, or nothing. Want of memory says
-- nothing of the bytes.
abbrev pub Agrees : {A B : Type 0} → (A → B) → Result (A × Bor (List ℕ)) Stop → Found B → Type 0
Agrees view (Ok read) found = found ≡ Got (view read.0) read.1.now
Agrees view (Err stops.Misfit) found = found ≡ Wrong
Agrees view (Err stops.NoMemory) found = ⊤

-- the same of a value without bytes behind it
abbrev pub Is : {A B : Type 0} → (A → B) → Result A Stop → Option B → Type 0
Is view (Ok value) found = found ≡ Some (view value)
Is view (Err stops.Misfit) found = found ≡ None
Is view (Err stops.NoMemory) found = ⊤
