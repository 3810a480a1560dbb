-- The laws of what is found of bytes.
use Rattle.std.specs.Prelude.{◌≡◌, ℕ, List}
use Rattle.cc_certificate_judging.specs.Answers.{Found, IsFound}

-- Something is found of any bytes.
abbrev pub SomethingIsFound : Type 0
SomethingIsFound = (bytes : List ℕ) → (found : Found) × IsFound bytes found

-- And nothing else is.
abbrev pub OneThingIsFound : Type 0
OneThingIsFound = (bytes : List ℕ) (found other : Found) → IsFound bytes found → IsFound bytes other → found ≡ other
