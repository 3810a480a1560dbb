-- The verdict of a definition, as the program answers it.
use Rattle.std.specs.Prelude.{◌≡◌, ℕ, List, length, Result, Ok, Err}
use Rattle.cc_core.specs.declared.terms.Checked.{Checked}
use Rattle.cc_core.specs.Contexts.{Context}
use Rattle.cc_checking.specs.Fillings.{Filling, IsOverGlobals}
use Rattle.cc_checking.specs.Outcomes.{Placed, Found}
use Rattle.cc_checking.specs.Verdicts.{Definition, Checking, Verdict, IsAccepted, IsRefused, IsChecked, HasVerdict}
use Rattle.cc_checking.specs.Verdicts.{HasAlgorithmicType}
use Rattle.cc_known.specs.declared.stop.Stop.{Stop}
use Rattle.cc_known.specs.declared.stop.Stop.TheVariants as stops
use Rattle.cc_known.specs.Keeping.{kept}
use Rattle.cc_check.specs.declared.error.CheckError.{CheckError}
use Rattle.cc_check.specs.declared.error.CheckError.TheVariants as errors
use Rattle.cc_check.specs.Definitions.{accepted_of}

-- The definition has the verdict that is answered: it is accepted, or refused with the code and the place. Nothing is
-- said where memory is wanting.
abbrev pub Judges : ℕ → Context → Definition → Result Checked CheckError → Type 0
Judges devices globals definition (Ok checked) =
    HasVerdict devices globals definition (IsAccepted (accepted_of checked))
Judges devices globals definition (Err (errors.Refused diag)) =
    HasVerdict devices globals definition (IsRefused diag.code diag.place)
Judges devices globals definition (Err errors.NoMemory) = Unit {0}

-- The verdict is the one that is answered. Nothing is said where memory is wanting.
abbrev pub Answers : Result Checked CheckError → Verdict → Type 0
Answers (Ok checked) verdict = verdict ≡ IsAccepted (accepted_of checked)
Answers (Err (errors.Refused diag)) verdict = verdict ≡ IsRefused diag.code diag.place
Answers (Err errors.NoMemory) verdict = Unit {0}

-- Where the definition is refused, it has no algorithmic type under any filling over the globals.
abbrev pub HasNoTypeIfRefused : ℕ → Context → Definition → Result Checked CheckError → Type 0
HasNoTypeIfRefused devices globals definition (Ok checked) = Unit {0}
HasNoTypeIfRefused devices globals definition (Err (errors.Refused diag)) =
    (filling : Filling) → IsOverGlobals (length globals) filling
    → HasAlgorithmicType devices globals definition filling → ⊥
HasNoTypeIfRefused devices globals definition (Err errors.NoMemory) = Unit {0}

-- this is what is found for the definition, and this is kept of all that is asked
abbrev pub KeepsOf : ℕ → Context → Definition → Checking → List Placed → Type 0
KeepsOf devices globals definition found log =
    (asked : List Placed) × IsChecked devices globals definition (Found found asked) × (log ≡ kept asked)

-- what stops inference stops checking
abbrev pub error_of : Stop → CheckError
error_of (stops.Refused diag) = errors.Refused diag
error_of stops.NoMemory = errors.NoMemory
