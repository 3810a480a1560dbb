-- What inference completes and fills in is the right side of the definition, filled in.
use Rattle.std.specs.Prelude.{ℕ}
use Rattle.cc_core.specs.Contexts.{Context}
use Rattle.cc_core.specs.Holes.{HolesAreOfParameters}
use Rattle.cc_filled.specs.FilledTerms.{IsFilledAs}
use Rattle.cc_checking.specs.Verdicts.{Definition, Accepted, IsAccepted, HasVerdict}

-- the term of an accepted definition whose holes are of parameters is its right side with its omitted sets filled in
abbrev pub AcceptedRightsAreFilled : Type 0
AcceptedRightsAreFilled =
    (devices : ℕ) (globals : Context) (definition : Definition) (accepted : Accepted)
    → HolesAreOfParameters definition.right → HasVerdict devices globals definition (IsAccepted accepted)
    → IsFilledAs definition.right accepted.filled
