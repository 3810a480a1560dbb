-- The verdict of a definition, found in so many steps and rounds.
use Rattle.std.proofs.Common.{◌≡◌, ◌⊎◌, ℕ, Bool, true, false, List, length, Option, Some, None, refl, inl, inr}
use Rattle.cc_base.specs.declared.code.Code.{Code}
use Rattle.cc_base.specs.declared.place.Place.{Place}
use Rattle.std.proofs.lemmas.Bool.{both_ways}
use Rattle.cc_core.specs.Shapes.{CapturingType}
use Rattle.cc_core.specs.Equality.{same_type}
use Rattle.cc_core.proofs.Comparisons.{same_type-decides}
use Rattle.cc_core.specs.Contexts.{Context}
use Rattle.cc_checking.specs.Outcomes.{Placed, Outcome, NoAnswer, Refused, Found}
use Rattle.cc_checking.specs.Inference.{limited}
use Rattle.cc_checking.specs.Fillings.{Filling, AllServed, FailsFirst}
use Rattle.cc_checking.specs.Verdicts.{Definition, Checking, checked, Verdict, Accepted, IsAccepted, IsRefused, signature_under, signature_verdict, Deserves, HasVerdict}
use Rattle.cc_checking_laws.proofs.DecidedDemands.{Judged, NotKnown, AllPass, FailsAt, judged, Says, judged_says}
use Rattle.cc_checking_laws.proofs.ComputedFillings.{rounds, is_closed, rounds_are_least}

abbrev verdict_judged : ℕ → Context → Definition → Filling → Checking → Judged → Option Verdict
verdict_judged devices g definition f found NotKnown = None
verdict_judged devices g definition f found AllPass = Some (signature_verdict f definition found (signature_under f devices g found))
verdict_judged devices g definition f found (FailsAt code at) = Some (IsRefused code at)

abbrev verdict_closed : ℕ → ℕ → Context → Definition → Filling → Checking → List Placed → Bool → Option Verdict
verdict_closed n devices g definition f found list true = verdict_judged devices g definition f found (judged n f list)
verdict_closed n devices g definition f found list false = None

abbrev verdict_found : ℕ → ℕ → Context → Definition → Outcome Checking → Option Verdict
verdict_found n devices g definition NoAnswer = None
verdict_found n devices g definition (Refused code at) = Some (IsRefused code at)
verdict_found n devices g definition (Found found list) =
    verdict_closed n devices g definition (rounds n n (length g) list) found list (is_closed n (length g) (rounds n n (length g) list) list)

-- the verdict, if so many steps and rounds are enough
abbrev pub verdict_in : ℕ → ℕ → Context → Definition → Option Verdict
verdict_in n devices g definition = verdict_found n devices g definition (checked (limited n) devices g definition)

by_judged : (devices : ℕ) (g : Context) (definition : Definition) (f : Filling) (found : Checking) (list : List Placed) (j : Judged) → Says f list j → (v : Verdict)
    → verdict_judged devices g definition f found j ≡ Some v
    → ◌⊎◌ ((code : Code) × (at : Place) × FailsFirst f list code at × (v ≡ IsRefused code at))
    (AllServed f list × (v ≡ signature_verdict f definition found (signature_under f devices g found)))
by_judged devices g definition f found list NotKnown says v e = cc
by_judged devices g definition f found list AllPass says v e = inr (says, cc)
by_judged devices g definition f found list (FailsAt code at) says v e = inl (code, at, says, cc)

by_closed : (n devices : ℕ) (g : Context) (definition : Definition) (k : ℕ) (found : Checking) (list : List Placed) (b : Bool) → is_closed n (length g) (rounds k n (length g) list) list ≡ b → (v : Verdict)
    → verdict_closed n devices g definition (rounds k n (length g) list) found list b ≡ Some v → Deserves devices g definition (Found found list) v
by_closed n devices g definition k found list true closed v e = (
  rounds k n (length g) list,
  rounds_are_least (length g) n k list closed,
  by_judged devices g definition (rounds k n (length g) list) found list (judged n (rounds k n (length g) list) list) (judged_says n (rounds k n (length g) list) list) v e,
)
by_closed n devices g definition k found list false closed v e = cc

by_found : (n devices : ℕ) (g : Context) (definition : Definition) (o : Outcome Checking) → checked (limited n) devices g definition ≡ o → (v : Verdict)
    → verdict_found n devices g definition o ≡ Some v → HasVerdict devices g definition v
by_found n devices g definition NoAnswer is v e = cc
by_found n devices g definition (Refused code at) is v e = (Refused code at, (n, is, λ h. cc), cc)
by_found n devices g definition (Found found list) is v e =
    (Found found list, (n, is, λ h. cc), by_closed n devices g definition n found list (is_closed n (length g) (rounds n n (length g) list) list) refl v e)

-- what is found is the verdict
pub verdict_in_steps : (n devices : ℕ) (g : Context) (definition : Definition) (v : Verdict) → verdict_in n devices g definition ≡ Some v → HasVerdict devices g definition v
verdict_in_steps n devices g definition v e = by_found n devices g definition (checked (limited n) devices g definition) refl v e

-- whether the verdict is that the definition is accepted, with this signature
abbrev pub accepts : Option Verdict → CapturingType → Bool
accepts (Some (IsAccepted accepted)) signature = same_type accepted.signature signature
accepts (Some (IsRefused code at)) signature = false
accepts None signature = false

by_verdict : (devices : ℕ) (g : Context) (definition : Definition) (signature : CapturingType) (o : Option Verdict) → ((v : Verdict) → o ≡ Some v → HasVerdict devices g definition v)
    → accepts o signature ≡ true → (accepted : Accepted) × HasVerdict devices g definition (IsAccepted accepted) × (accepted.signature ≡ signature)
by_verdict devices g definition signature (Some (IsAccepted accepted)) has e = (accepted, has (IsAccepted accepted) refl, (same_type-decides accepted.signature signature).0 e)
by_verdict devices g definition signature (Some (IsRefused code at)) has e = absurd (both_ways false refl e)
by_verdict devices g definition signature None has e = absurd (both_ways false refl e)

-- what is found to be accepted is accepted
pub accepted_in_steps : (n devices : ℕ) (g : Context) (definition : Definition) (signature : CapturingType) → accepts (verdict_in n devices g definition) signature ≡ true
    → (accepted : Accepted) × HasVerdict devices g definition (IsAccepted accepted) × (accepted.signature ≡ signature)
accepted_in_steps n devices g definition signature e =
    by_verdict devices g definition signature (verdict_in n devices g definition) (λ v is. verdict_in_steps n devices g definition v is) e
