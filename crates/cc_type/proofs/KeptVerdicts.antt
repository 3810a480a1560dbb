-- The verdict of a definition from what is kept, and from a list of sets that fills its holes.
use Rattle.std.proofs.Common.{◌≡◌, ℕ, ◌<◌, length, Some, List, refl, ap, inl, inr}
use Rattle.cc_base.specs.declared.code.Code.{Code}
use Rattle.cc_base.specs.declared.place.Place.{Place}
use Rattle.cc_capture.specs.declared.var.Elem.TheVariants.{Hole}
use Rattle.cc_capture.specs.Sets.{Set, Member}
use Rattle.cc_core.specs.Actions.{filled_by}
use Rattle.cc_core.specs.Shapes.{Shape, CapturingType}
use Rattle.cc_core.specs.Contexts.{TermEntry, Context, lookup}
use Rattle.cc_checking.specs.Comparison.{Demand}
use Rattle.cc_checking.specs.Outcomes.{Asked, IsBelow, Placed, Found}
use Rattle.cc_checking.specs.Fillings.{Filling, AllServed, IsAskedIn, IsLeast, FailsFirst}
use Rattle.cc_checking.specs.Verdicts.{Definition, Checking, IsRefused, IsChecked, Deserves, settled_or}
use Rattle.cc_checking.specs.Verdicts.{signature_under, accepted_with, signature_verdict}
use Rattle.cc_checking_laws.specs.FillingLaws.{AreFit}
use Rattle.cc_checking_laws.specs.CheckingLaws.{Fits}
use Rattle.cc_core.specs.Holes.{HolesAreOfParameters}
use Rattle.cc_checking_laws.proofs.FitDemands.{asked_is_fit}
use Rattle.cc_checking_laws.proofs.LeastFillings.{least_over_globals}
use Rattle.cc_solve.specs.Solutions.{filling_of}
use Rattle.cc_known.specs.FilledHoles.{HasAskedHolesBelow, holes_of, FillAlike, HasCheckingHolesBelow}
use Rattle.cc_known.specs.Keeping.{kept}
use Rattle.cc_type.proofs.CheckedHoles.{checking_adds_no_hole}
use Rattle.cc_known.proofs.FilledAlike.{lists_fill_alike}
use Rattle.cc_known.proofs.HolesBelow.{in_entry}
use Rattle.cc_known.proofs.KeptLists.{kept_is_not_settled, kept_forces_the_same, kept_is_served_alike, kept_fails_alike}
use Rattle.cc_known.proofs.KeptLists.{kept_is_fit}

-- each hole of the set is below the number
abbrev pub HolesIn : ℕ → Set → Type 0
HolesIn number set = (hole : ℕ) → Member (Hole hole) set → hole < number

-- each hole of both sides of a demand, and of the declared sets in its context
pub sides_below : (number : ℕ) (d : Demand) → HasAskedHolesBelow number (IsBelow d)
    → HolesIn number d.left × HolesIn number d.right
    × ((p : ℕ) (s : Shape) (c : Set) → lookup d.context p ≡ Some (TermEntry s c) → HolesIn number c)
sides_below number d k = (
  λ h m. k.1 (Hole h) m,
  λ h m. k.2 (Hole h) m,
  λ p s c there h m. (in_entry number d.context p (TermEntry s c) k.0 there).1 (Hole h) m,
)

-- what is kept of what is asked of a definition is fit, and has its holes alone
pub kept_of_checking : (devices : ℕ) (globals : Context) (definition : Definition) (found : Checking)
    (asked : List Placed)
    → Fits globals definition → HolesAreOfParameters definition.right
    → IsChecked devices globals definition (Found found asked)
    → AreFit globals (kept asked)
    × ((one : Asked) → IsAskedIn (kept asked) one → HasAskedHolesBelow (holes_of definition.right) one)
kept_of_checking devices globals definition found asked fits holes is = (
  kept_is_fit globals asked (asked_is_fit devices globals definition found asked fits holes is),
  λ one among. (checking_adds_no_hole devices globals definition found asked fits holes is).all one
      (kept_is_not_settled asked one among).0,
)

-- where the first of what is kept fails, that is the verdict
pub refused_by_kept : (devices : ℕ) (globals : Context) (definition : Definition) (found : Checking)
    (asked : List Placed)
    (filling : Filling) (code : Code) (at : Place)
    → AreFit globals asked → IsLeast (length globals) (kept asked) filling → FailsFirst filling (kept asked) code at
    → Deserves devices globals definition (Found found asked) (IsRefused code at)
refused_by_kept devices globals definition found asked filling code at fit least fails =
    let forced = (kept_forces_the_same (length globals) asked filling).0 least in
    let over = least_over_globals (length globals) asked filling forced in
    (filling, forced, inl (code, at, (kept_fails_alike globals filling asked code at fit over).0 fails, refl))

-- where all that is kept is served, the signature decides
pub decided_by_kept : (devices : ℕ) (globals : Context) (definition : Definition) (found : Checking)
    (asked : List Placed)
    (filling : Filling)
    → AreFit globals asked → IsLeast (length globals) (kept asked) filling → AllServed filling (kept asked)
    → Deserves devices globals definition (Found found asked)
    (signature_verdict filling definition found (signature_under filling devices globals found))
decided_by_kept devices globals definition found asked filling fit least serves =
    let forced = (kept_forces_the_same (length globals) asked filling).0 least in
    let over = least_over_globals (length globals) asked filling forced in
    (filling, forced, inr ((kept_is_served_alike globals filling asked fit over).0 serves, refl))

-- fillings that fill alike have one signature and one verdict
module _ (first second : Filling) (number : ℕ) (alike : FillAlike first second number) (found : Checking)
    (asked : List Placed)
    (few : HasCheckingHolesBelow number found asked) where
  pub signature_alike : (devices : ℕ) (globals : Context)
      → signature_under first devices globals found ≡ signature_under second devices globals found
  signature_alike devices globals =
      ap (settled_or found.settled devices globals) (alike.types found.type few.type)

  pub accepted_alike : (signature : CapturingType)
      → accepted_with first found signature ≡ accepted_with second found signature
  accepted_alike signature =
      λ i.
      record {
        note = alike.notes found.note few.note i;
        filled = alike.terms found.completed few.completed i;
        type = alike.types found.type few.type i;
        signature = signature;
      }

-- the list of sets that solving gives, as the code fills with it
pub accepted_by_list : (sets : List Set) (found : Checking) (asked : List Placed) (signature : CapturingType)
    → HasCheckingHolesBelow (length sets) found asked
    → accepted_with (filling_of sets) found signature ≡ accepted_with (filled_by sets) found signature
accepted_by_list sets found asked signature few =
    accepted_alike (filling_of sets) (filled_by sets) (length sets) (lists_fill_alike sets) found asked few signature

pub signature_by_list : (sets : List Set) (found : Checking) (asked : List Placed) (devices : ℕ) (globals : Context)
    → HasCheckingHolesBelow (length sets) found asked
    → signature_under (filling_of sets) devices globals found ≡ signature_under (filled_by sets) devices globals found
signature_by_list sets found asked devices globals few =
    signature_alike (filling_of sets) (filled_by sets) (length sets) (lists_fill_alike sets) found asked few devices
    globals
