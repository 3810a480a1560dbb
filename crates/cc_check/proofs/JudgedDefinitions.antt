-- From what is kept of all that is asked to the verdict of a definition.
use Rattle.std.proofs.Common.{◌≡◌, ℕ, List, [], length, Option, Some, None, Result, Ok, Err, refl, sym, ap, ◌∙◌, subst, arith}
use Rattle.std.specs.Prelude.{MatchOption}
use Rattle.cc_base.specs.declared.code.Code.{Code}
use Rattle.cc_base.specs.declared.code.Diag.{Diag}
use Rattle.cc_base.specs.declared.place.Place.{Place}
use Rattle.cc_capture.specs.Sets.{Set}
use Rattle.cc_core.specs.Actions.{filled_by}
use Rattle.cc_core.specs.Shapes.{CapturingType}
use Rattle.cc_core.specs.Substitution.{filled_type}
use Rattle.cc_core.specs.Contexts.{Context}
use Rattle.cc_core.specs.WellFormed.{kinds_of, IsWellFormedType}
use Rattle.cc_core.proofs.KindFacts.{IsKindedType, IsKindedType-test}
use Rattle.cc_core.proofs.Sorts.{TypeSort}
use Rattle.cc_core.proofs.SubcapturingContexts.{IsKindedContext-from}
use Rattle.cc_checking.specs.Outcomes.{Asked, IsBelow, IsCapless, Placed, Refused, Found}
use Rattle.cc_checking.specs.Fillings.{AllServed, IsAskedIn, IsLeast, IsOverGlobals, FailsFirst}
use Rattle.cc_checking.specs.Verdicts.{Definition, Checking, checked, Verdict}
use Rattle.cc_checking.specs.Verdicts.{IsAccepted, IsRefused, Deserves, HasVerdict, signature_under, signature_verdict}
use Rattle.cc_checking_laws.specs.CheckingLaws.{Fits}
use Rattle.cc_checking_laws.specs.FillingLaws.{AreFit}
use Rattle.cc_core.specs.Holes.{HolesAreOfParameters}
use Rattle.cc_checking_laws.proofs.CheckedDefinitions.{all_terms}
use Rattle.cc_checking_laws.proofs.FilledTyping.{fill_kinded}
use Rattle.cc_checking_laws.proofs.FitDemands.{asked_is_fit}
use Rattle.cc_checking_laws.proofs.LeastFillings.{globals_still}
use Rattle.cc_checking_laws.proofs.ReadingKinds.{outermost}
use Rattle.cc_type.specs.Comparing.{most_steps}
use Rattle.cc_solve.specs.Solutions.{AsksOfHolesBelow, AreSolvable, CanBeJudged, filling_of}
use Rattle.cc_known.specs.FilledHoles.{HasAskedHolesBelow, holes_of, HasCheckingHolesBelow}
use Rattle.cc_known.specs.Keeping.{kept}
use Rattle.cc_known.specs.declared.stop.Stop.{Stop}
use Rattle.cc_known.specs.declared.stop.Stop.TheVariants as stops
use Rattle.cc_known.specs.Logs.{Got, Stopped, Meets}
use Rattle.cc_type.specs.Rows.{ways}
use Rattle.cc_type.proofs.CheckedHoles.{checking_adds_no_hole}
use Rattle.cc_known.proofs.FilledAlike.{lists_fill_alike}
use Rattle.cc_type.proofs.KeptVerdicts.{sides_below, kept_of_checking, refused_by_kept}
use Rattle.cc_type.proofs.KeptVerdicts.{decided_by_kept, accepted_by_list, signature_by_list}
use Rattle.cc_check.specs.declared.error.CheckError.{CheckError}
use Rattle.cc_check.specs.declared.error.CheckError.TheVariants as errors
use Rattle.cc_core.specs.declared.terms.Checked.{Checked}
use Rattle.cc_check.specs.Definitions.{checking_of}
use Rattle.cc_check.specs.Judging.{Answers, Judges, KeepsOf, error_of}
use Rattle.cc_check.specs.Rows.{checked_log}
use Rattle.cc_check.proofs.CheckedLogs.{checked_logs}
use Rattle.cc_check.proofs.CheckedTypes.{checked_kinded}
use Rattle.cc_check.proofs.LoggedSteps.{got_parts, stopped_parts}

-- what is found, from what it comes to behind the log with nothing
pub keeps_of : (devices : ℕ) (globals : Context) (definition : Definition) (found : Checking) (log : List Placed)
    → checked_log devices globals definition [] ≡ Got found log → KeepsOf devices globals definition found log
keeps_of devices globals definition found log e =
    let p = got_parts [] (checked ways devices globals definition) found log
    (sym (checked_logs devices globals definition []) ∙ e) in
    (p.0, (most_steps, p.1, λ none. cc), p.2)

-- a refusal on the way is the verdict
pub refused_on_the_way : (devices : ℕ) (globals : Context) (definition : Definition) (code : Code) (at : Place)
    → checked_log devices globals definition [] ≡ Stopped code at
    → HasVerdict devices globals definition (IsRefused code at)
refused_on_the_way devices globals definition code at e =
    let is = stopped_parts [] (checked ways devices globals definition) code at
    (sym (checked_logs devices globals definition []) ∙ e) in
    (Refused code at, (most_steps, is, λ none. cc), refl)

-- the verdict that is answered
judges : (devices : ℕ) (globals : Context) (definition : Definition) (result : Result Checked CheckError)
    (verdict : Verdict) → HasVerdict devices globals definition verdict → Answers result verdict
    → Judges devices globals definition result
judges devices globals definition (Ok checked) verdict has is = subst (HasVerdict devices globals definition) is has
judges devices globals definition (Err (errors.Refused diag)) verdict has is =
    subst (HasVerdict devices globals definition) is has
judges devices globals definition (Err errors.NoMemory) verdict has is = tt

asks_below : (number : ℕ) (one : Asked) → HasAskedHolesBelow number one → AsksOfHolesBelow number one
asks_below number (IsBelow d) h = sides_below number d h
asks_below number (IsCapless c) h = tt

module _ (devices : ℕ) (globals : Context) (definition : Definition) (found : Checking) (log : List Placed)
    (fits : Fits globals definition) (holes : HolesAreOfParameters definition.right)
    (keeps : KeepsOf devices globals definition found log) (number : ℕ) (counts : number ≡ length globals) where
  fit_kept : AreFit globals (kept keeps.0)
      × ((one : Asked) → IsAskedIn (kept keeps.0) one → HasAskedHolesBelow (holes_of definition.right) one)
  fit_kept = kept_of_checking devices globals definition found keeps.0 fits holes keeps.1

  all_fit : AreFit globals keeps.0
  all_fit = asked_is_fit devices globals definition found keeps.0 fits holes keeps.1

  -- it can be solved
  pub solvable : (many : ℕ) → many ≡ holes_of definition.right → AreSolvable number many log
  solvable many is =
      subst (AreSolvable number many) (sym keeps.2)
      (record {
        base = globals;
        so_many = sym counts;
        fit = fit_kept.0;
        numbered = λ one among. asks_below many one (subst (λ n. HasAskedHolesBelow n one) (sym is) (fit_kept.1 one among));
      })

  over_globals : (sets : List Set) → IsOverGlobals number (filling_of sets) → IsOverGlobals (length globals) (filling_of sets)
  over_globals sets over = subst (λ n. IsOverGlobals n (filling_of sets)) counts over

  -- and judged
  pub judged : (sets : List Set) → IsOverGlobals number (filling_of sets) → CanBeJudged (filling_of sets) log
  judged sets over =
      subst (CanBeJudged (filling_of sets)) (sym keeps.2) (globals, fit_kept.0, over_globals sets over)

  least_kept : (sets : List Set) → IsLeast number log (filling_of sets) → IsLeast (length globals) (kept keeps.0) (filling_of sets)
  least_kept sets least =
      subst (λ n. IsLeast n (kept keeps.0) (filling_of sets)) counts
      (subst (λ l. IsLeast number l (filling_of sets)) keeps.2 least)

  -- the first that fails is the verdict
  refused_by_demand : (sets : List Set) (code : Code) (at : Place) → IsLeast number log (filling_of sets)
      → FailsFirst (filling_of sets) log code at → HasVerdict devices globals definition (IsRefused code at)
  refused_by_demand sets code at least fails = (
    Found found keeps.0,
    keeps.1,
    refused_by_kept devices globals definition found keeps.0 (filling_of sets) code at all_fit (least_kept sets least)
        (subst (λ l. FailsFirst (filling_of sets) l code at) keeps.2 fails),
  )

  module _ (sets : List Set) (enough : length sets ≡ holes_of definition.right) where
    few : HasCheckingHolesBelow (length sets) found keeps.0
    few =
        subst (λ n. HasCheckingHolesBelow n found keeps.0) (sym enough)
        (checking_adds_no_hole devices globals definition found keeps.0 fits holes keeps.1)

    by_option : (o : Option CapturingType)
        → signature_verdict (filling_of sets) definition found o ≡ signature_verdict (filled_by sets) definition found o
    by_option (Some s) = ap (λ a. IsAccepted a) (accepted_by_list sets found keeps.0 s few)
    by_option None = refl

    -- the two readings of the list of sets have one verdict
    same_verdict : signature_verdict (filling_of sets) definition found
        (signature_under (filling_of sets) devices globals found)
        ≡ signature_verdict (filled_by sets) definition found (signature_under (filled_by sets) devices globals found)
    same_verdict =
        ap (signature_verdict (filling_of sets) definition found) (signature_by_list sets found keeps.0 devices globals few)
        ∙ by_option (signature_under (filled_by sets) devices globals found)

    decided : IsLeast number log (filling_of sets) → AllServed (filling_of sets) log
        → HasVerdict devices globals definition
        (signature_verdict (filled_by sets) definition found (signature_under (filled_by sets) devices globals found))
    decided least serves = (
      Found found keeps.0,
      keeps.1,
      subst (Deserves devices globals definition (Found found keeps.0)) same_verdict
          (decided_by_kept devices globals definition found keeps.0 (filling_of sets) all_fit (least_kept sets least)
          (subst (AllServed (filling_of sets)) keeps.2 serves)),
    )

    -- what fails first decides, and where nothing does, the signature
    pub decided_by_failure : IsLeast number log (filling_of sets) → (failed : Option Diag)
        → MatchOption failed (AllServed (filling_of sets) log)
        (λ diag. FailsFirst (filling_of sets) log diag.code diag.place)
        → (result : Result Checked CheckError)
        → MatchOption failed
        (Answers result
        (signature_verdict (filled_by sets) definition found
        (signature_under (filled_by sets) devices globals found)))
        (λ diag. Answers result (IsRefused diag.code diag.place))
        → Judges devices globals definition result
    decided_by_failure least None serves result is =
        judges devices globals definition result _ (decided least serves) is
    decided_by_failure least (Some diag) fails result is =
        judges devices globals definition result (IsRefused diag.code diag.place)
        (refused_by_demand sets diag.code diag.place least fails) is

    found_kinded : IsKindedType (kinds_of globals) [] found.type
    found_kinded = checked_kinded devices globals definition found keeps.0 fits keeps.1

    -- the filled type is well formed
    pub filled_well_formed : IsOverGlobals number (filling_of sets)
        → IsWellFormedType globals (filled_type (filled_by sets) found.type)
    filled_well_formed over =
        let kinded = subst (λ g. IsKindedType (kinds_of g) [] (filled_type (filling_of sets) found.type))
        (globals_still (filling_of sets) globals fits.globals_alone)
        (fill_kinded globals (length globals) (omega arith) (filling_of sets) (over_globals sets over)
        (all_terms globals fits.globals_alone) outermost (IsKindedContext-from globals fits.formed) TypeSort found.type
        found_kinded) in
        IsKindedType-test (kinds_of globals) [] (filled_type (filled_by sets) found.type)
        (subst (IsKindedType (kinds_of globals) []) ((lists_fill_alike sets).types found.type few.type) kinded)

-- where inference stops, that is the verdict
pub judged_by_stop : (devices : ℕ) (globals : Context) (definition : Definition) (log : List Placed) (stop : Stop)
    → Meets checking_of (Err stop) log (checked_log devices globals definition [])
    → Judges devices globals definition (Err (error_of stop))
judged_by_stop devices globals definition log (stops.Refused diag) is =
    refused_on_the_way devices globals definition diag.code diag.place is
judged_by_stop devices globals definition log stops.NoMemory is = tt
