-- From what is kept of all that is asked to the reason of a definition.
use Rattle.std.proofs.Common.{◌≡◌, ◌≢◌, ℕ, zero, suc, ◌<◌, List, [], ◌∷◌, ◌++◌, length, take, Option, Some, None}
use Rattle.std.proofs.Common.{Result, Ok, Err, IfOk, inl, inr, refl, sym, ap, ◌∙◌, subst, arith}
use Rattle.std.specs.Prelude.{slice_get}
use Rattle.std.proofs.lemmas.Option.{slice_get_within}
use Rattle.cc_base.specs.declared.place.Place.{Place}
use Rattle.cc_capture.specs.Sets.{Set}
use Rattle.cc_core.specs.Actions.{filled_by}
use Rattle.cc_core.specs.Contexts.{Context}
use Rattle.cc_core.specs.Holes.{HolesAreOfParameters}
use Rattle.cc_core.specs.Shapes.{CapturingType}
use Rattle.cc_core.specs.Substitution.{filled_type}
use Rattle.cc_checking.specs.Fillings.{Filling, AllServed, IsLeast, IsOverGlobals}
use Rattle.cc_checking.specs.Outcomes as plain
use Rattle.cc_checking.specs.Outcomes.{Placed}
use Rattle.cc_checking.specs.Verdicts.{Definition, Checking, Accepted, IsAccepted, IsRefused, IsChecked, Deserves}
use Rattle.cc_checking.specs.Verdicts.{signature_under, signature_verdict, accepted_with}
use Rattle.cc_checking_laws.specs.CheckingLaws.{Fits}
use Rattle.cc_checking_laws.specs.FillingLaws.{AreFit}
use Rattle.cc_checking_laws.proofs.FitDemands.{asked_is_fit}
use Rattle.cc_checking_laws.proofs.LeastFillings.{least_over_globals}
use Rattle.cc_checking_laws.proofs.OneVerdict.{one_verdict}
use Rattle.cc_subty.specs.declared.demands.Demand.{Demand as DeclaredDemand}
use Rattle.cc_subty.specs.Demands.{asked_of, demand_of}
use Rattle.cc_solve.specs.Solutions.{filling_of}
use Rattle.cc_known.specs.FilledHoles.{HasCheckingHolesBelow, holes_of}
use Rattle.cc_known.specs.Keeping.{kept}
use Rattle.cc_known.proofs.FilledAlike.{lists_fill_alike}
use Rattle.cc_known.proofs.KeptLists.{kept_forces_the_same, kept_is_served_alike}
use Rattle.cc_type.specs.Comparing.{most_steps}
use Rattle.cc_type.specs.Rows.{ways}
use Rattle.cc_type.proofs.CheckedHoles.{checking_adds_no_hole}
use Rattle.cc_type.proofs.KeptVerdicts.{decided_by_kept, signature_by_list}
use Rattle.cc_check.specs.Judging.{KeepsOf}
use Rattle.std.specs.declared.alloc.AllocError.{AllocError}
use Rattle.cc_causes.specs.declared.reason.Halt.{Halt}
use Rattle.cc_causes.specs.declared.reason.Halt.TheVariants as halts
use Rattle.cc_causes.specs.Views.{cause_of}
use Rattle.cc_reasons.specs.Causes.{Local, Located, located, Cause, Explained, Refused, Found, outcome_of}
use Rattle.cc_reasons.specs.DefinitionReasons.{DefinitionReason, OfStep, unserved, unsigned_cause, code_of_reason}
use Rattle.cc_reasons.specs.DefinitionReasons.{placed_of, FailsFirstAs, Tells, HasReason, explained_definition}
use Rattle.cc_reasons.specs.ExplainedInference.{BinderNames}
use Rattle.cc_reasons.proofs.DefinitionOutcomes.{explained_definitions_are_checked, reasons_are_of_refusals}
use Rattle.cc_reasoning.specs.LocatedLogs.{Got, Stopped, Meets, after, keeping, beside}
use Rattle.cc_reasoning.proofs.LocatedSteps.{placed_of-keeping, placed_of-beside}
use Rattle.cc_definition_reasoning.specs.ExplainedDefinitions.{checking_of, definition_log}
use Rattle.cc_definition_reasoning.specs.Keeping.{Keeps, FailsAt}
use Rattle.cc_definition_reasoning.specs.Reasons.{reason_of, IsAnswered, IsRefusal, IsUnservedAt}
use Rattle.cc_definition_reasoning.specs.declared.reason.Reasoned.{Reasoned}
use Rattle.cc_definition_reasoning.proofs.DefinitionLogs.{definition_logs}
use Rattle.cc_definition_reasoning.proofs.KeptFailures.{fails_first_of_all}

-- what steps came to, from what they come to behind a log
got_from : {A : Type 0} (o : Explained A) (value : A) (log : List Located) → after [] o ≡ Got value log
    → (asked : List Located) × (o ≡ Found value asked) × (log ≡ keeping [] asked)
got_from (Found value asked) value' log is = (asked, cc, cc)
got_from (Refused cause at) value log is = cc
got_from _ value log is = cc

stopped_from : {A : Type 0} (o : Explained A) (cause : Cause) (at : Place) → after [] o ≡ Stopped cause at
    → o ≡ Refused cause at
stopped_from (Found value asked) cause at is = cc
stopped_from (Refused cause' at') cause at is = cc
stopped_from _ cause at is = cc

-- what is found, and what is kept
pub keeps_from : (devices : ℕ) (globals : Context) (definition : Definition) (names : BinderNames) (found : Checking)
    (list : List Placed) (locals : List (List Local))
    → definition_log devices globals definition names [] ≡ Got found (beside list locals)
    → Keeps devices globals definition names found list locals
keeps_from devices globals definition names found list locals is =
    got_from (explained_definition ways devices globals definition names) found (beside list locals)
    (sym (definition_logs devices globals definition names []) ∙ is)

-- a refusal on the way is the reason
pub stopped_reason : (devices : ℕ) (globals : Context) (definition : Definition) (names : BinderNames) (cause : Cause)
    (at : Place)
    → definition_log devices globals definition names [] ≡ Stopped cause at
    → HasReason devices globals definition names (OfStep cause) at
stopped_reason devices globals definition names cause at is =
    let refused = stopped_from (explained_definition ways devices globals definition names) cause at
    (sym (definition_logs devices globals definition names []) ∙ is) in
    (most_steps, subst (λ o. Tells devices globals definition o (OfStep cause) at) (sym refused) (refl, refl))

-- the same of what explaining stops with
pub halted_reason : (devices : ℕ) (globals : Context) (definition : Definition) (names : BinderNames) (halt : Halt)
    (log : List Located) (result : Result (Option Reasoned) AllocError)
    → Meets checking_of (Err halt) log (definition_log devices globals definition names []) → IsRefusal halt result
    → IfOk result (IsAnswered devices globals definition names)
halted_reason devices globals definition names (halts.Refused cause at) log (Ok (Some found)) is told =
    subst (λ r. HasReason devices globals definition names r found.at) (sym told.0)
    (subst (λ p. HasReason devices globals definition names (OfStep (cause_of cause.value)) p) (sym told.1)
    (stopped_reason devices globals definition names (cause_of cause.value) at is))
halted_reason devices globals definition names (halts.Refused cause at) log (Ok None) is told = absurd told
halted_reason devices globals definition names halts.NoMemory log (Ok found) is told = absurd told
halted_reason devices globals definition names halt log (Err error) is told = tt

-- the one at a place stands behind a front of the list
stands_behind : (demands : List DeclaredDemand) (locals : List (List Local)) (place : ℕ) (one : DeclaredDemand)
    (here : List Local) → slice_get demands place ≡ Some one → slice_get locals place ≡ Some here
    → (before after : List Located)
    × (beside (asked_of demands) locals ≡ before ++ located here (demand_of one) ∷ after)
    × (placed_of before ≡ asked_of (take place demands))
stands_behind [] locals place one here is known = cc
stands_behind (first ∷ demands) [] place one here is known = cc
stands_behind (first ∷ demands) (l ∷ locals) zero one here is known =
    let same : first ≡ one = cc in
    let there : l ≡ here = cc in (
      [],
      beside (asked_of demands) locals,
      (λ i. located (there i) (demand_of (same i)) ∷ beside (asked_of demands) locals),
      refl,
    )
stands_behind (first ∷ demands) (l ∷ locals) (suc place) one here is known =
    let rest = stands_behind demands locals place one here is known in (
      located l (demand_of first) ∷ rest.0,
      rest.1,
      ap (λ t. located l (demand_of first) ∷ t) rest.2,
      ap (λ t. demand_of first ∷ t) rest.3,
    )

-- below the length of a list something stands at a place
there_is : {A : Type 0} (xs : List A) (i : ℕ) → i < length xs → (x : A) × (slice_get xs i ≡ Some x)
there_is [] i below = absurd (omega (arith, below))
there_is (x ∷ xs) zero below = (x, refl)
there_is (x ∷ xs) (suc i) below = there_is xs i (omega (arith, below))

module _ (devices : ℕ) (globals : Context) (definition : Definition) (names : BinderNames) (found : Checking)
    (demands : List DeclaredDemand) (locals : List (List Local)) (fits : Fits globals definition)
    (holes : HolesAreOfParameters definition.right)
    (keeps : Keeps devices globals definition names found (asked_of demands) locals) where
  -- it is checked
  is_checked : IsChecked devices globals definition (plain.Found found (placed_of keeps.0))
  is_checked = (
    most_steps,
    sym (explained_definitions_are_checked ways devices globals definition names) ∙ ap outcome_of keeps.1,
    λ none. cc,
  )

  kept_is : asked_of demands ≡ kept (placed_of keeps.0)
  kept_is =
      sym (placed_of-beside (asked_of demands) locals) ∙ ap placed_of keeps.2 ∙ placed_of-keeping [] keeps.0

  -- and what is kept is kept of all that is asked
  pub keeps_plain : KeepsOf devices globals definition found (asked_of demands)
  keeps_plain = (placed_of keeps.0, is_checked, kept_is)

  all_fit : AreFit globals (placed_of keeps.0)
  all_fit = asked_is_fit devices globals definition found (placed_of keeps.0) fits holes is_checked

  module _ (number : ℕ) (counts : number ≡ length globals) (sets : List Set)
      (least : IsLeast number (asked_of demands) (filling_of sets)) where
    abbrev filling : Filling
    filling = filling_of sets

    least_of_kept : IsLeast (length globals) (kept (placed_of keeps.0)) filling
    least_of_kept =
        subst (λ n. IsLeast n (kept (placed_of keeps.0)) filling) counts
        (subst (λ l. IsLeast number l filling) kept_is least)

    least_of_all : IsLeast (length globals) (placed_of keeps.0) filling
    least_of_all = (kept_forces_the_same (length globals) (placed_of keeps.0) filling).0 least_of_kept

    over : IsOverGlobals (length globals) filling
    over = least_over_globals (length globals) (placed_of keeps.0) filling least_of_all

    -- with what is told of what is found
    reasoned : (reason : DefinitionReason) (at : Place)
        → Tells devices globals definition (Found found keeps.0) reason at
        → HasReason devices globals definition names reason at
    reasoned reason at tells =
        (most_steps, subst (λ o. Tells devices globals definition o reason at) (sym keeps.1) tells)

    -- what fails first is the reason
    pub failing_reason : (place : ℕ) (here : List Local) → (fails : FailsAt filling demands place)
        → slice_get locals place ≡ Some here
        → HasReason devices globals definition names (unserved filling here (demand_of fails.0).asked) (demand_of fails.0).at
    failing_reason place here fails known =
        let parts = stands_behind demands locals place fails.0 here fails.1 known in
        let first : FailsFirstAs filling (keeping [] keeps.0) (located here (demand_of fails.0)) = record {
          before = parts.0;
          after = parts.1;
          stands = sym keeps.2 ∙ parts.2;
          served = subst (AllServed filling) (sym parts.3) fails.2;
          fails = fails.3;
        } in
        reasoned (unserved filling here (demand_of fails.0).asked) (demand_of fails.0).at (
          filling,
          least_of_all,
          inl (
            located here (demand_of fails.0),
            fails_first_of_all globals filling keeps.0 (located here (demand_of fails.0)) all_fit over first,
            refl,
            refl,
          ),
        )

    -- and so is the answer that tells it
    pub answered_at : (place : ℕ) → FailsAt filling demands place → length locals ≡ length demands → (found : Reasoned)
        → IsUnservedAt sets demands locals place found
        → HasReason devices globals definition names (reason_of found.reason) found.at
    answered_at place fails even found told =
        let within : place < length demands = slice_get_within demands place fails.0 fails.1 in
        let here = there_is locals place (omega (arith, within, even)) in
        let same = told fails.0 here.0 fails.1 here.1 in
        subst (λ r. HasReason devices globals definition names r found.at) (sym same.0)
        (subst (λ p. HasReason devices globals definition names
        (unserved filling here.0 (demand_of fails.0).asked) p) (sym same.1)
        (failing_reason place here.0 fails here.1))

    module _ (serves : AllServed filling (asked_of demands)) (enough : length sets ≡ holes_of definition.right) where
      few : HasCheckingHolesBelow (length sets) found (placed_of keeps.0)
      few =
          subst (λ n. HasCheckingHolesBelow n found (placed_of keeps.0)) (sym enough)
          (checking_adds_no_hole devices globals definition found (placed_of keeps.0) fits holes is_checked)

      serves_kept : AllServed filling (kept (placed_of keeps.0))
      serves_kept = subst (AllServed filling) kept_is serves

      signature_same : signature_under filling devices globals found ≡ signature_under (filled_by sets) devices globals found
      signature_same = signature_by_list sets found (placed_of keeps.0) devices globals few

      -- that there is no signature
      pub unsigned_reason : (cause : Cause) → signature_under (filled_by sets) devices globals found ≡ None
          → cause ≡ unsigned_cause globals (filled_type (filled_by sets) found.type)
          → HasReason devices globals definition names (OfStep cause) definition.name_at
      unsigned_reason cause none is =
          reasoned (OfStep cause) definition.name_at (
            filling,
            least_of_all,
            inr (
              (kept_is_served_alike globals filling (placed_of keeps.0) all_fit over).0 serves_kept,
              signature_same ∙ none,
              ap OfStep is
                  ∙ ap (λ t. OfStep (unsigned_cause globals t)) (sym ((lists_fill_alike sets).types found.type few.type)),
              refl,
            ),
          )

      accepted_by : (o : Option CapturingType) → o ≢ None
          → (accepted : Accepted) × (signature_verdict filling definition found o ≡ IsAccepted accepted)
      accepted_by None some = absurd (some refl)
      accepted_by (Some signature) some = (accepted_with filling found signature, refl)

      -- and with one there is no reason
      pub no_reason : signature_under (filled_by sets) devices globals found ≢ None → (reason : DefinitionReason) (at : Place)
          → HasReason devices globals definition names reason at → ⊥
      no_reason some reason at has =
          let accepted = accepted_by (signature_under filling devices globals found)
          (λ none. some (sym signature_same ∙ none)) in
          let one = one_verdict devices globals definition (IsRefused (code_of_reason reason) at) (IsAccepted accepted.0)
          (reasons_are_of_refusals devices globals definition names reason at has) (
            plain.Found found (placed_of keeps.0),
            is_checked,
            subst (Deserves devices globals definition (plain.Found found (placed_of keeps.0))) accepted.1
                (decided_by_kept devices globals definition found (placed_of keeps.0) filling all_fit least_of_kept serves_kept),
          ) in
          cc
