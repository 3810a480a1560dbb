use Rattle.std.proofs.Common.{map, Some, None, sym, ap, ◌∙◌, subst}
use Rattle.std.specs.Prelude.{MatchOption}
use Rattle.std.proofs.lemmas.List.{length-map}
use Rattle.cc_core.specs.TermViews.{bind_of, term_of, context_of}
use Rattle.cc_checking.specs.Fillings.{AllServed}
use Rattle.cc_subty.specs.Demands.{asked_of}
use Rattle.cc_solve.specs.Solutions.{CanBeJudged, filling_of}
use Rattle.cc_known.specs.FilledHoles.{holes_of}
use Rattle.cc_check.specs.Definitions.{definition_of}
use Rattle.cc_check.proofs.JudgedDefinitions.{solvable, judged}
use Rattle.cc_causes.specs.Views.{locals_of, cause_of, binder_names_of}
use Rattle.cc_definition_reasoning.specs.ExplainedDefinitions.{checking_of}
use Rattle.cc_definition_reasoning.specs.Keeping.{FailsAt, IsUnsigned}
use Rattle.cc_definition_reasoning.specs.Reasons.{IsUnservedAt}
use Rattle.cc_definition_reasoning.proofs.AnsweredReasons.{keeps_plain, answered_at, unsigned_reason, no_reason}
use Rattle.cc_definition_reasoning.proofs.definition.reason_of_found.Goals as goal

pub solve-requires : goal.solve-requires
solve-requires c =
    let g = context_of c.args.ctx.now in
    let d = definition_of c.args.def.now in
    let ls = map (λ l. locals_of l.value) c.args.known.now in
    solvable c.args.devices g d (checking_of c.args.found) (asked_of c.args.demands.now) c.requires.fits c.requires.holes
    (keeps_plain c.args.devices g d (binder_names_of c.args.binders.now) (checking_of c.args.found) c.args.demands.now ls c.requires.fits
    c.requires.holes c.requires.keeps)
    c.len.result (c.len.ensures ∙ sym (length-map c.args.ctx.now bind_of)) c.in_ok-holes.holes
    (c.in_ok-holes.ensures ∙ ap (λ n. holes_of (term_of n)) c.deref.ensures)

pub first_failing-requires : goal.first_failing-requires
first_failing-requires c =
    let g = context_of c.args.ctx.now in
    let d = definition_of c.args.def.now in
    let ls = map (λ l. locals_of l.value) c.args.known.now in
    subst (λ ds. CanBeJudged (filling_of c.in_ok-filling.filling) (asked_of ds)) (sym c.as_slice-demands.ensures)
    (judged c.args.devices g d (checking_of c.args.found) (asked_of c.args.demands.now) c.requires.fits c.requires.holes
    (keeps_plain c.args.devices g d (binder_names_of c.args.binders.now) (checking_of c.args.found) c.args.demands.now ls c.requires.fits
    c.requires.holes c.requires.keeps)
    c.len.result (c.len.ensures ∙ sym (length-map c.args.ctx.now bind_of)) c.in_ok-filling.filling c.in_ok-filling.ensures.over)

pub returns-in-Some : goal.returns-in-Some
returns-in-Some c =
    let g = context_of c.args.ctx.now in
    let d = definition_of c.args.def.now in
    let ls = map (λ l. locals_of l.value) c.args.known.now in
    let sets = c.in_ok-filling.filling in
    let found : FailsAt (filling_of sets) c.as_slice-demands.result.now c.in-Some.place =
    subst (λ o. MatchOption o (AllServed (filling_of sets) (asked_of c.as_slice-demands.result.now))
    (λ place. FailsAt (filling_of sets) c.as_slice-demands.result.now place)) c.in-Some.is c.in_ok-place.ensures in
    let fails = subst (λ ds. FailsAt (filling_of sets) ds c.in-Some.place) c.as_slice-demands.ensures found in
    let told = subst (λ ds. IsUnservedAt sets ds ls c.in-Some.place c.in_ok-reasoned-in-Some.reasoned) c.as_slice-demands.ensures
    c.in_ok-reasoned-in-Some.ensures in
    answered_at c.args.devices g d (binder_names_of c.args.binders.now) (checking_of c.args.found) c.args.demands.now ls
    c.requires.fits c.requires.holes c.requires.keeps c.len.result (c.len.ensures ∙ sym (length-map c.args.ctx.now bind_of)) sets
    c.in_ok-filling.ensures.least c.in-Some.place fails
    (length-map c.args.known.now (λ l. locals_of l.value) ∙ c.requires.even) c.in_ok-reasoned-in-Some.reasoned told

pub returns-in-Some-2 : goal.returns-in-Some-2
returns-in-Some-2 c =
    let g = context_of c.args.ctx.now in
    let d = definition_of c.args.def.now in
    let ls = map (λ l. locals_of l.value) c.args.known.now in
    let sets = c.in_ok-filling.filling in
    let all : AllServed (filling_of sets) (asked_of c.as_slice-demands.result.now) =
    subst (λ o. MatchOption o (AllServed (filling_of sets) (asked_of c.as_slice-demands.result.now))
    (λ place. FailsAt (filling_of sets) c.as_slice-demands.result.now place)) c.in-None.is c.in_ok-place.ensures in
    let serves = subst (λ ds. AllServed (filling_of sets) (asked_of ds)) c.as_slice-demands.ensures all in
    let none : IsUnsigned c.args.devices g sets (checking_of c.args.found) (Some c.in-Some-2.cause) =
    subst (λ o. IsUnsigned c.args.devices g sets (checking_of c.args.found) o) c.in-Some-2.is
    (subst (λ fs. IsUnsigned c.args.devices g fs (checking_of c.args.found) c.in_ok-cause-in-None.field-0) c.as_slice.ensures
    c.in_ok-cause-in-None.ensures) in
    let enough = c.in_ok-filling.ensures.count ∙ c.in_ok-holes.ensures ∙ ap (λ n. holes_of (term_of n)) c.deref.ensures in
    unsigned_reason c.args.devices g d (binder_names_of c.args.binders.now) (checking_of c.args.found) c.args.demands.now ls
    c.requires.fits c.requires.holes c.requires.keeps c.len.result (c.len.ensures ∙ sym (length-map c.args.ctx.now bind_of)) sets
    c.in_ok-filling.ensures.least serves enough (cause_of c.in_ok-new-in-Some-2.field-0.value) none.0
    (ap cause_of c.in_ok-new-in-Some-2.ensures.ok ∙ none.1)

pub returns : goal.returns
returns c =
    let g = context_of c.args.ctx.now in
    let d = definition_of c.args.def.now in
    let ls = map (λ l. locals_of l.value) c.args.known.now in
    let sets = c.in_ok-filling.filling in
    let all : AllServed (filling_of sets) (asked_of c.as_slice-demands.result.now) =
    subst (λ o. MatchOption o (AllServed (filling_of sets) (asked_of c.as_slice-demands.result.now))
    (λ place. FailsAt (filling_of sets) c.as_slice-demands.result.now place)) c.in-None.is c.in_ok-place.ensures in
    let serves = subst (λ ds. AllServed (filling_of sets) (asked_of ds)) c.as_slice-demands.ensures all in
    let some : IsUnsigned c.args.devices g sets (checking_of c.args.found) None =
    subst (λ o. IsUnsigned c.args.devices g sets (checking_of c.args.found) o) c.in-None-2.is
    (subst (λ fs. IsUnsigned c.args.devices g fs (checking_of c.args.found) c.in_ok-cause-in-None.field-0) c.as_slice.ensures
    c.in_ok-cause-in-None.ensures) in
    let enough = c.in_ok-filling.ensures.count ∙ c.in_ok-holes.ensures ∙ ap (λ n. holes_of (term_of n)) c.deref.ensures in
    no_reason c.args.devices g d (binder_names_of c.args.binders.now) (checking_of c.args.found) c.args.demands.now ls
    c.requires.fits c.requires.holes c.requires.keeps c.len.result (c.len.ensures ∙ sym (length-map c.args.ctx.now bind_of)) sets
    c.in_ok-filling.ensures.least serves enough some
