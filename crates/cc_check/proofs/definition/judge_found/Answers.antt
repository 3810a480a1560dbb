use Rattle.std.proofs.Common.{sym, ap, ◌∙◌, subst}
use Rattle.std.specs.Prelude.{MatchOption}
use Rattle.std.proofs.lemmas.List.{length-map}
use Rattle.cc_core.specs.Actions.{filled_by}
use Rattle.cc_core.specs.Substitution.{filled_type}
use Rattle.cc_core.specs.TermViews.{bind_of, type_of, term_of, context_of}
use Rattle.cc_core.specs.WellFormed.{IsWellFormedType}
use Rattle.cc_checking.specs.Verdicts.{IsRefused, signature_under, signature_verdict}
use Rattle.cc_subty.specs.Demands.{asked_of}
use Rattle.cc_known.specs.FilledHoles.{holes_of}
use Rattle.cc_check.specs.Definitions.{definition_of, checking_of}
use Rattle.cc_check.specs.Judging.{Answers}
use Rattle.cc_check.proofs.JudgedDefinitions.{solvable, judged, decided_by_failure, filled_well_formed}
use Rattle.cc_check.proofs.definition.judge_found.Goals as goal

pub solve-requires : goal.solve-requires
solve-requires c =
    solvable c.args.devices (context_of c.args.ctx.now) (definition_of c.args.def.now) (checking_of c.args.found)
    (asked_of c.args.demands.now) c.requires.fits c.requires.holes c.requires.keeps c.len.result
    (c.len.ensures ∙ sym (length-map c.args.ctx.now bind_of)) c.in_ok-holes.holes
    (c.in_ok-holes.ensures ∙ ap (λ n. holes_of (term_of n)) c.deref.ensures)

pub first_failed-requires : goal.first_failed-requires
first_failed-requires c =
    judged c.args.devices (context_of c.args.ctx.now) (definition_of c.args.def.now) (checking_of c.args.found)
    (asked_of c.args.demands.now) c.requires.fits c.requires.holes c.requires.keeps c.len.result
    (c.len.ensures ∙ sym (length-map c.args.ctx.now bind_of)) c.in_ok-filling.filling c.in_ok-filling.ensures.over

pub decide-requires-clause-ty : goal.decide-requires-clause-ty
decide-requires-clause-ty c =
    subst (λ sets. IsWellFormedType (context_of c.args.ctx.now) (filled_type (filled_by sets) (type_of c.args.found.ty)))
    (sym c.as_slice.ensures)
    (filled_well_formed c.args.devices (context_of c.args.ctx.now) (definition_of c.args.def.now)
    (checking_of c.args.found) (asked_of c.args.demands.now) c.requires.fits c.requires.holes c.requires.keeps
    c.len.result (c.len.ensures ∙ sym (length-map c.args.ctx.now bind_of)) c.in_ok-filling.filling
    (c.in_ok-filling.ensures.count ∙ c.in_ok-holes.ensures ∙ ap (λ n. holes_of (term_of n)) c.deref.ensures)
    c.in_ok-filling.ensures.over)

pub returns-clause-verdict : goal.returns-clause-verdict
returns-clause-verdict c =
    decided_by_failure c.args.devices (context_of c.args.ctx.now) (definition_of c.args.def.now)
    (checking_of c.args.found) (asked_of c.args.demands.now) c.requires.fits c.requires.holes c.requires.keeps
    c.len.result (c.len.ensures ∙ sym (length-map c.args.ctx.now bind_of)) c.in_ok-filling.filling
    (c.in_ok-filling.ensures.count ∙ c.in_ok-holes.ensures ∙ ap (λ n. holes_of (term_of n)) c.deref.ensures)
    c.in_ok-filling.ensures.least c.in_ok-failed.failed c.in_ok-failed.ensures c.decide.result
    (subst (λ sets. MatchOption c.in_ok-failed.failed
    (Answers c.decide.result
    (signature_verdict (filled_by sets) (definition_of c.args.def.now) (checking_of c.args.found)
    (signature_under (filled_by sets) c.args.devices (context_of c.args.ctx.now) (checking_of c.args.found))))
    (λ diag. Answers c.decide.result (IsRefused diag.code diag.place))) c.as_slice.ensures c.decide.ensures.verdict)
