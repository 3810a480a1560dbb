use Rattle.std.proofs.Common.{length, refl, sym, ◌∙◌}
use Rattle.std.proofs.lemmas.Bool.{ltb-true}
use Rattle.std.proofs.lemmas.Option.{slice_get_read}
use Rattle.cc_import_reasoning.proofs.GivenImports.{verdict_at, not_past, absent_tells, accepted_tells}
use Rattle.cc_module.specs.Judgements.{module_verdict_of}
use Rattle.cc_import_reasoning.proofs.reason.refusal.Goals as goal

pub returns-in-Ok : goal.returns-in-Ok
returns-in-Ok c = λ texts all are.
    let verdicts = c.args.verdicts.now in
    let at = c.in-Some.at in
    let entry = c.in-Some-get.entry.now in
    let found = c.in-Some-get.ensures.lookup in
    let there = slice_get_read verdicts (length verdicts) at entry refl (ltb-true at (length verdicts) (sym found.0)) found.1 in
    accepted_tells texts all c.args.source.now (module_verdict_of entry.1) _ c.in-Ok.ensures.ok
    (verdict_at verdicts texts all are at c.args.source.now entry c.in-Some.ensures there)

pub returns-in-Err : goal.returns-in-Err
returns-in-Err c = λ texts all are.
    let verdicts = c.args.verdicts.now in
    let at = c.in-Some.at in
    let entry = c.in-Some-get.entry.now in
    let found = c.in-Some-get.ensures.lookup in
    let there = slice_get_read verdicts (length verdicts) at entry refl (ltb-true at (length verdicts) (sym found.0)) found.1 in
    sym (verdict_at verdicts texts all are at c.args.source.now entry c.in-Some.ensures there) ∙ c.in-Err.ensures.err

pub returns-in-None-get : goal.returns-in-None-get
returns-in-None-get c = λ texts all are.
    absurd (not_past c.args.verdicts.now c.in-Some.at c.args.source.now c.in-Some.ensures c.in-None-get.ensures.lookup.0)

pub returns-in-None : goal.returns-in-None
returns-in-None c = λ texts all are. absent_tells c.args.verdicts.now texts all are c.args.source.now c.in-None.ensures
