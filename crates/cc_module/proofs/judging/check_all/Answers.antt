use Rattle.std.proofs.Common.{map, sym, ◌∙◌, subst}
use Rattle.std.proofs.lemmas.List.{length-map}
use Rattle.std.proofs.lemmas.List.{drop_all}
use Rattle.std.proofs.lemmas.Result.{err_from_is_err_and}
use Rattle.cc_core.specs.TermViews.{bind_of, context_of}
use Rattle.cc_mnf.specs.CoreModules.{definition_of}
use Rattle.cc_module.specs.Judgements.{checked_definition_of}
use Rattle.cc_module.proofs.JudgedTexts.{StandsAt, stands_at_start, checked_more, checked_stops, checked_end}
use Rattle.cc_known.specs.Measures.{AreAllMeasuresOf}
use Rattle.cc_type.proofs.MeasuredEntries.{all_unmeasured}
use Rattle.cc_module.proofs.judging.check_all.Goals as goal

pub loop-def-init : goal.loop-def-init
loop-def-init c =
    let g = context_of c.args.ctx in
    let all = map definition_of c.args.defs.now in (
      subst (λ ds. StandsAt c.args.devices g all g all (map checked_definition_of ds)) (sym c.in_ok-checked.ensures.items)
          (stands_at_start c.args.devices g all c.requires),
      all_unmeasured c.args.devices c.new-measures.result g c.new-measures.ensures.sizes c.new-measures.ensures.first
          (c.new-measures.ensures.before ∙ c.len.ensures ∙ sym (length-map c.args.ctx bind_of)),
    )

pub returns-in_err-next : goal.returns-in_err-next
returns-in_err-next c =
    let error = err_from_is_err_and c.from_residual-in_err-next.result c.from_residual-in_err-next.ensures.1 in
    rw (error.1, error.2)
    (checked_stops c.args.devices (context_of c.args.ctx) (map definition_of c.args.defs.now) (context_of c.loop-def.globals)
    c.args.defs.now c.loop-def.def-index c.def-item.result c.loop-def.checked.items c.in_err-next.field-0.0 c.loop-def-test.true
    c.def-item.is c.loop-def.invariant.0 c.in_err-next.ensures.verdict)

pub loop-def-preserved : goal.loop-def-preserved
loop-def-preserved c = (
  checked_more c.args.devices (context_of c.args.ctx) (map definition_of c.args.defs.now) (context_of c.loop-def.globals)
      (context_of c.in_ok-globals.globals) c.args.defs.now c.loop-def.def-index c.def-item.result c.in_ok-next.next
      c.loop-def.checked.items c.add.new.defs.items c.loop-def-test.true c.def-item.is c.loop-def.invariant.0 c.in_ok-next.ensures.verdict
      c.in_ok-globals.ensures c.in_ok-add.ensures,
  subst (AreAllMeasuresOf c.args.devices c.check.new.measures) (sym c.in_ok-globals.ensures) c.in_ok-next.ensures.measures,
)

pub returns : goal.returns
returns c =
    checked_end c.args.devices (context_of c.args.ctx) (map definition_of c.args.defs.now) (context_of c.loop-def.globals)
    c.args.defs.now c.loop-def.def-index c.loop-def.checked.items
    (drop_all c.loop-def.def-index c.args.defs.now c.loop-def-test.false) c.loop-def.invariant.0
