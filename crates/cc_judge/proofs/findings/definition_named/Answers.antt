use Rattle.std.proofs.Common.{◌∙◌, sym, ap, map}
use Rattle.std.proofs.lemmas.List.{drop_all}
use Rattle.cc_verdicts.specs.PresentTexts as plain
use Rattle.cc_module.specs.Judgements.{checked_definition_of}
use Rattle.cc_judge.proofs.Loops.{named_here, named_later}
use Rattle.cc_judge.proofs.findings.definition_named.Goals as goal

pub returns-then-eq : goal.returns-then-eq
returns-then-eq c =
    sym (named_here c.args.name.now c.args.defs.now c.loop-def.def-index c.def-item.result c.loop-def-test.true
    c.def-item.is (sym c.if-eq.ensures))
    ∙ c.loop-def.invariant

pub loop-def-preserved : goal.loop-def-preserved
loop-def-preserved c =
    sym (named_later c.args.name.now c.args.defs.now c.loop-def.def-index c.def-item.result c.loop-def-test.true
    c.def-item.is (sym c.if-eq.ensures))
    ∙ c.loop-def.invariant

pub returns : goal.returns
returns c =
    sym (ap (λ ds. plain.definition_named c.args.name.now (map checked_definition_of ds)) (drop_all
    c.loop-def.def-index c.args.defs.now c.loop-def-test.false))
    ∙ c.loop-def.invariant
