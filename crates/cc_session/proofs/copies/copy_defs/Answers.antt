use Rattle.std.proofs.Common.{◌∙◌, ap, map}
use Rattle.std.proofs.lemmas.List.{take_all}
use Rattle.cc_module.specs.Judgements.{checked_definition_of}
use Rattle.cc_session.proofs.Lists.{copied_more}
use Rattle.cc_session.proofs.copies.copy_defs.Goals as goal

pub loop-def-preserved : goal.loop-def-preserved
loop-def-preserved c =
    copied_more checked_definition_of checked_definition_of c.args.defs.now c.loop-def.copies.items
    c.push.new.self.items c.loop-def.def-index c.def-item.result c.in_ok-copy.copy c.loop-def-test.true c.def-item.is
    c.loop-def.invariant c.in_ok-copy.ensures c.in_ok-push.ensures.items

pub returns : goal.returns
returns c =
    c.loop-def.invariant
    ∙ ap (map checked_definition_of) (take_all c.loop-def.def-index c.args.defs.now c.loop-def-test.false)
