use Rattle.cc_captured_reasons.specs.Tellings.{telling}
use Rattle.cc_captured_reasons.proofs.ToldNumbers.{first_more}
use Rattle.cc_captured_reasons.proofs.tellings.first_numbered.Goals as goal

pub loop-elem-preserved : goal.loop-elem-preserved
loop-elem-preserved c =
    first_more (telling c.args.told.now c.args.right.now) c.args.number c.loop-elem.yielded c.in-Some.elem c.loop-elem.found c.found_or_this-found.result c.is_number-passes.result
    c.telling.result c.loop-elem.invariant c.found_or_this-found.ensures c.is_number-passes.ensures c.telling.ensures
