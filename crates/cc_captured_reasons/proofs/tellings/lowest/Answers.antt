use Rattle.cc_captured_reasons.specs.Tellings.{telling}
use Rattle.cc_captured_reasons.proofs.ToldNumbers.{lowest_more}
use Rattle.cc_captured_reasons.proofs.tellings.lowest.Goals as goal

pub loop-elem-preserved : goal.loop-elem-preserved
loop-elem-preserved c =
    lowest_more (telling c.args.told.now c.args.right.now) c.loop-elem.yielded c.in-Some.elem c.loop-elem.number c.lower-number.result c.telling.result c.loop-elem.invariant
    c.lower-number.ensures c.telling.ensures
