use Rattle.cc_core.proofs.DroppedNodes.{at_least}
use Rattle.cc_core.proofs.terms.Node.TheLaws.{the_size}
use Rattle.cc_core.proofs.terms.Node.+drop.Goals as goal

pub loop-ty-preserved : goal.loop-ty-preserved
loop-ty-preserved t c =
    c.in-Some-next.ensures.no_larger the_size (the_size c.args.self) (at_least c.args.self) c.loop-ty.invariant.1
