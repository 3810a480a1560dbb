use Rattle.cc_solve.proofs.Answered.{if_so}
use Rattle.cc_solve.proofs.Saturation.{spreads_grown, spreads_named}
use Rattle.cc_solve.proofs.spreading.spread_to.Goals as goal

pub returns-in_ok-push-in-Hole : goal.returns-in_ok-push-in-Hole
returns-in_ok-push-in-Hole c =
    spreads_named c.args.from c.args.elem c.in-Hole.to c.args.sets.now c.join.new.sets c.args.queue.now.items c.push.new.self.items c.in-Hole.is
    (spreads_grown c.args.from c.in-Hole.to c.args.sets.now c.join.new.sets c.args.queue.now.items c.push.new.self.items c.requires.from (c.requires.within c.in-Hole.to c.in-Hole.is)
    c.in_ok-join-in-Hole.ensures.adds (if_so c.in_ok-join-in-Hole.field-0 _ _ c.if-branch.true c.in_ok-join-in-Hole.ensures.grown) c.in_ok-push-in-Hole.ensures.items)
