use Rattle.cc_core.proofs.CallLemmas.{joined, hole-past, element-hole, element-filled}
use Rattle.cc_core.proofs.acting.add_filled.Goals as goal
use Rattle.cc_core.proofs.acting.add_filled.Goals.{in-Fill+in_default-get, in_default}

pub returns : goal.returns
returns c =
    joined c.insert.result _ _ _ _
    (elim c.match-action.branch [
      | in-Fill+in_default-get w ↦ element-filled c.args.action.now w.in-Fill.sets c.args.depth c.args.hole _ w.in-Fill.is (hole-past w.in-Fill.sets.now c.args.hole w.in_default-get.ensures.lookup.0)
      | in_default w ↦ element-hole c.args.action.now c.args.depth c.args.hole w.in_default.not-Fill
    ])
    c.insert.ensures.ok
