use Rattle.cc_solve.proofs.Additions.{adds_one}
use Rattle.cc_solve.proofs.Answered.{on_ok}
use Rattle.cc_solve.proofs.lists.add.Goals as goal

pub returns : goal.returns
returns c =
    on_ok c.insert.result _ _ (λ is. adds_one c.args.sets.now c.args.at c.args.elem c.index-sets-at.result c.insert.new.self c.requires is)
    c.insert.ensures.ok
