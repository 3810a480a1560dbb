use Rattle.cc_solve.proofs.Answered.{on_ok}
use Rattle.cc_solve.proofs.Puttings.{puts_global, puts_put}
use Rattle.cc_solve.proofs.ends.put_position.Goals as goal

pub returns-then-position-globals : goal.returns-then-position-globals
returns-then-position-globals c =
    on_ok c.insert.result _ _
    (λ is. puts_put c.args.globals _ c.args.marks.now c.args.marks.now c.args.ends.now _ c.insert.new.self is (puts_global c.args.globals c.args.position c.args.marks.now c.args.ends.now c.if-position-globals.true))
    c.insert.ensures.ok
