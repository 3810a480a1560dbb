use Rattle.std.proofs.Common.{sym, ap, ◌∙◌}
use Rattle.cc_solve.proofs.Answered.{on_ok}
use Rattle.cc_known.specs.Keeping.{is_end}
use Rattle.cc_known.proofs.DemandEnds.{puts_waiting, puts_ended}
use Rattle.cc_type.proofs.demand_ends.put_elem.Goals as goal

pub returns-in-Var : goal.returns-in-Var
returns-in-Var c =
    on_ok c.insert.result _ _
    (λ is.
    puts_waiting c.args.right.now c.args.elem c.args.waiting.now c.args.ends.now c.insert.new.self
    (sym c.contains.ensures ∙ c.if-contains.false) (ap is_end c.in-Var.is) is)
    c.insert.ensures.ok

pub returns-in-Cap : goal.returns-in-Cap
returns-in-Cap c =
    on_ok c.insert-in-Cap.result _ _
    (λ is.
    puts_ended c.args.right.now c.args.elem c.args.waiting.now c.args.ends.now c.insert-in-Cap.new.self
    (sym c.contains.ensures ∙ c.if-contains.false) (ap is_end c.in-Cap.is) is)
    c.insert-in-Cap.ensures.ok

pub returns-in-Hole : goal.returns-in-Hole
returns-in-Hole c =
    on_ok c.insert-in-Hole.result _ _
    (λ is.
    puts_ended c.args.right.now c.args.elem c.args.waiting.now c.args.ends.now c.insert-in-Hole.new.self
    (sym c.contains.ensures ∙ c.if-contains.false) (ap is_end c.in-Hole.is) is)
    c.insert-in-Hole.ensures.ok
