use Rattle.std.proofs.Common.{ap, ◌∙◌}
use Rattle.cc_capture.specs.Sets.{insert}
use Rattle.cc_solve.proofs.Answered.{on_ok}
use Rattle.cc_solve.proofs.Puttings.{puts_cap, puts_hole, puts_put, puts_named}
use Rattle.cc_solve.proofs.ends.put_elem.Goals as goal

pub returns-in-Cap : goal.returns-in-Cap
returns-in-Cap c =
    on_ok c.insert.result _ _
    (λ is.
    puts_named c.args.globals c.args.elem _ c.args.marks.now c.args.marks.now c.args.ends.now c.insert.new.self c.in-Cap.is
    (puts_put c.args.globals _ c.args.marks.now c.args.marks.now c.args.ends.now _ c.insert.new.self (is ∙ ap (λ e. insert e c.args.ends.now) c.in-Cap.is)
    (puts_cap c.args.globals c.args.marks.now c.args.ends.now)))
    c.insert.ensures.ok

pub returns-in-Hole : goal.returns-in-Hole
returns-in-Hole c =
    on_ok c.insert-in-Hole.result _ _
    (λ is.
    puts_named c.args.globals c.args.elem _ c.args.marks.now c.args.marks.now c.args.ends.now c.insert-in-Hole.new.self c.in-Hole.is
    (puts_put c.args.globals _ c.args.marks.now c.args.marks.now c.args.ends.now _ c.insert-in-Hole.new.self (is ∙ ap (λ e. insert e c.args.ends.now) c.in-Hole.is)
    (puts_hole c.args.globals c.in-Hole.field-0 c.args.marks.now c.args.ends.now)))
    c.insert-in-Hole.ensures.ok
