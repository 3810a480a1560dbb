use Rattle.std.proofs.Common.{sym, ap, ◌∙◌, subst}
use Rattle.cc_capture.specs.Sets.{Member}
use Rattle.cc_core.specs.Substitution.{single, filled_element}
use Rattle.cc_core.proofs.Moving.{Member-single_itself}
use Rattle.cc_sets.specs.Marking.{HasRoomFor, MarksThose}
use Rattle.cc_sets.specs.Reaching.{IsMissing}
use Rattle.cc_solve.specs.Solutions.{filling_of, set_or_none}
use Rattle.cc_solve.proofs.FilledMarkings.{set_of_hole, marks_single}
use Rattle.cc_solve.proofs.judging.mark_filling.Goals as goal

pub mark_set-requires : goal.mark_set-requires
mark_set-requires c =
    subst (HasRoomFor c.args.marks.now)
    (sym (ap set_or_none c.get.ensures ∙ set_of_hole c.args.filling.now c.in-Hole.hole ∙ ap (filled_element (filling_of c.args.filling.now)) (sym c.in-Hole.is)))
    c.requires

pub mark_elem-requires-in-Var : goal.mark_elem-requires-in-Var
mark_elem-requires-in-Var c =
    c.requires c.args.elem
    (subst (Member c.args.elem) (ap single c.in-Var.is ∙ ap (filled_element (filling_of c.args.filling.now)) (sym c.in-Var.is)) (Member-single_itself c.args.elem))

pub returns-in-Hole : goal.returns-in-Hole
returns-in-Hole c =
    subst (λ s. MarksThose (IsMissing s c.args.right.now) c.args.marks.now c.mark_set.new.marks c.mark_set.result)
    (ap set_or_none c.get.ensures ∙ set_of_hole c.args.filling.now c.in-Hole.hole ∙ ap (filled_element (filling_of c.args.filling.now)) (sym c.in-Hole.is))
    c.mark_set.ensures

pub returns-in-Cap : goal.returns-in-Cap
returns-in-Cap c =
    subst (λ s. MarksThose (IsMissing s c.args.right.now) c.args.marks.now c.mark_elem.new.marks c.mark_elem.result)
    (ap single c.in-Cap.is ∙ ap (filled_element (filling_of c.args.filling.now)) (sym c.in-Cap.is))
    (marks_single c.args.elem c.args.right.now c.args.marks.now c.mark_elem.new.marks c.mark_elem.result c.mark_elem.ensures)

pub returns-in-Var : goal.returns-in-Var
returns-in-Var c =
    subst (λ s. MarksThose (IsMissing s c.args.right.now) c.args.marks.now c.mark_elem-in-Var.new.marks c.mark_elem-in-Var.result)
    (ap single c.in-Var.is ∙ ap (filled_element (filling_of c.args.filling.now)) (sym c.in-Var.is))
    (marks_single c.args.elem c.args.right.now c.args.marks.now c.mark_elem-in-Var.new.marks c.mark_elem-in-Var.result c.mark_elem-in-Var.ensures)
