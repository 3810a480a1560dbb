use Rattle.std.proofs.Common.{sym, ◌∙◌}
use Rattle.cc_capture.specs.declared.var.Elem.TheVariants.{Cap, Hole}
use Rattle.cc_sets.proofs.Markings.{marks_member, marks_variable, marks_other}
use Rattle.cc_sets.proofs.subcapturing.mark_elem.Goals as goal

pub returns-then-contains : goal.returns-then-contains
returns-then-contains c = marks_member c.args.elem c.args.right.now c.args.marks.now (sym c.contains.ensures ∙ c.if-contains.true)

pub returns-in-Var : goal.returns-in-Var
returns-in-Var c =
    marks_variable c.args.elem c.in-Var.variable c.args.right.now c.args.marks.now c.mark_variable.new.marks c.mark_variable.result c.in-Var.is
    (sym c.contains.ensures ∙ c.if-contains.false) c.mark_variable.ensures

pub returns-in-Cap : goal.returns-in-Cap
returns-in-Cap c =
    marks_other c.args.elem Cap c.args.right.now c.args.marks.now c.in-Cap.is (λ h. h) (sym c.contains.ensures ∙ c.if-contains.false)

pub returns-in-Hole : goal.returns-in-Hole
returns-in-Hole c =
    marks_other c.args.elem (Hole c.in-Hole.field-0) c.args.right.now c.args.marks.now c.in-Hole.is (λ h. h) (sym c.contains.ensures ∙ c.if-contains.false)
