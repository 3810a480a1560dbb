use Rattle.std.proofs.Common.{sym, ap, ◌∙◌}
use Rattle.cc_core.specs.Shapes.{capturing}
use Rattle.cc_core.specs.TermViews.{shape_of, type_of, context_of}
use Rattle.cc_checking.specs.Outcomes.{finds}
use Rattle.cc_type.proofs.NewestVariables.{shape_stays_behind}
use Rattle.cc_type.proofs.ends.shape_left_behind.Goals as goal

pub returns-clause-is : goal.returns-clause-is
returns-clause-is c = λ at.
    shape_stays_behind at (context_of c.args.ctx.now) c.args.declared.now (type_of c.args.inner) c.requires.shape
    ∙ ap (λ s. finds (capturing (shape_of c.args.inner.shape.value) s)) (sym c.in_ok-set.ensures)
