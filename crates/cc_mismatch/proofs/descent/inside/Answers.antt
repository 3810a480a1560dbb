use Rattle.std.proofs.Common.{None, refl, sym, ◌∙◌, subst}
use Rattle.cc_core.specs.declared.types.Shape.{Shape}
use Rattle.cc_core.specs.Shapes.{BaseShape, AnyShape, ExitShape}
use Rattle.cc_core.specs.TermViews.{shape_of, context_of}
use Rattle.cc_reasons.specs.Mismatches.{pair}
use Rattle.cc_mismatch.specs.Descents.{LeadsTo}
use Rattle.cc_mismatch.proofs.LeadingParts.{base_stays}
use Rattle.cc_mismatch.proofs.descent.inside.Goals as goal

pub returns-in-Base : goal.returns-in-Base
returns-in-Base c =
    let g = context_of c.args.ctx.now in
    let right = shape_of c.args.right.now.value in
    subst (λ (l : Shape). LeadsTo (pair g (shape_of l) right) None) (sym c.in-Base.is ∙ c.deref.ensures)
    (base_stays g (BaseShape c.in-Base.field-0) right (λ n. refl))

pub returns-in-Any : goal.returns-in-Any
returns-in-Any c =
    let g = context_of c.args.ctx.now in
    let right = shape_of c.args.right.now.value in
    subst (λ (l : Shape). LeadsTo (pair g (shape_of l) right) None) (sym c.in-Any.is ∙ c.deref.ensures)
    (base_stays g AnyShape right (λ n. refl))

pub returns-in-Exit : goal.returns-in-Exit
returns-in-Exit c =
    let g = context_of c.args.ctx.now in
    let right = shape_of c.args.right.now.value in
    subst (λ (l : Shape). LeadsTo (pair g (shape_of l) right) None) (sym c.in-Exit.is ∙ c.deref.ensures)
    (base_stays g (ExitShape (shape_of c.in-Exit.field-0.value)) right (λ n. refl))
