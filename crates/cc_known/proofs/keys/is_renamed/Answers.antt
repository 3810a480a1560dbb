use Rattle.std.proofs.Common.{sym, ◌∙◌}
use Rattle.cc_core.specs.Equality.{same_shape}
use Rattle.cc_core.specs.TermViews.{shape_of}
use Rattle.cc_core.proofs.Comparisons.{same_shape-decides}
use Rattle.cc_known.proofs.keys.is_renamed.Goals as goal

pub returns : goal.returns
returns c = λ holds.
    (same_shape-decides (shape_of c.args.other.now.value) (shape_of c.in_ok-shape.shape.value)).0
    (sym (λ i. same_shape (shape_of (c.deref.ensures i)) (shape_of (c.deref-2.ensures i))) ∙ sym c.same_shape.ensures ∙ holds)
    ∙ c.in_ok-shape.ensures
