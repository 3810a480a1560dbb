use Rattle.std.proofs.Common.{sym, ap, ◌∙◌}
use Rattle.cc_core.specs.Contexts.{TypeEntry}
use Rattle.cc_core.specs.Equality.{same_shape}
use Rattle.cc_core.specs.TermViews.{shape_of, bind_of}
use Rattle.cc_core.proofs.Comparisons.{same_shape-decides}
use Rattle.cc_known.specs.ComparedAgain.{seen}
use Rattle.cc_known.proofs.marked.has_bound.Goals as goal

pub returns-in-TVar : goal.returns-in-TVar
returns-in-TVar c = λ holds.
    ap (λ b. seen (bind_of b)) c.in-TVar.is
    ∙ ap TypeEntry ((same_shape-decides (shape_of c.in-TVar.declared.value) (shape_of c.args.bound.now)).0
    (ap (λ s. same_shape (shape_of s) (shape_of c.args.bound.now)) (sym c.deref.ensures) ∙ sym c.same_shape.ensures ∙ holds))
