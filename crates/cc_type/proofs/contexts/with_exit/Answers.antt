use Rattle.std.proofs.Common.{◌∷◌, sym, ap, ◌∙◌, subst}
use Rattle.cc_capture.specs.declared.var.Elem.TheVariants.{Cap}
use Rattle.cc_core.specs.Contexts.{Bind}
use Rattle.cc_core.specs.Shapes.{ExitShape, capturing}
use Rattle.cc_core.specs.Substitution.{single}
use Rattle.cc_core.specs.TermViews.{shape_of, context_of}
use Rattle.cc_core.specs.WellFormed.{IsWellFormedContext}
use Rattle.cc_known.proofs.FormedParts.{with_term, exit_well_formed}
use Rattle.cc_type.proofs.contexts.with_exit.Goals as goal

pub returns-clause-formed : goal.returns-clause-formed
returns-clause-formed c =
    let g = context_of c.args.ctx.now in
    let s = shape_of c.args.gives.now.value in
    subst IsWellFormedContext (sym (ap context_of c.in_ok-inner.ensures ∙ ap (λ (b : Bind). b ∷ g) c.in_ok-ty.ensures))
    (with_term g (capturing (ExitShape s) (single Cap)) c.requires.context (exit_well_formed g s c.requires.gives))
