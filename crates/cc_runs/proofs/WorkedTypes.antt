-- The type of a term.
use Rattle.std.proofs.Common.{[], ◌∷◌, refl, sym, subst}
use Rattle.cc_base.specs.declared.literal.Base.TheVariants as bases
use Rattle.cc_capture.specs.declared.var.Var.TheVariants.{Free}
use Rattle.cc_capture.specs.declared.var.Elem.TheVariants.{Var as Variable, Cap}
use Rattle.cc_capture.specs.Sets.{empty, flat_image, from_list}
use Rattle.cc_capture.proofs.Membership.{Member-empty}
use Rattle.cc_core.specs.Shapes.{BaseShape, ExitShape}
use Rattle.cc_core.specs.Contexts.{TermEntry, Context}
use Rattle.cc_core.specs.Substitution.{single}
use Rattle.cc_core.specs.Captured.{variable_set}
use Rattle.cc_core.specs.Subcapturing.{Subcaptures, variable, SubcapturesSet}
use Rattle.cc_core.specs.Subtyping.{reflexive}
use Rattle.cc_core.specs.Typing.{t-var, t-lit, t-let, t-boundary, t-exit, t-sub}
use Rattle.cc_core.proofs.Moving.{Member-single}
use Rattle.cc_runs.specs.ExampleTypes.{LeavingAtOnceIsTyped}

-- the context of the exit and of its value
in_both : Context
in_both = TermEntry (BaseShape bases.Unit) empty ∷ TermEntry (ExitShape (BaseShape bases.Unit)) (single Cap) ∷ []

unit_captures_nothing : SubcapturesSet in_both (variable_set (Free 1)) empty
unfolding in_both
unit_captures_nothing x h =
    subst (λ y. Subcaptures in_both y empty) (sym (Member-single x (Variable (Free 1)) h))
    (variable {shape = BaseShape bases.Unit} {declared = empty} refl (λ y m. absurd (Member-empty y m)))

pub leaving_at_once_is_typed : LeavingAtOnceIsTyped
unfolding empty flat_image from_list in_both
leaving_at_once_is_typed = record {
  context_formed = refl;
  term_formed = refl;
  type_formed = refl;
  typing =
      t-boundary refl
      (t-let t-lit tt
      (t-exit (t-var {shape = ExitShape (BaseShape bases.Unit)} {declared = single Cap} refl)
      (t-sub (t-var {shape = BaseShape bases.Unit} {declared = empty} refl) unit_captures_nothing reflexive refl) refl)
      tt (λ e m. absurd (Member-empty e m)));
}
