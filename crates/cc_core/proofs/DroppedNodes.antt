-- No term is smaller than one with no parts.
use Rattle.std.proofs.Common.{◌≡◌, ◌≤◌, ℕ, refl, arith, subst, sym}
use Rattle.cc_base.specs.declared.place.Place.{Place}
use Rattle.cc_core.specs.declared.terms.Node.{Node}
use Rattle.cc_core.specs.declared.terms.Form.{Form}
use Rattle.cc_core.specs.declared.terms.Form.TheVariants as forms
use Rattle.cc_core.specs.DroppedTerms.{no_parts}
use Rattle.cc_core.proofs.terms.Node.TheLaws.{the_size}

no_parts_size : the_size no_parts ≡ 2
unfolding Rattle.cc_core.specs.declared.terms.Form.TheBlock.the_depth denote.Hole.Rolled.depth denote.Hole.Carrier.fold
no_parts_size = refl

two : (form : Form) (at first second : Place) → 2 ≤ the_size (record { form = form; at = at; first = first; second = second })
unfolding Rattle.cc_core.specs.declared.terms.Form.TheBlock.the_depth denote.Hole.Rolled.depth denote.Hole.Carrier.fold
two (forms.Var _) at first second = omega arith
two (forms.Lit _) at first second = omega arith
two (forms.Fun' _ _ _ _ _ _) at first second = omega arith
two (forms.TFun' _ _ _ _ _ _) at first second = omega arith
two (forms.Boxed _) at first second = omega arith
two (forms.App _ _) at first second = omega arith
two (forms.TApp _ _) at first second = omega arith
two (forms.Unbox _ _) at first second = omega arith
two (forms.Let' _ _ _ _ _ _ _ _ _ _ _) at first second = omega arith
two (forms.Prim _ _ _) at first second = omega arith
two (forms.If' _ _ _ _ _ _ _ _ _ _ _ _) at first second = omega arith
two (forms.Repeat _ _) at first second = omega arith
two (forms.Operate _ _ _) at first second = omega arith
two (forms.Boundary' _ _ _ _ _ _) at first second = omega arith
two (forms.Leave _ _ _) at first second = omega arith

pub at_least : (node : Node) → the_size no_parts ≤ the_size node
at_least node = subst (λ size. size ≤ the_size node) (sym no_parts_size) (two node.form node.at node.first node.second)
