-- Nodes over the comparisons of two shapes, by the forms of the shapes.
use Rattle.std.proofs.Common.{◌≡◌, ℕ, zero, suc, ◌-◌, ◌≤◌, ◌∷◌, length, Some, refl, sym, ap, ◌∙◌, arith}
use Rattle.cc_capture.specs.declared.var.Var.{Var}
use Rattle.cc_core.specs.Contexts.{TypeEntry, Context, entry_of}
use Rattle.cc_core.specs.Derivations.{ByTransitivity, ByTypeVariable, ByFunction, ByTypeFunction, ByBox, ShapeBelow, Derivation, Node, NoPremise, one, two}
use Rattle.cc_core.specs.Shapes.{Shape, TypeVariable, FunctionShape, TypeFunctionShape, BoxShape, CapturingType}
use Rattle.cc_core.specs.Substitution.{opened_type}
use Rattle.cc_checking.specs.CanonicalDerivations.{Deriving, type_derived, alike_derived, bound_derived, functions_derived, type_functions_derived, boxes_derived, shape_derived}
use Rattle.cc_derive.specs.declared.trees.Tree.{Tree}
use Rattle.cc_derive.specs.Steps.{step_derived}
use Rattle.cc_derive.specs.Trees.{IsMade}
use Rattle.cc_derive.specs.declared.trees.Making.{Making}

pub functions_node : (derive : Deriving) (g : Context) (takes gives others other_gives : CapturingType) (l r : Shape)
    → l ≡ FunctionShape takes.shape takes.set gives.shape gives.set
    → r ≡ FunctionShape others.shape others.set other_gives.shape other_gives.set
    → Node ByFunction (two (type_derived derive g others takes) (type_derived derive (entry_of others ∷ g) (opened_type (length g) gives) (opened_type (length g) other_gives))) (ShapeBelow l r)
    ≡ functions_derived derive g takes gives r
functions_node derive g takes gives others other_gives l r e f =
    let first : Derivation = type_derived derive g others takes in
    let second : Derivation = type_derived derive (entry_of others ∷ g) (opened_type (length g) gives) (opened_type (length g) other_gives) in
    (λ i. Node ByFunction (two first second) (ShapeBelow (e i) (f i))) ∙ ap (functions_derived derive g takes gives) (sym f)

pub type_functions_node : (derive : Deriving) (g : Context) (bound other : Shape) (gives other_gives : CapturingType) (l r : Shape)
    → l ≡ TypeFunctionShape bound gives.shape gives.set
    → r ≡ TypeFunctionShape other other_gives.shape other_gives.set
    → Node ByTypeFunction (two (alike_derived bound other) (type_derived derive (TypeEntry bound ∷ g) (opened_type (length g) gives) (opened_type (length g) other_gives))) (ShapeBelow l r)
    ≡ type_functions_derived derive g bound gives r
type_functions_node derive g bound other gives other_gives l r e f =
    let second : Derivation = type_derived derive (TypeEntry bound ∷ g) (opened_type (length g) gives) (opened_type (length g) other_gives) in
    (λ i. Node ByTypeFunction (two (alike_derived bound other) second) (ShapeBelow (e i) (f i)))
    ∙ ap (type_functions_derived derive g bound gives) (sym f)

pub variable_node : (derive : Deriving) (g : Context) (v : Var) (bound l r : Shape) → l ≡ TypeVariable v
    → Node ByTransitivity (two (Node ByTypeVariable NoPremise (ShapeBelow l bound)) (derive g bound r)) (ShapeBelow l r)
    ≡ bound_derived derive g v (Some bound) r
variable_node derive g v bound l r e =
    λ i. Node ByTransitivity (two (Node ByTypeVariable NoPremise (ShapeBelow (e i) bound)) (derive g bound r)) (ShapeBelow (e i) r)

-- one level
pub level_entered : (build : Making) (tree : Tree) (steps m : ℕ) (g : Context) (l r : Shape) → (steps ≡ 0 → ⊥) → steps ≤ m
    → ((k : ℕ) → steps - 1 ≤ k → IsMade build tree (step_derived (shape_derived k) g l r))
    → IsMade build tree (shape_derived m g l r)
unfolding shape_derived
level_entered build tree steps zero g l r some le made = absurd (some (omega arith))
level_entered build tree steps (suc m) g l r some le made = made m (omega arith)
