-- The nodes by which sets and shapes are below each other are counted right, whether they match or not.
use Rattle.std.proofs.Common.{◌≡◌, ℕ, zero, suc, ◌+◌, true, false, cond, List, [], ◌∷◌, length, Option, Some, None, refl, arith}
use Rattle.std.specs.Prelude.{nat_eq}
use Rattle.cc_capture.specs.declared.var.Var.{Var}
use Rattle.cc_capture.specs.declared.var.Var.TheVariants.{Bound, Free}
use Rattle.cc_capture.specs.declared.var.Elem.{Elem}
use Rattle.cc_capture.specs.declared.var.Elem.TheVariants.{Var as Variable, Cap, Hole}
use Rattle.cc_capture.specs.Sets.{Set, contains}
use Rattle.cc_core.specs.Shapes.{Shape, BaseShape, AnyShape, TypeVariable, FunctionShape, TypeFunctionShape, BoxShape, ExitShape, CapturingType, capturing}
use Rattle.cc_core.specs.Contexts.{Bind, TermEntry, TypeEntry, Context}
use Rattle.cc_core.specs.Substitution.{opened_type}
use Rattle.cc_core.specs.Equality.{same_shape}
use Rattle.cc_core.specs.Captured.{variable_set}
use Rattle.cc_core.specs.Derivations.{ByVariable, ByTop, SetBelow, ShapeBelow, Derivation, Node, NoPremise, one}
use Rattle.cc_checking.specs.Comparison.{is_any, bound_of}
use Rattle.cc_checking.specs.Weights.{enough_steps}
use Rattle.cc_checking.specs.CanonicalDerivations.{premises_for, member_derived, elements_derived, derived_at, element_derived, set_derived, Deriving, type_derived, alike_derived, bound_derived, functions_derived, type_functions_derived, boxes_derived, form_derived, shape_derived, canonical_shapes}
use Rattle.cc_checking.specs.DerivationSizes.{nodes, nodes_of, sum_of, nodes_at, element_nodes, set_nodes, Counting, type_nodes, bound_nodes, function_nodes, type_function_nodes, box_nodes, form_nodes, shape_nodes, canonical_shape_nodes}

-- a node over one premise, over two, and over three
pub one_more : (a b : ℕ) → a ≡ b → 1 + (a + 0) ≡ 1 + b
one_more a b e = omega arith

pub two_more : (a b c d : ℕ) → a ≡ c → b ≡ d → 1 + (a + (b + 0)) ≡ 1 + (c + d)
two_more a b c d e f = omega arith

pub three_more : (a b c x y z : ℕ) → a ≡ x → b ≡ y → c ≡ z → 1 + (a + (b + (c + 0))) ≡ 1 + (x + (y + z))
three_more a b c x y z e f h = omega arith

-- a node over a node over one premise, and over a leaf and a premise
one_deeper : (a b : ℕ) → a ≡ b → 1 + ((1 + a) + 0) ≡ 2 + b
one_deeper a b e = omega arith

beside_leaf : (a b : ℕ) → a ≡ b → 1 + (1 + (a + 0)) ≡ 2 + b
beside_leaf a b e = omega arith

premises_counted : (derive : Elem → Derivation) (count : Elem → ℕ) → ((e : Elem) → nodes (derive e) ≡ count e)
    → (xs : List Elem)
    → nodes_of (premises_for derive xs) ≡ sum_of count xs
premises_counted derive count each [] = refl
premises_counted derive count each (x ∷ xs) = cc (each x, premises_counted derive count each xs)

at_counted : (derive : Elem → Derivation) (count : Elem → ℕ) → ((e : Elem) → nodes (derive e) ≡ count e)
    → (b : Bind) (p : ℕ) (right : Set) (e : Elem)
    → nodes (derived_at derive b p right e) ≡ nodes_at count b p e
at_counted derive count each (TermEntry s d) p right (Variable (Free q)) =
    elim (nat_eq q p) as (λ t. nodes (cond t (Node ByVariable (one (elements_derived derive d right)) (SetBelow (variable_set (Free q)) right)) (derive (Variable (Free q)))) ≡ cond t (2 + sum_of count d.list) (count (Variable (Free q)))) [
      | true ↦ one_deeper _ _ (premises_counted derive count each d.list)
      | false ↦ each (Variable (Free q))
    ]
at_counted derive count each (TermEntry s d) p right (Variable (Bound i)) = each (Variable (Bound i))
at_counted derive count each (TermEntry s d) p right Cap = each Cap
at_counted derive count each (TermEntry s d) p right (Hole n) = each (Hole n)
at_counted derive count each (TypeEntry x) p right e = each e

element_counted : (g : Context) (right : Set) (e : Elem) → nodes (element_derived g right e) ≡ element_nodes g right e
element_counted [] right e = refl
element_counted (b ∷ older) right e =
    elim (contains e right) as (λ t. nodes (cond t (member_derived right e) (derived_at (element_derived older right) b (length older) right e)) ≡ cond t 1 (nodes_at (element_nodes older right) b (length older) e)) [
      | true ↦ refl
      | false ↦ at_counted (element_derived older right) (element_nodes older right) (element_counted older right) b (length older) right e
    ]

whole : (a b : ℕ) → a ≡ b → 1 + a ≡ 1 + b
whole a b e = omega arith

pub set_counted : (g : Context) (left right : Set) → nodes (set_derived g left right) ≡ set_nodes g left right
set_counted g left right = whole _ _ (premises_counted (element_derived g right) (element_nodes g right) (element_counted g right) left.list)

-- each tree of shapes has as many nodes as are counted
abbrev pub AreCounted : Deriving → Counting → Type 0
AreCounted derive count = (g : Context) (l r : Shape) → nodes (derive g l r) ≡ count g l r

pub types_counted : (derive : Deriving) (count : Counting) → AreCounted derive count
    → (g : Context) (l r : CapturingType)
    → nodes (type_derived derive g l r) ≡ type_nodes count g l r
types_counted derive count each g l r = two_more _ _ _ _ (set_counted g l.set r.set) (each g l.shape r.shape)

bound_counted : (derive : Deriving) (count : Counting) → AreCounted derive count
    → (g : Context) (v : Var) (found : Option Shape) (r : Shape)
    → nodes (bound_derived derive g v found r) ≡ bound_nodes count g found r
bound_counted derive count each g v (Some b) r = beside_leaf _ _ (each g b r)
bound_counted derive count each g v None r = refl

functions_counted : (derive : Deriving) (count : Counting) → AreCounted derive count
    → (g : Context) (takes gives : CapturingType) (r : Shape)
    → nodes (functions_derived derive g takes gives r) ≡ function_nodes count g takes gives r
functions_counted derive count each g takes gives (FunctionShape t' c' u' d') =
    two_more _ _ _ _ (types_counted derive count each g (capturing t' c') takes)
    (types_counted derive count each (TermEntry t' c' ∷ g) (opened_type (length g) gives) (opened_type (length g) (capturing u' d')))
functions_counted derive count each g takes gives _ = refl

type_functions_counted : (derive : Deriving) (count : Counting) → AreCounted derive count
    → (g : Context) (b : Shape) (gives : CapturingType) (r : Shape)
    → nodes (type_functions_derived derive g b gives r) ≡ type_function_nodes count g b gives r
type_functions_counted derive count each g b gives (TypeFunctionShape b' u' d') =
    beside_leaf _ _ (types_counted derive count each (TypeEntry b ∷ g) (opened_type (length g) gives) (opened_type (length g) (capturing u' d')))
type_functions_counted derive count each g b gives _ = refl

boxes_counted : (derive : Deriving) (count : Counting) → AreCounted derive count
    → (g : Context) (content : CapturingType) (r : Shape)
    → nodes (boxes_derived derive g content r) ≡ box_nodes count g content r
boxes_counted derive count each g content (BoxShape t' c') = one_more _ _ (types_counted derive count each g content (capturing t' c'))
boxes_counted derive count each g content _ = refl

form_counted : (derive : Deriving) (count : Counting) → AreCounted derive count
    → AreCounted (form_derived derive) (form_nodes count)
unfolding form_derived form_nodes
form_counted derive count each g (BaseShape b) r = refl
form_counted derive count each g AnyShape r = refl
form_counted derive count each g (TypeVariable v) r = bound_counted derive count each g v (bound_of g v) r
form_counted derive count each g (FunctionShape t c u d) r = functions_counted derive count each g (capturing t c) (capturing u d) r
form_counted derive count each g (TypeFunctionShape b u d) r = type_functions_counted derive count each g b (capturing u d) r
form_counted derive count each g (BoxShape t c) r = boxes_counted derive count each g (capturing t c) r
form_counted derive count each g (ExitShape u) r = refl

pub shape_counted : (n : ℕ) → AreCounted (shape_derived n) (shape_nodes n)
unfolding shape_derived shape_nodes
shape_counted zero g l r = refl
shape_counted (suc n) g l r =
    elim (same_shape l r) as (λ t. nodes (cond t (alike_derived l r) (cond (is_any r) (Node ByTop NoPremise (ShapeBelow l r)) (form_derived (shape_derived n) g l r))) ≡ cond t 1 (cond (is_any r) 1 (form_nodes (shape_nodes n) g l r))) [
      | true ↦ refl
      | false ↦
          elim (is_any r) as (λ t. nodes (cond t (Node ByTop NoPremise (ShapeBelow l r)) (form_derived (shape_derived n) g l r)) ≡ cond t 1 (form_nodes (shape_nodes n) g l r)) [
            | true ↦ refl
            | false ↦ form_counted (shape_derived n) (shape_nodes n) (shape_counted n) g l r
          ]
    ]

pub canonical_shape_counted : AreCounted canonical_shapes canonical_shape_nodes
canonical_shape_counted g l r = shape_counted (enough_steps g l r) g l r
