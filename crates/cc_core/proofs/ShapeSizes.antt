-- Sizes: counting without building, and moves that keep sizes.
use Rattle.std.proofs.Common.{◌≡◌, ℕ, zero, suc, ◌+◌, ◌≤◌, true, false, List, [], ◌∷◌, map, length, refl, sym, ap, ◌∙◌, subst, arith}
use Rattle.std.specs.Prelude.{nat_eq, cond}
use Rattle.std.specs.declared.cmp.Ordering.TheVariants.{Less, Equal, Greater}
use Rattle.std.specs.Ordering.{match_ordering}
use Rattle.cc_capture.specs.declared.var.Var.{Var}
use Rattle.cc_capture.specs.declared.var.Var.TheVariants.{Bound, Free}
use Rattle.cc_capture.specs.declared.var.Elem.{Elem}
use Rattle.cc_capture.specs.Elements.{element_order}
use Rattle.cc_capture.specs.Rising.{placed}
use Rattle.cc_capture.specs.Sets.{Set, empty, insert, from_list, image}
use Rattle.cc_capture.proofs.Images.{flat_image-single}
use Rattle.cc_core.specs.Shapes.{Shape, BaseShape, AnyShape, TypeVariable, FunctionShape, TypeFunctionShape, BoxShape, ExitShape, CapturingType}
use Rattle.cc_core.specs.Traversal.{act, act_set, act_type}
use Rattle.cc_core.specs.Substitution.{moved_element, moving, put_variable, closed_variable, opening, closing, put_shape, putting_shape}
use Rattle.cc_core.specs.Occurrences.{Meets, MeetsInSet, MeetsInType, on_variables, without, bound_within}
use Rattle.cc_core.specs.Sizes.{set_size, shape_size, type_size, size_with, counted_variable, counted_shape, counted_type}
use Rattle.cc_core.proofs.Conditions.{gives_here, MeetsInType-here}
use Rattle.cc_core.proofs.Opening.{closed_put, put_closed}
use Rattle.cc_core.proofs.FreeActions.{putting_shape_set}
use Rattle.cc_core.proofs.Moving.{moving-moving, moving-still}
use Rattle.cc_core.proofs.Sorts.{SetSort}

-- the size with a shape put for the outermost index, counted
counted_variable-put : (by : Shape) (d : ℕ) (v : Var)
    → shape_size (put_shape by d v) ≡ counted_variable (shape_size by) d v
counted_variable-put by d (Free p) = refl
counted_variable-put by d (Bound i) =
    elim (nat_eq i d) as (λ t. shape_size (cond t by (TypeVariable (Bound i))) ≡ cond t (shape_size by) 1) [ true ↦ refl | false ↦ refl ]

set_size-putting_shape : (by : Shape) (d : ℕ) (c : Set) → set_size (act_set (putting_shape by) d c) ≡ set_size c
set_size-putting_shape by d c = ap set_size (putting_shape_set by d c)

pub counted_shape-putting_shape : (by : Shape) (d : ℕ) (s : Shape)
    → shape_size (act (putting_shape by) d s) ≡ counted_shape (shape_size by) d s
counted_shape-putting_shape by d (BaseShape b) = refl
counted_shape-putting_shape by d AnyShape = refl
counted_shape-putting_shape by d (TypeVariable v) = counted_variable-put by d v
counted_shape-putting_shape by d (FunctionShape t c u e) =
    λ i. 1 + (counted_shape-putting_shape by d t i + set_size-putting_shape by d c i) +
    (counted_shape-putting_shape by (suc d) u i + set_size-putting_shape by (suc d) e i)
counted_shape-putting_shape by d (TypeFunctionShape b u e) =
    λ i. 1 + counted_shape-putting_shape by d b i +
    (counted_shape-putting_shape by (suc d) u i + set_size-putting_shape by (suc d) e i)
counted_shape-putting_shape by d (BoxShape t c) =
    λ i. 1 + (counted_shape-putting_shape by d t i + set_size-putting_shape by d c i)
counted_shape-putting_shape by d (ExitShape t) = λ i. 1 + counted_shape-putting_shape by d t i

pub size_with-counted : (by : Shape) (t : CapturingType) → size_with by t ≡ counted_type (shape_size by) t
size_with-counted by t i = counted_shape-putting_shape by zero t.shape i + set_size-putting_shape by zero t.set i

-- a set of elements made of others has at most as many
length_placed : (x : Elem) (ys : List Elem) → length (placed x ys) ≤ suc (length ys)
unfolding placed
length_placed x [] = omega arith
length_placed x (y ∷ ys) =
    elim (element_order x y) as (λ o. length (match_ordering o (x ∷ y ∷ ys) (y ∷ ys) (y ∷ placed x ys)) ≤ suc (suc (length ys))) [
      | Less ↦ omega arith
      | Equal ↦ omega arith
      | Greater ↦ let rest : length (placed x ys) ≤ suc (length ys) = length_placed x ys in omega arith
    ]

length_from_list : (xs : List Elem) → length (from_list xs).list ≤ length xs
unfolding from_list insert empty
length_from_list [] = omega arith
length_from_list (x ∷ xs) =
    let one : length (placed x (from_list xs).list) ≤ suc (length (from_list xs).list) = length_placed x (from_list xs).list in
    let rest : length (from_list xs).list ≤ length xs = length_from_list xs in
    omega arith

length_mapped : (f : Elem → Elem) (xs : List Elem) → length (map f xs) ≡ length xs
length_mapped f [] = refl
length_mapped f (x ∷ xs) = ap suc (length_mapped f xs)

set_size_image : (f : Elem → Elem) (c : Set) → set_size (image f c) ≤ set_size c
unfolding image
set_size_image f c =
    let made : length (from_list (map f c.list)).list ≤ length (map f c.list) = length_from_list (map f c.list) in
    let same : length (map f c.list) ≡ length c.list = length_mapped f c.list in
    omega arith

pub set_size_moved : (f : ℕ → Var → Var) (d : ℕ) (c : Set) → set_size (act_set (moving f) d c) ≤ set_size c
set_size_moved f d c =
    subst (λ s. set_size s ≤ set_size c) (sym (flat_image-single (moved_element (f d)) c))
    (set_size_image (moved_element (f d)) c)

-- a move that another undoes keeps sizes
module _ (f back : ℕ → Var → Var) where
  pub set_size-undone : (d : ℕ) (c : Set) → MeetsInSet (on_variables (λ k v. back k (f k v) ≡ v)) d c
      → set_size (act_set (moving f) d c) ≡ set_size c
  set_size-undone d c m =
      let there : set_size (act_set (moving f) d c) ≤ set_size c = set_size_moved f d c in
      let again : set_size (act_set (moving back) d (act_set (moving f) d c)) ≤ set_size (act_set (moving f) d c) = set_size_moved back d (act_set (moving f) d c) in
      let same : set_size (act_set (moving back) d (act_set (moving f) d c)) ≡ set_size c =
      ap set_size (moving-moving back f SetSort d c ∙ moving-still (λ k v. back k (f k v)) SetSort d c m) in
      omega arith

  pub shape_size-undone : (d : ℕ) (s : Shape) → Meets (on_variables (λ k v. back k (f k v) ≡ v)) d s
      → shape_size (act (moving f) d s) ≡ shape_size s
  shape_size-undone d (BaseShape b) m = refl
  shape_size-undone d AnyShape m = refl
  shape_size-undone d (TypeVariable v) m = refl
  shape_size-undone d (FunctionShape t c u e) m =
      λ i. 1 + (shape_size-undone d t m.0 i + set_size-undone d c m.1 i) +
      (shape_size-undone (suc d) u m.2 i + set_size-undone (suc d) e m.3 i)
  shape_size-undone d (TypeFunctionShape b u e) m =
      λ i. 1 + shape_size-undone d b m.0 i + (shape_size-undone (suc d) u m.1 i + set_size-undone (suc d) e m.2 i)
  shape_size-undone d (BoxShape t c) m = λ i. 1 + (shape_size-undone d t m.0 i + set_size-undone d c m.1 i)
  shape_size-undone d (ExitShape t) m = λ i. 1 + shape_size-undone d t m i

  pub type_size-undone : (d : ℕ) (t : CapturingType) → MeetsInType (on_variables (λ k v. back k (f k v) ≡ v)) d t
      → type_size (act_type (moving f) d t) ≡ type_size t
  type_size-undone d t m i = shape_size-undone d t.shape m.0 i + set_size-undone d t.set m.1 i

pub type_size-opened : (n d : ℕ) (t : CapturingType) → MeetsInType (without n) d t
    → type_size (act_type (opening n) d t) ≡ type_size t
type_size-opened n d t m =
    type_size-undone (put_variable (Free n)) (closed_variable n) d t
    (MeetsInType-here (without n) _ (gives_here _ _ (λ k v h. closed_put n k v h)) d t m)

pub type_size-closed : (n d : ℕ) (t : CapturingType) → MeetsInType (bound_within 0) d t
    → type_size (act_type (closing n) d t) ≡ type_size t
type_size-closed n d t m =
    type_size-undone (closed_variable n) (put_variable (Free n)) d t
    (MeetsInType-here (bound_within 0) _ (gives_here _ _ (λ k v h. put_closed n k v h)) d t m)
