-- What stands in a term at a place of a context is read as what is well formed in the context, and written back as what is
-- well formed there.
use Rattle.std.proofs.Common.{◌≡◌, ◌⊎◌, ℕ, zero, suc, ◌+◌, ◌-◌, ◌<◌, ◌≤◌, List, [], ◌∷◌, ◌++◌, length, Some, sym, ap, ◌∙◌, subst, inl, inr, arith}
use Rattle.std.specs.List.{slice_get}
use Rattle.cc_capture.specs.declared.var.Var.TheVariants.{Bound, Free}
use Rattle.cc_core.specs.Contexts.{Bind, Context, lookup}
use Rattle.cc_core.specs.WellFormed.{Kind, kind_of, kinds_of}
use Rattle.cc_core.specs.Reading.{read_variable, written_variable, reading, writing}
use Rattle.cc_core.proofs.Lookups.{lookup-newest, lookup-below, lookup-older, lookup-cases, length_map, slice_get-append, slice_get-beyond, slice_get-within}
use Rattle.cc_core.proofs.KindFacts.{IsOfKind}
use Rattle.cc_core.proofs.KindRespecting.{MovesKinds, KeepsKinds-moving}
use Rattle.cc_core.proofs.ReadingAndWriting.{read_variable-inside, read_variable-entry, written_variable-below, written_variable-entry}
use Rattle.cc_core.proofs.Sorts.{Sort, Syntax, HasKinds, HasKinds-act, acted}

-- the context has the entries of these binders on top of those of the base
pub data Inside (base : Context) : Context → List Kind → Type 0 where
  outermost : Inside base base []
  deeper : {g : Context} {passed : List Kind} (b : Bind) → Inside base g passed → Inside base (b ∷ g) (kind_of b ∷ passed)

pub inside_length : {base g : Context} {passed : List Kind} → Inside base g passed → length g ≡ length passed + length base
inside_length outermost = omega arith
inside_length (deeper b i) = let e = inside_length i in omega arith

at_index : {base g : Context} {passed : List Kind} → Inside base g passed → (j : ℕ) (k : Kind) → slice_get passed j ≡ Some k
    → lookup (kinds_of g) (length g - suc j) ≡ Some k
at_index outermost j k e = cc
at_index (deeper {g = g} b i) zero k e =
    let n = length_map kind_of g in
    let here : suc (length g) - 1 ≡ length (kinds_of g) = omega arith in
    ap (lookup (kind_of b ∷ kinds_of g)) here ∙ lookup-newest (kind_of b) (kinds_of g) ∙ e
at_index (deeper {g = g} b i) (suc j) k e =
    let same : suc (length g) - suc (suc j) ≡ length g - suc j = omega arith in
    ap (lookup (kind_of b ∷ kinds_of g)) same ∙ lookup-older (kind_of b) (kinds_of g) (length g - suc j) k (at_index i j k e)

pub at_base : {base g : Context} {passed : List Kind} → Inside base g passed → (p : ℕ) (k : Kind) → lookup (kinds_of base) p ≡ Some k
    → lookup (kinds_of g) p ≡ Some k
at_base outermost p k e = e
at_base (deeper {g = g} b i) p k e = lookup-older (kind_of b) (kinds_of g) p k (at_base i p k e)

at_position : {base g : Context} {passed : List Kind} → Inside base g passed → (p : ℕ) (k : Kind) → lookup (kinds_of g) p ≡ Some k
    → ((p < length base) × (lookup (kinds_of base) p ≡ Some k)) ⊎ ((length base ≤ p) × (slice_get passed (length g - suc p) ≡ Some k))
at_position {base = base} outermost p k e =
    let below : p < length (kinds_of base) = lookup-below (kinds_of base) p k e in
    let n = length_map kind_of base in
    inl (omega arith, e)
at_position {base = base} (deeper {g = g} {passed = passed} b i) p k e =
    let n = length_map kind_of g in
    let l = inside_length i in
    elim (lookup-cases (kind_of b) (kinds_of g) p k e) as (λ _. ((p < length base) × (lookup (kinds_of base) p ≡ Some k)) ⊎ ((length base ≤ p) × (slice_get (kind_of b ∷ passed) (suc (length g) - suc p) ≡ Some k))) [
      | inl here ↦
          let is : p ≡ length g = here.0 ∙ n in
          let none : suc (length g) - suc p ≡ 0 = omega arith in
          inr (omega arith, ap (slice_get (kind_of b ∷ passed)) none ∙ ap (λ x. Some x) here.1)
      | inr older ↦ later b i p k (at_position i p k older) (lookup-below (kinds_of g) p k older)
    ]
  where
    later : {g : Context} {passed : List Kind} (b : Bind) → Inside base g passed → (p : ℕ) (k : Kind)
        → ((p < length base) × (lookup (kinds_of base) p ≡ Some k)) ⊎ ((length base ≤ p) × (slice_get passed (length g - suc p) ≡ Some k))
        → p < length (kinds_of g)
        → ((p < length base) × (lookup (kinds_of base) p ≡ Some k)) ⊎ ((length base ≤ p) × (slice_get (kind_of b ∷ passed) (suc (length g) - suc p) ≡ Some k))
    later b i p k (inl below) l = inl below
    later {g} {passed} b i p k (inr from) l =
        let n = length_map kind_of g in
        let one : suc (length g) - suc p ≡ suc (length g - suc p) = omega arith in
        inr (from.0, ap (slice_get (kind_of b ∷ passed)) one ∙ from.1)

split_index : (xs ys : List Kind) (i : ℕ) (k : Kind) → slice_get (xs ++ ys) i ≡ Some k
    → ((i < length xs) × (slice_get xs i ≡ Some k)) ⊎ ((length xs ≤ i) × (slice_get ys (i - length xs) ≡ Some k))
split_index [] ys i k e =
    let same : i - 0 ≡ i = omega arith in inr (omega arith, ap (slice_get ys) same ∙ e)
split_index (x ∷ xs) ys zero k e = inl (omega arith, e)
split_index (x ∷ xs) ys (suc i) k e = one_more (split_index xs ys i k e)
  where
    one_more : ((i < length xs) × (slice_get xs i ≡ Some k)) ⊎ ((length xs ≤ i) × (slice_get ys (i - length xs) ≡ Some k))
        → ((suc i < suc (length xs)) × (slice_get xs i ≡ Some k)) ⊎ ((suc (length xs) ≤ suc i) × (slice_get ys (suc i - suc (length xs)) ≡ Some k))
    one_more (inl h) = let l = h.0 in inl (omega arith, h.1)
    one_more (inr h) =
        let l = h.0 in
        let same : suc i - suc (length xs) ≡ i - length xs = omega arith in inr (omega arith, ap (slice_get ys) same ∙ h.1)

index_after : (xs ys : List Kind) (j : ℕ) (k : Kind) → slice_get ys j ≡ Some k → slice_get (xs ++ ys) (length xs + j) ≡ Some k
index_after [] ys j k e = let same : 0 + j ≡ j = omega arith in ap (slice_get ys) same ∙ e
index_after (x ∷ xs) ys j k e =
    let same : suc (length xs) + j ≡ suc (length xs + j) = omega arith in
    ap (slice_get (x ∷ xs ++ ys)) same ∙ index_after xs ys j k e

module _ {base g : Context} {passed : List Kind} (i : Inside base g passed) where
  pub reading_moves : MovesKinds (read_variable (length g)) (kinds_of base) passed (kinds_of g) []
  reading_moves more (Free p) k e = at_base i p k e
  reading_moves more (Bound j) k e =
      elim (split_index more passed j k e) as (λ _. IsOfKind (kinds_of g) (more ++ []) (read_variable (length g) (length more) (Bound j)) k) [
        | inl inside ↦
            subst (λ v. IsOfKind (kinds_of g) (more ++ []) v k) (sym (read_variable-inside (length g) (length more) j inside.0)) (slice_get-append more [] j k inside.1)
        | inr beyond ↦
            let below : j - length more < length passed = slice_get-within passed (j - length more) k beyond.1 in
            let l = inside_length i in
            subst (λ v. IsOfKind (kinds_of g) (more ++ []) v k) (sym (read_variable-entry (length g) (length more) j beyond.0 (omega arith)))
            (at_index i (j - length more) k beyond.1)
      ]

  pub writing_moves : MovesKinds (written_variable (length base) (length g)) (kinds_of g) [] (kinds_of base) passed
  writing_moves more (Bound j) k e = slice_get-beyond more passed j k e
  writing_moves more (Free p) k e =
      let n = length_map kind_of g in
      let below : p < length (kinds_of g) = lookup-below (kinds_of g) p k e in
      elim (at_position i p k e) as (λ _. IsOfKind (kinds_of base) (more ++ passed) (written_variable (length base) (length g) (length more) (Free p)) k) [
        | inl global ↦
            subst (λ v. IsOfKind (kinds_of base) (more ++ passed) v k) (sym (written_variable-below (length base) (length g) (length more) p global.0)) global.1
        | inr local ↦
            subst (λ v. IsOfKind (kinds_of base) (more ++ passed) v k) (sym (written_variable-entry (length base) (length g) (length more) p local.0 (omega arith)))
            (index_after more passed (length g - suc p) k local.1)
      ]

  -- what is well formed there is well formed here
  pub read_kinded : (sort : Sort) (x : Syntax sort) → HasKinds sort (kinds_of base) passed x → HasKinds sort (kinds_of g) [] (acted sort (reading (length g)) 0 x)
  read_kinded sort x k =
      HasKinds-act sort (reading (length g)) (kinds_of base) passed (kinds_of g) []
      (KeepsKinds-moving (read_variable (length g)) (kinds_of base) passed (kinds_of g) [] reading_moves) [] x k

  -- and back
  pub written_kinded : (sort : Sort) (x : Syntax sort) → HasKinds sort (kinds_of g) [] x → HasKinds sort (kinds_of base) passed (acted sort (writing (length base) (length g)) 0 x)
  written_kinded sort x k =
      HasKinds-act sort (writing (length base) (length g)) (kinds_of g) [] (kinds_of base) passed
      (KeepsKinds-moving (written_variable (length base) (length g)) (kinds_of g) [] (kinds_of base) passed writing_moves) [] x k
