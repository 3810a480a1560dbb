-- Exposing among the entries before a position.
use Rattle.std.proofs.Common.{◌≡◌, ℕ, ◌<◌, ◌≤◌, true, false, cond, [], ◌∷◌, length, Option, Some, None, refl, sym, ap, ◌∙◌, arith}
use Rattle.std.specs.Prelude.{nat_eq, nat_lt}
use Rattle.std.proofs.lemmas.Bool.{cond-true, cond-false, ne_eqb, eqb-true, lt-ltb, le-ltb, ltb-true, ltb-false}
use Rattle.cc_capture.specs.declared.var.Var.TheVariants.{Bound, Free}
use Rattle.cc_core.specs.Contexts.{Bind, TermEntry, TypeEntry, Context, lookup}
use Rattle.cc_core.specs.Shapes.{Shape, BaseShape, AnyShape, TypeVariable, FunctionShape, TypeFunctionShape, BoxShape, ExitShape}
use Rattle.cc_core.proofs.Lookups.{lookup-below}
use Rattle.cc_typing_laws.proofs.ExposingShapes.{others_stay}
use Rattle.cc_checking.specs.Comparison.{bound_in}
use Rattle.cc_checking.specs.Exposing.{followed, exposed}
use Rattle.cc_derive.specs.Older.{older, position_before}

-- no limit, and one at the length
pub older_all : (g : Context) (limit : ℕ) → length g ≤ limit → older limit g ≡ g
older_all [] limit h = refl
older_all (b ∷ g) limit h = cond-true (nat_lt (length g) limit) (b ∷ g) (older limit g) (lt-ltb (length g) limit (omega arith))

older_newer : (b : Bind) (g : Context) (limit : ℕ) → limit ≤ length g → older limit (b ∷ g) ≡ older limit g
older_newer b g limit h = cond-false (nat_lt (length g) limit) (b ∷ g) (older limit g) (le-ltb (length g) limit h)

-- a variable of another position is not followed
not_followed : (b : Bind) (n p : ℕ) → nat_eq p n ≡ false → followed b n (TypeVariable (Free p)) ≡ TypeVariable (Free p)
not_followed (TermEntry s d) n p other = refl
not_followed (TypeEntry x) n p other = cond-false (nat_eq p n) x (TypeVariable (Free p)) other

beyond : (g : Context) (p : ℕ) → length g ≤ p → exposed g (TypeVariable (Free p)) ≡ TypeVariable (Free p)
beyond [] p h = refl
beyond (b ∷ g) p h =
    ap (exposed g) (not_followed b (length g) p (ne_eqb p (length g) (λ e. omega arith))) ∙ beyond g p (omega arith)

index_stays : (g : Context) (i : ℕ) → exposed g (TypeVariable (Bound i)) ≡ TypeVariable (Bound i)
index_stays [] i = refl
index_stays (TermEntry s d ∷ g) i = index_stays g i
index_stays (TypeEntry x ∷ g) i = index_stays g i

-- a variable with a bound is exposed as that, among the entries before it
to_bound : (g : Context) (p : ℕ) (x : Shape) → lookup g p ≡ Some (TypeEntry x)
    → exposed g (TypeVariable (Free p)) ≡ exposed (older p g) x
to_bound [] p x there = cc
to_bound (b ∷ g) p x there =
    elim (nat_eq p (length g)) as (λ t. nat_eq p (length g) ≡ t → cond t (Some b) (lookup g p) ≡ Some (TypeEntry x) → exposed g (followed b (length g) (TypeVariable (Free p))) ≡ exposed (older p (b ∷ g)) x) [
      | true ↦ λ same found.
          let is : b ≡ TypeEntry x = cc in
          let at = eqb-true p (length g) same in
          ap (λ (y : Bind). exposed g (followed y (length g) (TypeVariable (Free p)))) is
          ∙ ap (exposed g) (cond-true (nat_eq p (length g)) x (TypeVariable (Free p)) same)
          ∙ ap (λ h. exposed h x) (sym (older_newer b g p (omega arith) ∙ older_all g p (omega arith)))
      | false ↦ λ other found.
          let below = lookup-below g p (TypeEntry x) found in
          ap (exposed g) (not_followed b (length g) p other) ∙ to_bound g p x found
          ∙ ap (λ h. exposed h x) (sym (older_newer b g p (omega arith)))
    ] refl there

-- a variable without a bound stays
without_bound : (g : Context) (p : ℕ) → bound_in (lookup g p) ≡ None → exposed g (TypeVariable (Free p)) ≡ TypeVariable (Free p)
without_bound [] p none = refl
without_bound (b ∷ g) p none =
    elim (nat_eq p (length g)) as (λ t. nat_eq p (length g) ≡ t → bound_in (cond t (Some b) (lookup g p)) ≡ None → exposed g (followed b (length g) (TypeVariable (Free p))) ≡ TypeVariable (Free p)) [
      | true ↦ λ same found. newest b found ∙ beyond g p (omega (arith, eqb-true p (length g) same))
      | false ↦ λ other found. ap (exposed g) (not_followed b (length g) p other) ∙ without_bound g p found
    ] refl none
  where
    newest : (b : Bind) → bound_in (Some b) ≡ None → exposed g (followed b (length g) (TypeVariable (Free p))) ≡ exposed g (TypeVariable (Free p))
    newest (TermEntry s d) e = refl
    newest (TypeEntry x) e = cc

-- what stands below the limit is the same
lookup_older : (g : Context) (limit p : ℕ) → p < limit → lookup (older limit g) p ≡ lookup g p
lookup_older [] limit p h = refl
lookup_older (b ∷ g) limit p h =
    elim (nat_lt (length g) limit) as (λ t. nat_lt (length g) limit ≡ t → lookup (cond t (b ∷ g) (older limit g)) p ≡ lookup (b ∷ g) p) [
      | true ↦ λ _. refl
      | false ↦ λ no.
          let within = ltb-false (length g) limit no in
          lookup_older g limit p h ∙ sym (cond-false (nat_eq p (length g)) (Some b) (lookup g p) (ne_eqb p (length g) (λ e. omega arith)))
    ] refl

older_length : (g : Context) (limit : ℕ) → length (older limit g) ≤ limit
older_length [] limit = omega arith
older_length (b ∷ g) limit =
    elim (nat_lt (length g) limit) as (λ t. nat_lt (length g) limit ≡ t → length (cond t (b ∷ g) (older limit g)) ≤ limit) [
      | true ↦ λ yes. let below = ltb-true (length g) limit yes in omega arith
      | false ↦ λ _. older_length g limit
    ] refl

older_older : (g : Context) (limit p : ℕ) → p ≤ limit → older p (older limit g) ≡ older p g
older_older [] limit p h = refl
older_older (b ∷ g) limit p h =
    elim (nat_lt (length g) limit) as (λ t. nat_lt (length g) limit ≡ t → older p (cond t (b ∷ g) (older limit g)) ≡ older p (b ∷ g)) [
      | true ↦ λ _. refl
      | false ↦ λ no.
          let within = ltb-false (length g) limit no in
          older_older g limit p h ∙ sym (older_newer b g p (omega arith))
    ] refl

-- one bound is followed
pub follows : (g : Context) (limit p : ℕ) (s x : Shape) → position_before s limit ≡ Some p → bound_in (lookup g p) ≡ Some x
    → (p < limit) × (exposed (older limit g) s ≡ exposed (older p g) x)
follows g limit p (TypeVariable (Free q)) x at found =
    elim (nat_lt q limit) as (λ t. nat_lt q limit ≡ t → cond t (Some q) None ≡ Some p → (p < limit) × (exposed (older limit g) (TypeVariable (Free q)) ≡ exposed (older p g) x)) [
      | true ↦ λ yes e.
          let is : q ≡ p = cc in
          let below : p < limit = omega (arith, ltb-true q limit yes) in
          let there = lookup_older g limit p below ∙ of_bound (lookup g p) x found in (
            below,
            ap (λ (y : ℕ). exposed (older limit g) (TypeVariable (Free y))) is ∙ to_bound (older limit g) p x there
                ∙ ap (λ h. exposed h x) (older_older g limit p (omega arith)),
          )
      | false ↦ λ _ e. cc
    ] refl at
  where
    of_bound : (found : Option Bind) (x : Shape) → bound_in found ≡ Some x → found ≡ Some (TypeEntry x)
    of_bound (Some (TypeEntry y)) x e = let is : y ≡ x = cc in ap (λ z. Some (TypeEntry z)) is
    of_bound (Some (TermEntry s d)) x e = cc
    of_bound None x e = cc
follows g limit p (TypeVariable (Bound i)) x at found = cc
follows g limit p (BaseShape b) x at found = cc
follows g limit p AnyShape x at found = cc
follows g limit p (FunctionShape t c u e) x at found = cc
follows g limit p (TypeFunctionShape b u e) x at found = cc
follows g limit p (BoxShape t c) x at found = cc
follows g limit p (ExitShape u) x at found = cc

-- none is left
pub ends : (g : Context) (limit : ℕ) (s : Shape) → position_before s limit ≡ None → exposed (older limit g) s ≡ s
ends g limit (TypeVariable (Free q)) none =
    elim (nat_lt q limit) as (λ t. nat_lt q limit ≡ t → cond t (Some q) None ≡ None → exposed (older limit g) (TypeVariable (Free q)) ≡ TypeVariable (Free q)) [
      | true ↦ λ _ e. cc
      | false ↦ λ no _. beyond (older limit g) q (omega (arith, ltb-false q limit no, older_length g limit))
    ] refl none
ends g limit (TypeVariable (Bound i)) none = index_stays (older limit g) i
ends g limit (BaseShape b) none = others_stay (older limit g) (BaseShape b) (λ v e. cc)
ends g limit AnyShape none = others_stay (older limit g) AnyShape (λ v e. cc)
ends g limit (FunctionShape t c u e) none = others_stay (older limit g) (FunctionShape t c u e) (λ v e'. cc)
ends g limit (TypeFunctionShape b u e) none = others_stay (older limit g) (TypeFunctionShape b u e) (λ v e'. cc)
ends g limit (BoxShape t c) none = others_stay (older limit g) (BoxShape t c) (λ v e'. cc)
ends g limit (ExitShape u) none = others_stay (older limit g) (ExitShape u) (λ v e'. cc)

-- a position without a bound
pub stops : (g : Context) (limit p : ℕ) (s : Shape) → position_before s limit ≡ Some p → bound_in (lookup g p) ≡ None
    → exposed (older limit g) s ≡ s
stops g limit p (TypeVariable (Free q)) at none =
    elim (nat_lt q limit) as (λ t. nat_lt q limit ≡ t → cond t (Some q) None ≡ Some p → exposed (older limit g) (TypeVariable (Free q)) ≡ TypeVariable (Free q)) [
      | true ↦ λ yes e.
          let is : q ≡ p = cc in
          without_bound (older limit g) q (ap bound_in (lookup_older g limit q (ltb-true q limit yes)) ∙ ap (λ (y : ℕ). bound_in (lookup g y)) is ∙ none)
      | false ↦ λ _ e. cc
    ] refl at
stops g limit p (TypeVariable (Bound i)) at none = cc
stops g limit p (BaseShape b) at none = cc
stops g limit p AnyShape at none = cc
stops g limit p (FunctionShape t c u e) at none = cc
stops g limit p (TypeFunctionShape b u e) at none = cc
stops g limit p (BoxShape t c) at none = cc
stops g limit p (ExitShape u) at none = cc
