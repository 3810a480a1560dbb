-- Opening undoes closing, closing undoes opening, and both by what is done to one variable.
use Rattle.std.proofs.Common.{◌≡◌, ℕ, ◌+◌, ◌<◌, inl, inr, refl, sym, ap, ◌∙◌, subst, arith}
use Rattle.std.proofs.lemmas.Bool.{cases_eq, cond-true, cond-false, eq-eqb, ne_eqb}
use Rattle.std.specs.Prelude.{nat_eq}
use Rattle.cc_capture.specs.declared.var.Var.{Var}
use Rattle.cc_capture.specs.declared.var.Var.TheVariants.{Bound, Free}
use Rattle.cc_core.specs.Substitution.{put_variable, closed_variable, opening, closing, putting}
use Rattle.cc_core.specs.Occurrences.{without, HasBinder, bound_within}
use Rattle.cc_core.proofs.Conditions.{gives_here, always_on_variables}
use Rattle.cc_core.proofs.Moving.{moving-moving, moving-still, moving_brings}
use Rattle.cc_core.proofs.Sorts.{MeetsIn, MeetsIn-act, MeetsIn-always, MeetsIn-here, Sort, Syntax, acted}

-- one variable
pub put_variable-same : (by : Var) (d : ℕ) → put_variable by d (Bound d) ≡ by
put_variable-same by d = cond-true (nat_eq d d) by (Bound d) (eq-eqb d d refl)

pub put_variable-other : (by : Var) (d i : ℕ) → (i ≡ d → ⊥) → put_variable by d (Bound i) ≡ Bound i
put_variable-other by d i ne = cond-false (nat_eq i d) by (Bound i) (ne_eqb i d ne)

pub closed_variable-same : (n d : ℕ) → closed_variable n d (Free n) ≡ Bound d
closed_variable-same n d = cond-true (nat_eq n n) (Bound d) (Free n) (eq-eqb n n refl)

pub closed_variable-other : (n d p : ℕ) → (p ≡ n → ⊥) → closed_variable n d (Free p) ≡ Free p
closed_variable-other n d p ne = cond-false (nat_eq p n) (Bound d) (Free p) (ne_eqb p n ne)

pub closed_put : (n d : ℕ) (v : Var) → (v ≡ Free n → ⊥) → closed_variable n d (put_variable (Free n) d v) ≡ v
closed_put n d (Free p) ne = closed_variable-other n d p (λ e. ne (ap Free e))
closed_put n d (Bound i) ne =
    elim (cases_eq i d) as (λ _. closed_variable n d (put_variable (Free n) d (Bound i)) ≡ Bound i) [
      | inl e ↦ ap (closed_variable n d) (ap (λ k. put_variable (Free n) d (Bound k)) e ∙ put_variable-same (Free n) d) ∙ closed_variable-same n d ∙ ap Bound (sym e)
      | inr other ↦ ap (closed_variable n d) (put_variable-other (Free n) d i other)
    ]

pub put_closed : (n d : ℕ) (v : Var) → HasBinder (d + 0) v → put_variable (Free n) d (closed_variable n d v) ≡ v
put_closed n d (Bound i) h = put_variable-other (Free n) d i (λ e. omega arith)
put_closed n d (Free p) h =
    elim (cases_eq p n) as (λ _. put_variable (Free n) d (closed_variable n d (Free p)) ≡ Free p) [
      | inl e ↦ ap (put_variable (Free n) d) (ap (λ k. closed_variable n d (Free k)) e ∙ closed_variable-same n d) ∙ put_variable-same (Free n) d ∙ ap Free (sym e)
      | inr other ↦ ap (put_variable (Free n) d) (closed_variable-other n d p other)
    ]

pub closed_is_other : (n d : ℕ) (v : Var) → closed_variable n d v ≡ Free n → ⊥
closed_is_other n d (Bound i) e = cc
closed_is_other n d (Free p) e =
    elim (cases_eq p n) as (λ _. ⊥) [
      | inl same ↦ let b : closed_variable n d (Free p) ≡ Bound d = ap (λ k. closed_variable n d (Free k)) same ∙ closed_variable-same n d in cc
      | inr other ↦ let b : closed_variable n d (Free p) ≡ Free p = closed_variable-other n d p other in other (let f : Free p ≡ Free n = sym b ∙ e in cc)
    ]

pub HasBinder-put : (p d : ℕ) (v : Var) → HasBinder (d + 1) v → HasBinder (d + 0) (put_variable (Free p) d v)
HasBinder-put p d (Free q) h = tt
HasBinder-put p d (Bound i) h =
    elim (cases_eq i d) as (λ _. HasBinder (d + 0) (put_variable (Free p) d (Bound i))) [
      | inl e ↦ subst (HasBinder (d + 0)) (sym (ap (λ k. put_variable (Free p) d (Bound k)) e ∙ put_variable-same (Free p) d)) tt
      | inr other ↦ subst (HasBinder (d + 0)) (sym (put_variable-other (Free p) d i other)) (let l : i < d + 0 = omega arith in l)
    ]

-- a variable put where no index is open changes nothing
pub put_still : (by : Var) (d : ℕ) (v : Var) → HasBinder (d + 0) v → put_variable by d v ≡ v
put_still by d (Free p) h = refl
put_still by d (Bound i) h = put_variable-other by d i (λ e. omega arith)

-- closing undoes opening where the position does not occur, and opening undoes closing where no index is open
pub closed-opened : (sort : Sort) (n d : ℕ) (x : Syntax sort) → MeetsIn sort (without n) d x
    → acted sort (closing n) d (acted sort (opening n) d x) ≡ x
closed-opened sort n d x m =
    moving-moving (closed_variable n) (put_variable (Free n)) sort d x
    ∙ moving-still (λ k v. closed_variable n k (put_variable (Free n) k v)) sort d x (MeetsIn-here sort (without n) _ (gives_here _ _ (λ k v h. closed_put n k v h)) d x m)

pub opened-closed : (sort : Sort) (n d : ℕ) (x : Syntax sort) → MeetsIn sort (bound_within 0) d x
    → acted sort (opening n) d (acted sort (closing n) d x) ≡ x
opened-closed sort n d x m =
    moving-moving (put_variable (Free n)) (closed_variable n) sort d x
    ∙ moving-still (λ k v. put_variable (Free n) k (closed_variable n k v)) sort d x (MeetsIn-here sort (bound_within 0) _ (gives_here _ _ (λ k v h. put_closed n k v h)) d x m)

pub putting-still : (sort : Sort) (by : Var) (d : ℕ) (x : Syntax sort) → MeetsIn sort (bound_within 0) d x
    → acted sort (putting by) d x ≡ x
putting-still sort by d x m =
    moving-still (put_variable by) sort d x
    (MeetsIn-here sort (bound_within 0) _ (gives_here _ _ (λ k v h. put_still by k v h)) d x m)

-- what is opened has one open index less, what is closed one more, and without the position
pub opened-bound_within : (sort : Sort) (p d : ℕ) (x : Syntax sort) → MeetsIn sort (bound_within 1) d x
    → MeetsIn sort (bound_within 0) d (acted sort (opening p) d x)
opened-bound_within sort p d x m =
    MeetsIn-act sort (opening p) _ (bound_within 0) (moving_brings (put_variable (Free p)) (λ k v. HasBinder (k + 0) v)) d x
    (MeetsIn-here sort (bound_within 1) _ (gives_here _ _ (λ k v h. HasBinder-put p k v h)) d x m)

pub closed-without : (sort : Sort) (n d : ℕ) (x : Syntax sort)
    → MeetsIn sort (without n) d (acted sort (closing n) d x)
closed-without sort n d x =
    MeetsIn-act sort (closing n) _ (without n) (moving_brings (closed_variable n) (λ k v. v ≡ Free n → ⊥)) d x
    (MeetsIn-always sort _ (always_on_variables _ (λ k v. closed_is_other n k v)) d x)
