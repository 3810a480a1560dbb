-- Bodies in their environment: putting in a position, or nothing for a binder of types, is one binder more.
use Rattle.std.proofs.Common.{◌≡◌, ◌⊎◌, ℕ, zero, suc, Option, Some, None, inl, inr, refl, sym, ap, ◌∙◌, arith}
use Rattle.std.specs.Prelude.{nat_eq}
use Rattle.std.proofs.lemmas.Bool.{cond-true, cond-false, eq-eqb, ne_eqb}
use Rattle.cc_capture.specs.declared.var.Var.{Var}
use Rattle.cc_capture.specs.declared.var.Var.TheVariants.{Bound, Free}
use Rattle.cc_core.specs.Shapes.{Shape}
use Rattle.cc_core.specs.Terms.{Term}
use Rattle.cc_core.specs.Traversal.{act_term}
use Rattle.cc_core.specs.Substitution.{putting, put_variable as put_for, putting_shape}
use Rattle.cc_core.proofs.Moving.{moving-moving, moving-identity, same_moves}
use Rattle.cc_core.proofs.Shifting.{shift_term}
use Rattle.cc_core.proofs.Sorts.{acted-keeping, TermSort}
use Rattle.cc_runs.specs.Alike.{erased}
use Rattle.cc_runs.specs.Machine.{put_in}
use Rattle.cc_runs.proofs.Erasure.{erased-act, erased-putting_shape}
use Rattle.cc_machine.specs.Environments.{Environment, extended}
use Rattle.cc_machine.specs.Putting.{found_under, variable_or, put_environment, putting_all, put_all, put_body}

-- an index is that of the binder, which is found in the longer environment alone, or is found as in the shorter one
pub found-extended : (o : Option ℕ) (e : Environment) (d i : ℕ)
    → ((i ≡ d) × (found_under (extended o e) d i ≡ o) × (found_under e (suc d) i ≡ None))
    ⊎ ((i ≡ d → ⊥) × (found_under (extended o e) d i ≡ found_under e (suc d) i))
found-extended o e zero zero = inl (refl, refl, refl)
found-extended o e zero (suc i) = inr (λ h. omega arith, refl)
found-extended o e (suc d) zero = inr (λ h. omega arith, refl)
found-extended o e (suc d) (suc i) =
    elim (found-extended o e d i) as (λ _.
    ((suc i ≡ suc d) × (found_under (extended o e) d i ≡ o) × (found_under e (suc d) i ≡ None))
    ⊎ ((suc i ≡ suc d → ⊥) × (found_under (extended o e) d i ≡ found_under e (suc d) i))) [
      | inl h ↦ inl (ap suc h.0, h.1, h.2)
      | inr h ↦ inr (λ k. h.0 (omega arith), h.1)
    ]

put_at : (q d i : ℕ) (o : Option ℕ) → (i ≡ d → ⊥) → put_for (Free q) d (variable_or i o) ≡ variable_or i o
put_at q d i None ne = cond-false (nat_eq i d) (Free q) (Bound i) (ne_eqb i d ne)
put_at q d i (Some p) ne = refl

put-extended : (q : ℕ) (e : Environment) (d : ℕ) (v : Var)
    → put_for (Free q) d (put_environment e (suc d) v) ≡ put_environment (extended (Some q) e) d v
put-extended q e d (Free p) = refl
put-extended q e d (Bound i) =
    elim (found-extended (Some q) e d i) as (λ _.
    put_for (Free q) d (variable_or i (found_under e (suc d) i)) ≡ variable_or i (found_under (extended (Some q) e) d i)) [
      | inl h ↦
          ap (λ o. put_for (Free q) d (variable_or i o)) h.2
          ∙ cond-true (nat_eq i d) (Free q) (Bound i) (eq-eqb i d h.0)
          ∙ sym (ap (variable_or i) h.1)
      | inr h ↦ put_at q d i (found_under e (suc d) i) h.0 ∙ sym (ap (variable_or i) h.1)
    ]

type-extended : (e : Environment) (d : ℕ) (v : Var) → put_environment e (suc d) v ≡ put_environment (extended None e) d v
type-extended e d (Free p) = refl
type-extended e d (Bound i) =
    elim (found-extended None e d i) as (λ _.
    variable_or i (found_under e (suc d) i) ≡ variable_or i (found_under (extended None e) d i)) [
      | inl h ↦ ap (variable_or i) (h.2 ∙ sym h.1)
      | inr h ↦ sym (ap (variable_or i) h.1)
    ]

-- the body with the position
pub put_in-body : (q : ℕ) (e : Environment) (t : Term) → put_in (Free q) (put_body e t) ≡ put_all (extended (Some q) e) t
put_in-body q e t =
    erased-act (putting (Free q)) zero (act_term (putting_all e) 1 t)
    ∙ ap (λ x. erased (act_term (putting (Free q)) zero x)) (shift_term (putting_all e) zero t)
    ∙ ap erased (moving-moving (put_for (Free q)) (λ d. put_environment e (suc d)) TermSort zero t)
    ∙ ap (λ a. erased (act_term a zero t))
    (same_moves (λ d v. put_for (Free q) d (put_environment e (suc d) v)) (put_environment (extended (Some q) e)) (put-extended q e))

-- the body of a type function
pub type_body : (s : Shape) (e : Environment) (t : Term)
    → act_term (putting_shape s) zero (put_body e t) ≡ put_all (extended None e) t
type_body s e t =
    erased-putting_shape s zero (act_term (putting_all e) 1 t)
    ∙ ap erased (shift_term (putting_all e) zero t)
    ∙ ap (λ a. erased (act_term a zero t))
    (same_moves (λ d. put_environment e (suc d)) (put_environment (extended None e)) (type-extended e))

-- in the empty environment a term stays
nothing_found : (d i : ℕ) → found_under (λ index. None) d i ≡ None
nothing_found zero i = refl
nothing_found (suc d) zero = refl
nothing_found (suc d) (suc i) = nothing_found d i

stays : (d : ℕ) (v : Var) → put_environment (λ index. None) d v ≡ v
stays d (Free p) = refl
stays d (Bound i) = ap (variable_or i) (nothing_found d i)

pub put_nothing : (t : Term) → put_all (λ index. None) t ≡ erased t
put_nothing t =
    ap (λ a. erased (act_term a zero t)) (same_moves (put_environment (λ index. None)) (λ d v. v) stays ∙ moving-identity)
    ∙ ap erased (acted-keeping TermSort zero t)
