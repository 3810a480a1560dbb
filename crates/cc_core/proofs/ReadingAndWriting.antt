-- Reading and writing undo each other, and a body that is read and then opened is read with its binder's entry: by what is done
-- to one variable.
use Rattle.std.proofs.Common.{◌≡◌, ℕ, suc, ◌+◌, ◌-◌, ◌<◌, ◌≤◌, ◌&&◌, ◌⊎◌, true, false, inl, inr, refl, sym, ap, ◌∙◌, arith}
use Rattle.std.specs.Prelude.{nat_le, nat_lt}
use Rattle.std.proofs.lemmas.Bool.{cases_lt, cases_eq, cond-true, cond-false, lt-ltb, le-ltb, le-leb, leb-true, false_from_ne_true, and_left}
use Rattle.std.proofs.Math.Bool.{and-false}
use Rattle.cc_capture.specs.declared.var.Var.{Var}
use Rattle.cc_capture.specs.declared.var.Var.TheVariants.{Bound, Free}
use Rattle.cc_capture.specs.Sets.{Set}
use Rattle.cc_core.specs.Shapes.{Shape, CapturingType}
use Rattle.cc_core.specs.Terms.{Term}
use Rattle.cc_core.specs.Traversal.{act, act_set, act_type, act_term}
use Rattle.cc_core.specs.Substitution.{put_variable, opening}
use Rattle.cc_core.specs.Reading.{read_variable, written_variable, reading, writing}
use Rattle.cc_core.specs.ReadingLaws.{of_the_term}
use Rattle.cc_core.specs.Occurrences.{Meets, MeetsInSet, MeetsInType, MeetsInTerm, HasBinder, IsPositionBelow, bound_within}
use Rattle.cc_core.proofs.Conditions.{gives_here, MeetsInSet-here, Meets-here, MeetsInType-here, MeetsInTerm-here}
use Rattle.cc_core.proofs.Moving.{same_moves, moving-moving, moving-still}
use Rattle.cc_core.proofs.Sorts.{SetSort, ShapeSort, TypeSort, TermSort}
use Rattle.cc_core.proofs.Opening.{put_variable-same, put_variable-other}
use Rattle.cc_core.proofs.Shifting.{shift, shift_type, shift_term}

-- both tests pass
both_pass : (a b c e : ℕ) → a ≤ b → c < e → (nat_le a b && nat_lt c e) ≡ true
both_pass a b c e l m = ap (λ x. x && nat_lt c e) (le-leb a b l) ∙ lt-ltb c e m

-- one of them fails
first_fails : (a b c e : ℕ) → b < a → (nat_le a b && nat_lt c e) ≡ false
first_fails a b c e l = and_left (nat_le a b) (nat_lt c e) (false_from_ne_true (nat_le a b) (λ t. let u = leb-true a b t in omega arith))

second_fails : (a b c e : ℕ) → e ≤ c → (nat_le a b && nat_lt c e) ≡ false
second_fails a b c e l = ap (λ x. nat_le a b && x) (le-ltb c e l) ∙ and-false (nat_le a b)

-- one variable
pub read_variable-inside : (n d i : ℕ) → i < d → read_variable n d (Bound i) ≡ Bound i
read_variable-inside n d i h = cond-false (nat_le d i && nat_lt (i - d) n) (Free (n - suc (i - d))) (Bound i) (first_fails d i (i - d) n h)

pub read_variable-entry : (n d i : ℕ) → d ≤ i → i - d < n → read_variable n d (Bound i) ≡ Free (n - suc (i - d))
read_variable-entry n d i h l = cond-true (nat_le d i && nat_lt (i - d) n) (Free (n - suc (i - d))) (Bound i) (both_pass d i (i - d) n h l)

pub read_variable-past : (n d i : ℕ) → n ≤ i - d → read_variable n d (Bound i) ≡ Bound i
read_variable-past n d i l = cond-false (nat_le d i && nat_lt (i - d) n) (Free (n - suc (i - d))) (Bound i) (second_fails d i (i - d) n l)

pub written_variable-below : (r n d p : ℕ) → p < r → written_variable r n d (Free p) ≡ Free p
written_variable-below r n d p h = cond-false (nat_le r p && nat_lt p n) (Bound (d + (n - suc p))) (Free p) (first_fails r p p n h)

pub written_variable-entry : (r n d p : ℕ) → r ≤ p → p < n → written_variable r n d (Free p) ≡ Bound (d + (n - suc p))
written_variable-entry r n d p h l = cond-true (nat_le r p && nat_lt p n) (Bound (d + (n - suc p))) (Free p) (both_pass r p p n h l)

pub written_variable-past : (r n d p : ℕ) → n ≤ p → written_variable r n d (Free p) ≡ Free p
written_variable-past r n d p l = cond-false (nat_le r p && nat_lt p n) (Bound (d + (n - suc p))) (Free p) (second_fails r p p n l)

-- an index that is read under its binder, and put there
above_from : (d i : ℕ) → d ≤ i → (i ≡ d → ⊥) → suc d ≤ i
above_from d i l other =
    elim (cases_lt d i) as (λ _. suc d ≤ i) [ inl above ↦ omega arith | inr not_above ↦ absurd (other (omega arith)) ]

put_read : (n d : ℕ) (v : Var) → put_variable (Free n) d (read_variable n (suc d) v) ≡ read_variable (suc n) d v
put_read n d (Free p) = refl
put_read n d (Bound i) =
    elim (cases_lt i d) as (λ _. put_variable (Free n) d (read_variable n (suc d) (Bound i)) ≡ read_variable (suc n) d (Bound i)) [
      | inl inside ↦
          ap (put_variable (Free n) d) (read_variable-inside n (suc d) i (omega arith))
          ∙ put_variable-other (Free n) d i (λ e. omega arith)
          ∙ sym (read_variable-inside (suc n) d i inside)
      | inr beyond ↦ put_read_beyond n d i beyond (cases_eq i d) (cases_lt (i - d) (suc n))
    ]
  where
    put_read_beyond : (n d i : ℕ) → d ≤ i → ((i ≡ d) ⊎ (i ≡ d → ⊥)) → ((i - d < suc n) ⊎ (suc n ≤ i - d))
        → put_variable (Free n) d (read_variable n (suc d) (Bound i)) ≡ read_variable (suc n) d (Bound i)
    put_read_beyond n d i beyond (inl e) o =
        let zero_more : suc n - suc (i - d) ≡ n = omega (arith, e) in
        ap (put_variable (Free n) d) (read_variable-inside n (suc d) i (omega (arith, e)))
        ∙ ap (λ k. put_variable (Free n) d (Bound k)) e
        ∙ put_variable-same (Free n) d
        ∙ ap Free (sym zero_more)
        ∙ sym (read_variable-entry (suc n) d i beyond (omega (arith, e)))
    put_read_beyond n d i beyond (inr other) (inl within) =
        let above : suc d ≤ i = above_from d i beyond other in
        let one_less : n - suc (i - suc d) ≡ suc n - suc (i - d) = omega arith in
        ap (put_variable (Free n) d) (read_variable-entry n (suc d) i above (omega arith))
        ∙ ap Free one_less
        ∙ sym (read_variable-entry (suc n) d i beyond within)
    put_read_beyond n d i beyond (inr other) (inr past) =
        ap (put_variable (Free n) d) (read_variable-past n (suc d) i (omega arith))
        ∙ put_variable-other (Free n) d i other
        ∙ sym (read_variable-past (suc n) d i past)

read_still : (n d : ℕ) (v : Var) → HasBinder (d + 0) v → read_variable n d v ≡ v
read_still n d (Free p) h = refl
read_still n d (Bound i) h = read_variable-inside n d i (omega arith)

read_written : (r n d : ℕ) (v : Var) → HasBinder (d + 0) v → read_variable n d (written_variable r n d v) ≡ v
read_written r n d (Bound i) h = read_variable-inside n d i (omega arith)
read_written r n d (Free p) h =
    elim (cases_lt p r) as (λ _. read_variable n d (written_variable r n d (Free p)) ≡ Free p) [
      | inl below ↦ ap (read_variable n d) (written_variable-below r n d p below)
      | inr from ↦
          elim (cases_lt p n) as (λ _. read_variable n d (written_variable r n d (Free p)) ≡ Free p) [
            | inl within ↦
                let back : n - suc ((d + (n - suc p)) - d) ≡ p = omega arith in
                ap (read_variable n d) (written_variable-entry r n d p from within)
                ∙ read_variable-entry n d (d + (n - suc p)) (omega arith) (omega arith)
                ∙ ap Free back
            | inr past ↦ ap (read_variable n d) (written_variable-past r n d p past)
          ]
    ]

written_read : (r n d : ℕ) (v : Var) → HasBinder (d + (n - r)) v × IsPositionBelow r v → written_variable r n d (read_variable n d v) ≡ v
written_read r n d (Free p) h = written_variable-below r n d p h.1
written_read r n d (Bound i) h =
    elim (cases_lt i d) as (λ _. written_variable r n d (read_variable n d (Bound i)) ≡ Bound i) [
      | inl inside ↦ ap (written_variable r n d) (read_variable-inside n d i inside)
      | inr beyond ↦
          let bound : i < d + (n - r) = h.0 in
          let within : i - d < n = omega arith in
          let back : d + (n - suc (n - suc (i - d))) ≡ i = omega arith in
          ap (written_variable r n d) (read_variable-entry n d i beyond within)
          ∙ written_variable-entry r n d (n - suc (i - d)) (omega arith) (omega arith)
          ∙ ap Bound back
    ]

pub read_set-still : (n d : ℕ) (x : Set) → MeetsInSet (bound_within 0) d x → act_set (reading n) d x ≡ x
read_set-still n d x m =
    moving-still (read_variable n) SetSort d x (MeetsInSet-here (bound_within 0) _ (gives_here _ _ (λ k v h. read_still n k v h)) d x m)

pub read_set-written : (r n d : ℕ) (x : Set) → MeetsInSet (bound_within 0) d x
    → act_set (reading n) d (act_set (writing r n) d x) ≡ x
read_set-written r n d x m =
    moving-moving (read_variable n) (written_variable r n) SetSort d x
    ∙ moving-still (λ k v. read_variable n k (written_variable r n k v)) SetSort d x (MeetsInSet-here (bound_within 0) _ (gives_here _ _ (λ k v h. read_written r n k v h)) d x m)

pub written_set-read : (r n d : ℕ) (x : Set) → MeetsInSet (of_the_term r n) d x
    → act_set (writing r n) d (act_set (reading n) d x) ≡ x
written_set-read r n d x m =
    moving-moving (written_variable r n) (read_variable n) SetSort d x
    ∙ moving-still (λ k v. written_variable r n k (read_variable n k v)) SetSort d x (MeetsInSet-here (of_the_term r n) _ (gives_here _ _ (λ k v h. written_read r n k v h)) d x m)

-- shapes
pub opened-read : (n : ℕ) (x : Shape) → act (opening n) 0 (act (reading n) 1 x) ≡ act (reading (suc n)) 0 x
opened-read n x =
    ap (act (opening n) 0) (shift (reading n) 0 x)
    ∙ moving-moving (put_variable (Free n)) (λ d v. read_variable n (suc d) v) ShapeSort 0 x
    ∙ ap (λ f. act f 0 x) (same_moves (λ d v. put_variable (Free n) d (read_variable n (suc d) v)) (read_variable (suc n)) (put_read n))

pub read-still : (n d : ℕ) (x : Shape) → Meets (bound_within 0) d x → act (reading n) d x ≡ x
read-still n d x m =
    moving-still (read_variable n) ShapeSort d x (Meets-here (bound_within 0) _ (gives_here _ _ (λ k v h. read_still n k v h)) d x m)

pub written-read : (r n d : ℕ) (x : Shape) → Meets (of_the_term r n) d x
    → act (writing r n) d (act (reading n) d x) ≡ x
written-read r n d x m =
    moving-moving (written_variable r n) (read_variable n) ShapeSort d x
    ∙ moving-still (λ k v. written_variable r n k (read_variable n k v)) ShapeSort d x (Meets-here (of_the_term r n) _ (gives_here _ _ (λ k v h. written_read r n k v h)) d x m)

-- types
pub opened_type-read : (n : ℕ) (x : CapturingType) → act_type (opening n) 0 (act_type (reading n) 1 x) ≡ act_type (reading (suc n)) 0 x
opened_type-read n x =
    ap (act_type (opening n) 0) (shift_type (reading n) 0 x)
    ∙ moving-moving (put_variable (Free n)) (λ d v. read_variable n (suc d) v) TypeSort 0 x
    ∙ ap (λ f. act_type f 0 x) (same_moves (λ d v. put_variable (Free n) d (read_variable n (suc d) v)) (read_variable (suc n)) (put_read n))

pub read_type-still : (n d : ℕ) (x : CapturingType) → MeetsInType (bound_within 0) d x → act_type (reading n) d x ≡ x
read_type-still n d x m =
    moving-still (read_variable n) TypeSort d x (MeetsInType-here (bound_within 0) _ (gives_here _ _ (λ k v h. read_still n k v h)) d x m)

pub read_type-written : (r n d : ℕ) (x : CapturingType) → MeetsInType (bound_within 0) d x
    → act_type (reading n) d (act_type (writing r n) d x) ≡ x
read_type-written r n d x m =
    moving-moving (read_variable n) (written_variable r n) TypeSort d x
    ∙ moving-still (λ k v. read_variable n k (written_variable r n k v)) TypeSort d x (MeetsInType-here (bound_within 0) _ (gives_here _ _ (λ k v h. read_written r n k v h)) d x m)

pub written_type-read : (r n d : ℕ) (x : CapturingType) → MeetsInType (of_the_term r n) d x
    → act_type (writing r n) d (act_type (reading n) d x) ≡ x
written_type-read r n d x m =
    moving-moving (written_variable r n) (read_variable n) TypeSort d x
    ∙ moving-still (λ k v. written_variable r n k (read_variable n k v)) TypeSort d x (MeetsInType-here (of_the_term r n) _ (gives_here _ _ (λ k v h. written_read r n k v h)) d x m)

-- terms
pub opened_term-read : (n : ℕ) (x : Term) → act_term (opening n) 0 (act_term (reading n) 1 x) ≡ act_term (reading (suc n)) 0 x
opened_term-read n x =
    ap (act_term (opening n) 0) (shift_term (reading n) 0 x)
    ∙ moving-moving (put_variable (Free n)) (λ d v. read_variable n (suc d) v) TermSort 0 x
    ∙ ap (λ f. act_term f 0 x) (same_moves (λ d v. put_variable (Free n) d (read_variable n (suc d) v)) (read_variable (suc n)) (put_read n))

pub read_term-still : (n d : ℕ) (x : Term) → MeetsInTerm (bound_within 0) d x → act_term (reading n) d x ≡ x
read_term-still n d x m =
    moving-still (read_variable n) TermSort d x (MeetsInTerm-here (bound_within 0) _ (gives_here _ _ (λ k v h. read_still n k v h)) d x m)

pub read_term-written : (r n d : ℕ) (x : Term) → MeetsInTerm (bound_within 0) d x
    → act_term (reading n) d (act_term (writing r n) d x) ≡ x
read_term-written r n d x m =
    moving-moving (read_variable n) (written_variable r n) TermSort d x
    ∙ moving-still (λ k v. read_variable n k (written_variable r n k v)) TermSort d x (MeetsInTerm-here (bound_within 0) _ (gives_here _ _ (λ k v h. read_written r n k v h)) d x m)

pub written_term-read : (r n d : ℕ) (x : Term) → MeetsInTerm (of_the_term r n) d x
    → act_term (writing r n) d (act_term (reading n) d x) ≡ x
written_term-read r n d x m =
    moving-moving (written_variable r n) (read_variable n) TermSort d x
    ∙ moving-still (λ k v. written_variable r n k (read_variable n k v)) TermSort d x (MeetsInTerm-here (of_the_term r n) _ (gives_here _ _ (λ k v h. written_read r n k v h)) d x m)
