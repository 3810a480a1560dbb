-- Decisions: whether a member of a set has a property, whether each has it, and the set of the globals that have it.
use Rattle.std.proofs.Common.{◌≡◌, ◌⊎◌, ◌↔◌, ℕ, zero, suc, ◌<◌, Bool, true, false, List, [], ◌∷◌, refl, sym, ap, ◌∙◌, subst, inl, inr, arith}
use Rattle.std.proofs.lemmas.Bool.{cases_eq, both_ways}
use Rattle.cc_capture.specs.declared.var.Var.TheVariants.{Bound, Free}
use Rattle.cc_capture.specs.declared.var.Elem.{Elem}
use Rattle.cc_capture.specs.declared.var.Elem.TheVariants.{Var as Variable, Cap, Hole}
use Rattle.cc_capture.specs.Elements.{same_element}
use Rattle.cc_capture.specs.ElementOrder.{same_element-true, same_element-itself}
use Rattle.cc_capture.specs.Rising.{is_listed}
use Rattle.cc_capture.specs.Sets.{Set, Member, contains, empty, insert}
use Rattle.cc_capture.proofs.Membership.{Member-empty, Member-insert}
use Rattle.cc_core.specs.Substitution.{single}
use Rattle.cc_core.proofs.Moving.{Member-single, Member-single_itself}
use Rattle.cc_checking.specs.Fillings.{IsGlobal}
use Rattle.cc_checking_laws.proofs.DecidedDemands.{listed_cases, listed_first, listed_later}

-- it holds, or it does not
abbrev pub Decided : Type 0 → Type 0
Decided A = A ⊎ (A → ⊥)

true_or_not : (b : Bool) → Decided (b ≡ true)
true_or_not true = inl refl
true_or_not false = inr (λ e. both_ways false refl e)

pub member_decided : (e : Elem) (c : Set) → Decided (Member e c)
member_decided e c = true_or_not (contains e c)

pub element_decided : (a b : Elem) → Decided (a ≡ b)
element_decided a b = from_test (same_element a b) refl
  where
    from_test : (t : Bool) → same_element a b ≡ t → Decided (a ≡ b)
    from_test true is = inl (same_element-true a b is)
    from_test false is = inr (λ same. both_ways _ is (ap (same_element a) (sym same) ∙ same_element-itself a))

-- some element of the list has the property
abbrev AnyOf : (Elem → Type 0) → List Elem → Type 0
AnyOf P xs = (e : Elem) × (is_listed e xs ≡ true) × P e

-- each has it
abbrev EachOf : (Elem → Type 0) → List Elem → Type 0
EachOf P xs = (e : Elem) → is_listed e xs ≡ true → P e

any_listed : (xs : List Elem) (P : Elem → Type 0) → ((e : Elem) → is_listed e xs ≡ true → Decided (P e))
    → Decided (AnyOf P xs)
any_listed [] P d = inr (λ (e, m, p). both_ways false refl m)
any_listed (x ∷ xs) P d = by_first (d x (listed_first x xs)) (any_listed xs P (λ e m. d e (listed_later e x xs m)))
  where
    by_first : Decided (P x) → Decided (AnyOf P xs) → Decided (AnyOf P (x ∷ xs))
    by_first (inl p) rest = inl (x, listed_first x xs, p)
    by_first (inr n) (inl a) = inl (a.0, listed_later a.0 x xs a.1, a.2)
    by_first (inr n) (inr none) =
        inr (λ (e, m, p). elim (listed_cases e x xs m) as (λ _. ⊥) [ inl same ↦ n (subst P same p) | inr there ↦ none (e, there, p) ])

each_listed : (xs : List Elem) (P : Elem → Type 0) → ((e : Elem) → is_listed e xs ≡ true → Decided (P e))
    → Decided (EachOf P xs)
each_listed [] P d = inl (λ e m. absurd (both_ways false refl m))
each_listed (x ∷ xs) P d = by_first (d x (listed_first x xs)) (each_listed xs P (λ e m. d e (listed_later e x xs m)))
  where
    by_first : Decided (P x) → Decided (EachOf P xs) → Decided (EachOf P (x ∷ xs))
    by_first (inl p) (inl all) =
        inl (λ e m. elim (listed_cases e x xs m) as (λ _. P e) [ inl same ↦ subst P (sym same) p | inr there ↦ all e there ])
    by_first (inl p) (inr n) = inr (λ all. n (λ e m. all e (listed_later e x xs m)))
    by_first (inr n) rest = inr (λ all. n (all x (listed_first x xs)))

-- the members of a set
pub any_member : (c : Set) (P : Elem → Type 0) → ((e : Elem) → Member e c → Decided (P e))
    → Decided ((e : Elem) × Member e c × P e)
unfolding contains
any_member c P d = any_listed c.list P d

pub each_member : (c : Set) (P : Elem → Type 0) → ((e : Elem) → Member e c → Decided (P e))
    → Decided ((e : Elem) → Member e c → P e)
unfolding contains
each_member c P d = each_listed c.list P d

-- the globals below a position
only_cap : (e : Elem) → IsGlobal zero e → e ≡ Cap
only_cap (Variable (Free p)) g = absurd (omega arith)
only_cap (Variable (Bound i)) g = absurd g
only_cap Cap g = refl
only_cap (Hole n) g = absurd g

global_more : (n : ℕ) (e : Elem) → IsGlobal n e → IsGlobal (suc n) e
global_more n (Variable (Free p)) g = omega arith
global_more n (Variable (Bound i)) g = g
global_more n Cap g = tt
global_more n (Hole m) g = g

global_cases : (n : ℕ) (e : Elem) → IsGlobal (suc n) e → (e ≡ Variable (Free n)) ⊎ IsGlobal n e
global_cases n (Variable (Free p)) g =
    elim (cases_eq p n) as (λ _. (Variable (Free p) ≡ Variable (Free n)) ⊎ (p < n)) [
      | inl same ↦ inl (ap (λ q. Variable (Free q)) same)
      | inr other ↦ inr (omega arith)
    ]
global_cases n (Variable (Bound i)) g = absurd g
global_cases n Cap g = inr tt
global_cases n (Hole m) g = absurd g

-- a set of exactly the globals with the property
abbrev pub IsSetOf : ℕ → (Elem → Type 0) → Set → Type 0
IsSetOf n P c = (e : Elem) → Member e c ↔ (IsGlobal n e × P e)

-- what is decided can be collected
pub collected : (P : Elem → Type 0) → ((e : Elem) → Decided (P e)) → (n : ℕ) → (c : Set) × IsSetOf n P c
collected P d zero = by_cap (d Cap)
  where
    by_cap : Decided (P Cap) → (c : Set) × IsSetOf zero P c
    by_cap (inl p) = (
      single Cap,
      λ e. (
        λ m. subst (λ x. IsGlobal zero x × P x) (sym (Member-single e Cap m)) (tt, p),
        λ h. subst (λ x. Member x (single Cap)) (sym (only_cap e h.0)) (Member-single_itself Cap),
      ),
    )
    by_cap (inr n) = (empty, λ e. (λ m. absurd (Member-empty e m), λ h. absurd (n (subst P (only_cap e h.0) h.1))))
collected P d (suc n) = with_next (d (Variable (Free n))) (collected P d n)
  where
    with_next : Decided (P (Variable (Free n))) → ((c : Set) × IsSetOf n P c) → (c : Set) × IsSetOf (suc n) P c
    with_next (inl p) (c, is) = (
      insert (Variable (Free n)) c,
      λ e. (
        λ m. elim ((Member-insert e (Variable (Free n)) c).0 m) as (λ _. IsGlobal (suc n) e × P e) [
          | inl same ↦ let below : n < suc n = omega arith in subst (λ x. IsGlobal (suc n) x × P x) (sym same) (below, p)
          | inr there ↦ let h = (is e).0 there in (global_more n e h.0, h.1)
        ],
        λ h. (Member-insert e (Variable (Free n)) c).1
            (elim (global_cases n e h.0) as (λ _. (e ≡ Variable (Free n)) ⊎ Member e c) [ inl same ↦ inl same | inr less ↦ inr ((is e).1 (less, h.1)) ]),
      ),
    )
    with_next (inr none) (c, is) = (
      c,
      λ e. (
        λ m. let h = (is e).0 m in (global_more n e h.0, h.1),
        λ h. elim (global_cases n e h.0) as (λ _. Member e c) [ inl same ↦ absurd (none (subst P same h.1)) | inr less ↦ (is e).1 (less, h.1) ],
      ),
    )
