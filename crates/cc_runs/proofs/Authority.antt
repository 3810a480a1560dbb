-- The authority of a set has exactly the devices that it names, or all.
use Rattle.std.proofs.Common.{◌≡◌, ◌<◌, ◌≤◌, ◌+◌, arith, ℕ, zero, suc, Bool, true, false, cond, List, [], ◌∷◌, inl, inr, ◌⊎◌, refl, sym, ap, ◌∙◌}
use Rattle.std.specs.List.{range_with_len}
use Rattle.std.specs.Prelude.{filter}
use Rattle.std.proofs.lemmas.Bool.{cases_eq}
use Rattle.cc_capture.specs.declared.var.Var.TheVariants.{Free}
use Rattle.cc_capture.specs.declared.var.Elem.TheVariants.{Var as Variable, Cap}
use Rattle.cc_capture.specs.Sets.{Set, Member, contains}
use Rattle.cc_core.specs.Stores.{is_permitted}
use Rattle.cc_runs.specs.SafeRuns.{IsListed}
use Rattle.cc_runs.specs.SoundRuns.{AuthorityIsWhatIsNamed}

-- what a test gives stays listed, and is all that stays
listed_where_true : (test : ℕ → Bool) (xs : List ℕ) (n : ℕ) → IsListed n xs → test n ≡ true → IsListed n (filter test xs)
listed_where_true test [] n h e = h
listed_where_true test (x ∷ xs) n h e =
    elim (test x) as (λ b. test x ≡ b → IsListed n (cond b (x ∷ filter test xs) (filter test xs))) [
      | true ↦ λ _. elim h as (λ _. IsListed n (x ∷ filter test xs)) [ inl same ↦ inl same | inr later ↦ inr (listed_where_true test xs n later e) ]
      | false ↦ λ no. elim h as (λ _. IsListed n (filter test xs)) [
        | inl same ↦ absurd (let clash : true ≡ false = sym e ∙ ap test same ∙ no in cc)
        | inr later ↦ listed_where_true test xs n later e
      ]
    ] refl

listed_is_true : (test : ℕ → Bool) (xs : List ℕ) (n : ℕ) → IsListed n (filter test xs) → IsListed n xs × (test n ≡ true)
listed_is_true test [] n h = absurd h
listed_is_true test (x ∷ xs) n h =
    elim (test x) as (λ b. test x ≡ b → IsListed n (cond b (x ∷ filter test xs) (filter test xs)) → IsListed n (x ∷ xs) × (test n ≡ true)) [
      | true ↦ λ yes h'. elim h' as (λ _. IsListed n (x ∷ xs) × (test n ≡ true)) [
        | inl same ↦ (inl same, ap test same ∙ yes)
        | inr later ↦ let at = listed_is_true test xs n later in (inr at.0, at.1)
      ]
      | false ↦ λ no h'. let at = listed_is_true test xs n h' in (inr at.0, at.1)
    ] refl h

-- the numbers below a count are listed, and no others
listed_in_range : (count from n : ℕ) → from ≤ n → n < from + count → IsListed n (range_with_len from count)
listed_in_range zero from n low high = absurd (omega arith)
listed_in_range (suc count) from n low high =
    elim (cases_eq n from) as (λ _. IsListed n (from ∷ range_with_len (from + 1) count)) [
      | inl same ↦ inl same
      | inr other ↦ inr (listed_in_range count (from + 1) n (let l : from + 1 ≤ n = omega arith in l) (let l : n < from + 1 + count = omega arith in l))
    ]

range_is_below : (count from n : ℕ) → IsListed n (range_with_len from count) → n < from + count
range_is_below zero from n h = absurd h
range_is_below (suc count) from n h =
    elim h as (λ _. n < from + suc count) [
      | inl same ↦ omega arith
      | inr later ↦ let below = range_is_below count (from + 1) n later in omega arith
    ]

-- what a set gives leave to use
permitted : (set : Set) (n : ℕ) → Member Cap set ⊎ Member (Variable (Free n)) set → is_permitted set n ≡ true
permitted set n (inl cap) = ap (λ b. cond b true (contains (Variable (Free n)) set)) cap
permitted set n (inr named) = at (contains Cap set)
  where
    at : (b : Bool) → cond b true (contains (Variable (Free n)) set) ≡ true
    at true = refl
    at false = named

permitted_by : (set : Set) (n : ℕ) (b : Bool) → contains Cap set ≡ b → cond b true (contains (Variable (Free n)) set) ≡ true → Member Cap set ⊎ Member (Variable (Free n)) set
permitted_by set n true cap is = inl cap
permitted_by set n false without is = inr is

pub authority_is_what_is_named : AuthorityIsWhatIsNamed
authority_is_what_is_named count set device = (
  λ listed.
      let at = listed_is_true (is_permitted set) (range_with_len 0 count) device listed in
      let below = range_is_below count 0 device at.0 in
      ((let l : device < count = omega arith in l), permitted_by set device (contains Cap set) refl at.1),
  λ named.
      let below = named.0 in
      listed_where_true (is_permitted set) (range_with_len 0 count) device
      (listed_in_range count 0 device (let l : 0 ≤ device = omega arith in l) (let l : device < 0 + count = omega arith in l))
      (permitted set device named.1),
)
