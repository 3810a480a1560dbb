-- Targets, where they stand in an entry, and how links lower their rank.
use Rattle.std.proofs.Common.{◌≡◌, ◌⊎◌, ℕ, zero, suc, ◌+◌, ◌<◌, ◌≤◌, true, false, List, [], ◌∷◌, ◌++◌, length, map, slice_get, slice_index_or, Some, inl, inr, refl, sym, ap, subst, ◌∙◌, arith}
use Rattle.std.specs.List.{Contains}
use Rattle.std.proofs.lemmas.Bool.{cases_Bool, cases_lt, eq-eqb, eqb-true}
use Rattle.std.proofs.lemmas.List.{get_or-map, length-map}
use Rattle.std.proofs.lemmas.Option.{slice_get-get_or, slice_get_within, get_or_from_slice_get}
use Rattle.cc_explain.specs.Chains.{IsPlace, StandsBefore}
use Rattle.cc_explain.specs.Entries.{Entries, targets_of, NamesEarlier}
use Rattle.cc_explain.specs.Targets.{same_target, rank}
use Rattle.cc_explain.specs.declared.target.Target.{Target}
use Rattle.cc_explain.specs.declared.target.Target.TheVariants.{Definition, Device, Cap}

pub same_target-true : (left right : Target) → same_target left right ≡ true → left ≡ right
same_target-true (Definition n) (Definition m) h = ap (λ k. Definition k) (eqb-true n m h)
same_target-true (Definition n) (Device m) h = cc
same_target-true (Definition n) Cap h = cc
same_target-true (Device n) (Definition m) h = cc
same_target-true (Device n) (Device m) h = ap (λ k. Device k) (eqb-true n m h)
same_target-true (Device n) Cap h = cc
same_target-true Cap (Definition m) h = cc
same_target-true Cap (Device m) h = cc
same_target-true Cap Cap h = refl

pub same_target-itself : (target : Target) → same_target target target ≡ true
same_target-itself (Definition n) = eq-eqb n n refl
same_target-itself (Device n) = eq-eqb n n refl
same_target-itself Cap = refl

pub same_target-false : (left right : Target) → same_target left right ≡ false → left ≡ right → ⊥
same_target-false left right differ same =
    let holds : same_target left right ≡ true = subst (λ t. same_target left t ≡ true) same (same_target-itself left) in
    cc

-- where a target stands
pub place_in :
    (entry : List Target) (target : Target) → Contains entry target → (place : ℕ) × (slice_get entry place ≡ Some target)
place_in entry target (k, below, is) = (k, slice_get-get_or entry k target below ∙ ap (λ t. Some t) is)

pub in_at :
    (entry : List Target) (target : Target) (place : ℕ) → slice_get entry place ≡ Some target → Contains entry target
in_at entry target place is =
    (place, slice_get_within entry place target is, get_or_from_slice_get entry place target target is)

pub in_none : {B : Type 0} (target : Target) → Contains [] target → B
in_none target (k, below, is) = absurd (omega arith)

some_target : (left right : Target) → Some left ≡ Some right → left ≡ right
some_target left right h = cc

first_later :
    (x : Target) (xs : List Target) (target : Target) (place : ℕ)
    → same_target x target ≡ false → IsPlace xs target place
    → (other : ℕ) → slice_get (x ∷ xs) other ≡ Some target → suc place ≤ other
first_later x xs target place differ is zero h = absurd (same_target-false x target differ (some_target x target h))
first_later x xs target place differ is (suc other) h = let low = is.first other h in omega arith

-- a target that stands in an entry has its place there
pub has_place :
    (entry : List Target) (target : Target) (at : ℕ) → slice_get entry at ≡ Some target
    → (place : ℕ) × IsPlace entry target place
has_place [] target at is = absurd (none_there is)
  where
    none_there : {B : Type 0} → slice_get [] at ≡ Some target → B
    none_there h = cc
has_place (x ∷ xs) target zero is = (0, record { stands = is; first = λ other h. omega arith })
has_place (x ∷ xs) target (suc at) is =
    elim (cases_Bool (same_target x target)) [
      | inl same ↦
          (0, record { stands = ap (λ t. Some t) (same_target-true x target same); first = λ other h. omega arith })
      | inr differ ↦
          let (place, rest) = has_place xs target at is in
          (suc place, record { stands = rest.stands; first = first_later x xs target place differ rest })
    ]

-- Two targets of an entry are one, or one of them stands before the other.
pub compared :
    (entry : List Target) (left right : Target) → Contains entry left → Contains entry right
    → (left ≡ right) ⊎ (StandsBefore entry left right ⊎ StandsBefore entry right left)
compared entry left right l r =
    let (at, at_is) = place_in entry left l in
    let (other, other_is) = place_in entry right r in
    let (p, left_is) = has_place entry left at at_is in
    let (q, right_is) = has_place entry right other other_is in
    elim (cases_lt p q) [
      | inl low ↦
          inr (inl (record { place = p; later = q; left_is = left_is; right_is = right_is; order = low }))
      | inr high ↦
          elim (cases_lt q p) [
            | inl low ↦
                inr (inr (record { place = q; later = p; left_is = right_is; right_is = left_is; order = low }))
            | inr below ↦
                let same : p ≡ q = omega arith in
                inl (some_target left right (sym left_is.stands ∙ ap (λ k. slice_get entry k) same ∙ right_is.stands))
          ]
    ]

get_front :
    (front rest : List Target) (k : ℕ) → k < length front → slice_get (front ++ rest) k ≡ slice_get front k
get_front [] rest k h = absurd (omega arith)
get_front (x ∷ xs) rest zero h = refl
get_front (x ∷ xs) rest (suc k) h = get_front xs rest k (omega arith)

get_seam : (front : List Target) (x : Target) (rest : List Target) → slice_get (front ++ x ∷ rest) (length front) ≡ Some x
get_seam [] x rest = refl
get_seam (y ∷ front) x rest = get_seam front x rest

-- what stands before a target in an entry stands in front of each of its places
pub in_front :
    (front : List Target) (next : Target) (rest : List Target) (target : Target)
    → StandsBefore (front ++ next ∷ rest) target next → Contains front target
in_front front next rest target is =
    let low : is.later ≤ length front = is.right_is.first (length front) (get_seam front next rest) in
    let below : is.place < length front = let before = is.order in omega arith in
    in_at front target is.place (sym (get_front front (next ∷ rest) is.place below) ∙ is.left_is.stands)

-- a link leads to an element or to an earlier definition
pub rank_falls :
    (number : ℕ) (entry : List Target) → ((named : ℕ) → Contains entry (Definition named) → named < number)
    → (next : Target) → Contains entry next → rank next < number + 1
rank_falls number entry earlier (Definition named) is = let low = earlier named is in omega arith
rank_falls number entry earlier (Device device) is = omega arith
rank_falls number entry earlier Cap is = omega arith

pub link_falls :
    (links : Entries) → NamesEarlier links → (from next : Target) → Contains (targets_of links from) next
    → rank next < rank from
link_falls links earlier (Definition number) next is =
    rank_falls number (targets_of links (Definition number)) (earlier number) next is
link_falls links earlier (Device device) next is = in_none next is
link_falls links earlier Cap next is = in_none next is

-- an entry as the code reads it
pub named_earlier :
    {V : Type 0} (items : V → List Target) (entries : List V) (number : ℕ) (entry : V) (read : List Target)
    → NamesEarlier (map items entries) → number < length (map items entries) → entry ≡ slice_index_or entries number entry
    → read ≡ items entry
    → (named : ℕ) → Contains read (Definition named) → named < number
named_earlier items entries number entry read earlier below is read_is named among =
    let within : number < length entries = omega (arith, length-map entries items) in
    let same : read ≡ slice_index_or (map items entries) number [] =
    read_is ∙ ap items is ∙ sym (get_or-map items entries number entry [] within) in
    earlier number named (subst (λ s. Contains s (Definition named)) same among)
