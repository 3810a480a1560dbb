-- The first of the shortest chains from a target to an end, link by link.
use Rattle.std.proofs.Common.{◌≡◌, ◌⊎◌, inl, inr, ℕ, zero, suc, ◌<◌, ◌≤◌, Bool, List, [], ◌∷◌, length, slice_get, Some, IsTrue, refl, ap, subst, ◌∙◌, arith}
use Rattle.std.specs.List.{Contains}
use Rattle.std.proofs.lemmas.Option.{slice_get-get_or}
use Rattle.cc_explain.specs.Chains.{IsChain, LeadsAlong, StandsBefore, LeadsBefore, ComesBefore}
use Rattle.cc_reasons.specs.ShortestChains.{IsFirstShortestToEnd}

some_is : {A : Type 0} {left right : A} → Some left ≡ Some right → left ≡ right
some_is e = cc

pub place_in : {T : Type 0} (entry : List T) (target : T) → Contains entry target → (at : ℕ) × (slice_get entry at ≡ Some target)
place_in entry target (k, below, is) = (k, slice_get-get_or entry k target below ∙ ap (λ t. Some t) is)

pub at_in : {T : Type 0} (entry : List T) (target : T) (at : ℕ) → slice_get entry at ≡ Some target → Contains entry target
at_in [] target at is = cc
at_in (first ∷ entry) target zero is = (0, omega arith, some_is is)
at_in (first ∷ entry) target (suc at) is =
    let (k, below, same) = at_in entry target at is in
    (suc k, omega arith, same)

module _ {T : Type 0} (entry : T → List T) (is_end : T → Bool) where
  -- every way on from the target to an end has so many links, or more
  abbrev pub IsFar : ℕ → T → Type 0
  IsFar links from = (other : List T) (end : T) → IsTrue (is_end end) → LeadsAlong entry from other end → links ≤ length other

  -- The first of the shortest ways on from a target to an end.
  pub record IsFirstWay (from : T) (others : List T) : Type 0 where
    pub to : T
    pub ends : IsTrue (is_end to)
    pub leads : LeadsAlong entry from others to
    pub shortest : IsFar (length others) from
    pub first : (other : List T) (end : T) → IsTrue (is_end end) → LeadsAlong entry from other end → length other ≡ length others
        → LeadsBefore entry from other others → ⊥

  none_before : (from : T) (other : List T) → LeadsBefore entry from other [] → ⊥
  none_before from [] before = before
  none_before from (next ∷ other) before = before

  pub at_end : (from : T) → IsTrue (is_end from) → IsFirstWay from []
  at_end from is =
      record {
        to = from;
        ends = is;
        leads = refl;
        shortest = λ other end ends leads. omega arith;
        first = λ other end ends leads same before. none_before from other before;
      }

  -- A way on through the first target from which no way is longer than need be.
  pub through : (from next : T) (others : List T) (place : ℕ) → slice_get (entry from) place ≡ Some next → IsFirstWay next others
      → IsFar (suc (length others)) from
      → ((at : ℕ) (target : T) → at < place → slice_get (entry from) at ≡ Some target → IsFar (suc (length others)) target)
      → IsFirstWay from (next ∷ others)
  through from next others place stands it far before =
      record { to = it.to; ends = it.ends; leads = (at_in (entry from) next place stands, it.leads); shortest = far; first = first }
    where
      by : (target : T) (other : List T) (end : T) → IsTrue (is_end end) → LeadsAlong entry target other end → length other ≡ length others
          → StandsBefore (entry from) target next ⊎ ((target ≡ next) × LeadsBefore entry target other others) → ⊥
      by target other end ends leads same (inl is) =
          let low = is.right_is.first place stands in
          let order = is.order in
          let long = before is.place target (omega arith) is.left_is.stands other end ends leads in
          omega arith
      by target other end ends leads same (inr (is, more)) =
          it.first other end ends (subst (λ t. LeadsAlong entry t other end) is leads) same
          (subst (λ t. LeadsBefore entry t other others) is more)

      first : (other : List T) (end : T) → IsTrue (is_end end) → LeadsAlong entry from other end → length other ≡ suc (length others)
          → LeadsBefore entry from other (next ∷ others) → ⊥
      first [] end ends leads same is = is
      first (target ∷ other) end ends leads same is = by target other end ends leads.1 (omega arith) is

  -- with the target itself in front it is the first of the shortest chains
  pub first_chain : (from : T) (others : List T) → IsFirstWay from others → IsFirstShortestToEnd entry is_end from (from ∷ others)
  first_chain from others it =
      record { to = it.to; ends = it.ends; leads = (refl, it.leads); shortest = shortest; first = first }
    where
      shortest : (other : List T) (end : T) → IsTrue (is_end end) → IsChain entry from end other → length (from ∷ others) ≤ length other
      shortest [] end ends leads = absurd leads
      shortest (start ∷ other) end ends (same, leads) =
          let low = it.shortest other end ends (subst (λ t. LeadsAlong entry t other end) same leads) in
          omega arith

      first : (other : List T) (end : T) → IsTrue (is_end end) → IsChain entry from end other → length other ≡ length (from ∷ others)
          → ComesBefore entry other (from ∷ others) → ⊥
      first [] end ends leads same before = before
      first (start ∷ other) end ends (is, leads) same (begins, before) =
          it.first other end ends (subst (λ t. LeadsAlong entry t other end) is leads) (omega arith)
          (subst (λ t. LeadsBefore entry t other others) is before)
