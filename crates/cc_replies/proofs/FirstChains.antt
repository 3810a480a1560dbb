-- Where a test tells targets apart, the first of the shortest chains from one to another is one, and there is one where
-- there is a chain. It is computed by trying lengths in turn.
use Rattle.std.proofs.Common.{◌≡◌, ◌⊎◌, ℕ, zero, suc, ◌+◌, ◌<◌, ◌≤◌, Bool, true, false, if◌then◌else◌, List, [], ◌∷◌, ◌++◌, length, slice_get, Option, Some, None, inl, inr, refl, sym, ap, subst, ◌∙◌, append_assoc, arith}
use Rattle.std.specs.List.{Contains}
use Rattle.std.proofs.lemmas.Bool.{cases_Bool, cases_lt}
use Rattle.std.proofs.lemmas.List.{append-nil}
use Rattle.std.proofs.lemmas.List.Elements.{Contains-append_right, Contains-append_cases}
use Rattle.std.proofs.lemmas.Option.{slice_get-get_or, slice_get_within, get_or_from_slice_get}
use Rattle.cc_explain.specs.Chains.{LeadsAlong, IsPlace, StandsBefore, LeadsBefore, IsChain, ComesBefore, IsFirstShortest}

some_same : {T : Type 0} (a b : T) → Some a ≡ Some b → a ≡ b
some_same a b h = cc

none_there : {T B : Type 0} (x : T) (k : ℕ) → slice_get [] k ≡ Some x → B
none_there x k h = cc

in_first : {T : Type 0} (x : T) (xs : List T) → Contains (x ∷ xs) x
in_first x xs = (0, omega arith, refl)

in_none : {T B : Type 0} (x : T) → Contains [] x → B
in_none x (k, below, is) = absurd (omega arith)

only_one : {T : Type 0} (x y : T) → Contains (x ∷ []) y → x ≡ y
only_one x y (zero, below, is) = is
only_one x y (suc k, below, is) = absurd (omega arith)

-- where a target stands
place_in : {T : Type 0} (xs : List T) (x : T) → Contains xs x → (place : ℕ) × (slice_get xs place ≡ Some x)
place_in xs x (k, below, is) = (k, slice_get-get_or xs k x below ∙ ap (λ t. Some t) is)

in_at : {T : Type 0} (xs : List T) (x : T) (place : ℕ) → slice_get xs place ≡ Some x → Contains xs x
in_at xs x place is = (place, slice_get_within xs place x is, get_or_from_slice_get xs place x x is)

get_front : {T : Type 0} (front rest : List T) (k : ℕ) → k < length front → slice_get (front ++ rest) k ≡ slice_get front k
get_front [] rest k h = absurd (omega arith)
get_front (x ∷ xs) rest zero h = refl
get_front (x ∷ xs) rest (suc k) h = get_front xs rest k (omega arith)

get_seam : {T : Type 0} (front : List T) (x : T) (rest : List T) → slice_get (front ++ x ∷ rest) (length front) ≡ Some x
get_seam [] x rest = refl
get_seam (y ∷ front) x rest = get_seam front x rest

-- what stands before a target in an entry stands in front of each of its places
in_front : {T : Type 0} (front : List T) (next : T) (rest : List T) (target : T)
    → StandsBefore (front ++ next ∷ rest) target next → Contains front target
in_front front next rest target is =
    let low : is.later ≤ length front = is.right_is.first (length front) (get_seam front next rest) in
    let below : is.place < length front = let before = is.order in omega arith in
    in_at front target is.place (sym (get_front front (next ∷ rest) is.place below) ∙ is.left_is.stands)

first_later : {T : Type 0} (y : T) (ys : List T) (x : T) (place : ℕ) → (y ≡ x → ⊥) → IsPlace ys x place
    → (other : ℕ) → slice_get (y ∷ ys) other ≡ Some x → suc place ≤ other
first_later y ys x place differ rest zero h = absurd (differ (some_same y x h))
first_later y ys x place differ rest (suc other) h = let low = rest.first other h in omega arith

-- a path through the next target, where one leads on from there, and else another
abbrev pub through : {T : Type 0} → T → Option (List T) → Option (List T) → Option (List T)
through next None other = other
through next (Some path) other = Some (next ∷ path)

-- a path through the first of the targets from which there is one
abbrev pub first_through : {T : Type 0} → (T → Option (List T)) → List T → Option (List T)
first_through paths [] = None
first_through paths (next ∷ others) = through next (paths next) (first_through paths others)

-- the first path there is of two
abbrev pub sooner : {T : Type 0} → Option (List T) → Option (List T) → Option (List T)
sooner None other = other
sooner (Some path) other = Some path

-- the first path of so many steps
unfoldable pub path_of : (T : Type 0) (same : T → T → Bool) (entry : T → List T) (to : T) → ℕ → T → Option (List T)
path_of T same entry to zero from = if same from to then Some [] else None
path_of T same entry to (suc steps) from = first_through (path_of T same entry to steps) (entry from)

-- the first of the shortest paths of so many steps at least, where so many lengths are tried
unfoldable pub path_from : (T : Type 0) (same : T → T → Bool) (entry : T → List T) (to from : T) → ℕ → ℕ → Option (List T)
path_from T same entry to from steps zero = None
path_from T same entry to from steps (suc tries) =
    sooner (path_of T same entry to steps from) (path_from T same entry to from (suc steps) tries)

module _ (T : Type 0) (same : T → T → Bool) (equal : (a b : T) → same a b ≡ true → a ≡ b) (itself : (a : T) → same a a ≡ true) where
  not_equal : (a b : T) → same a b ≡ false → a ≡ b → ⊥
  not_equal a b differ is = let holds : same a b ≡ true = subst (λ t. same a t ≡ true) is (itself a) in cc

  decided : (a b : T) → (a ≡ b) ⊎ (a ≡ b → ⊥)
  decided a b = elim (cases_Bool (same a b)) [ inl is ↦ inl (equal a b is) | inr differ ↦ inr (not_equal a b differ) ]

  -- a target that stands in an entry has its place there
  has_place : (xs : List T) (x : T) (at : ℕ) → slice_get xs at ≡ Some x → (place : ℕ) × IsPlace xs x place
  has_place [] x at is = none_there x at is
  has_place (y ∷ ys) x zero is = (0, record { stands = is; first = λ other h. omega arith })
  has_place (y ∷ ys) x (suc at) is =
      elim (decided y x) [
        | inl same ↦ (0, record { stands = ap (λ t. Some t) same; first = λ other h. omega arith })
        | inr differ ↦
            let (place, rest) = has_place ys x at is in
            (suc place, record { stands = rest.stands; first = first_later y ys x place differ rest })
      ]

  -- Two targets of an entry are one, or one of them stands before the other.
  compared : (xs : List T) (left right : T) → Contains xs left → Contains xs right
      → (left ≡ right) ⊎ (StandsBefore xs left right ⊎ StandsBefore xs right left)
  compared xs left right l r =
      let (at, at_is) = place_in xs left l in
      let (other, other_is) = place_in xs right r in
      let (p, left_is) = has_place xs left at at_is in
      let (q, right_is) = has_place xs right other other_is in
      elim (cases_lt p q) [
        | inl low ↦ inr (inl (record { place = p; later = q; left_is = left_is; right_is = right_is; order = low }))
        | inr high ↦
            elim (cases_lt q p) [
              | inl low ↦ inr (inr (record { place = q; later = p; left_is = right_is; right_is = left_is; order = low }))
              | inr below ↦
                  let same : p ≡ q = omega arith in
                  inl (some_same left right (sym left_is.stands ∙ ap (λ k. slice_get xs k) same ∙ right_is.stands))
            ]
      ]

  module _ (entry : T → List T) where
    -- two lists in order, one way or the other, or one list
    abbrev InSomeOrder : T → List T → List T → Type 0
    InSomeOrder from left right = (left ≡ right) ⊎ (LeadsBefore entry from left right ⊎ LeadsBefore entry from right left)

    behind_one : (from next other : T) (left right : List T) → next ≡ other → InSomeOrder next left right
        → InSomeOrder from (next ∷ left) (other ∷ right)
    behind_one from next other left right same (inl is) = inl (λ i. same i ∷ is i)
    behind_one from next other left right same (inr (inl before)) = inr (inl (inr (same, before)))
    behind_one from next other left right same (inr (inr before)) =
        inr (inr (inr (sym same, subst (λ t. LeadsBefore entry t right left) same before)))

    some_order : (to from : T) (left right : List T) → LeadsAlong entry from left to → LeadsAlong entry from right to
        → length left ≡ length right → InSomeOrder from left right
    some_order to from [] [] l r same = inl refl
    some_order to from [] (other ∷ right) l r same = absurd (omega arith)
    some_order to from (next ∷ left) [] l r same = absurd (omega arith)
    some_order to from (next ∷ left) (other ∷ right) l r same =
        elim (compared (entry from) next other l.0 r.0) [
          | inl is ↦
              behind_one from next other left right is
              (some_order to next left right l.1 (subst (λ t. LeadsAlong entry t right to) (sym is) r.1) (omega arith))
          | inr (inl before) ↦ inr (inl (inl before))
          | inr (inr before) ↦ inr (inr (inl before))
        ]

    -- there is at most one first shortest chain
    pub first_chains_are_one : (from to : T) (chain other : List T) → IsFirstShortest entry from to chain
        → IsFirstShortest entry from to other → chain ≡ other
    first_chains_are_one from to [] other p q = absurd p.leads
    first_chains_are_one from to (a ∷ left) [] p q = absurd q.leads
    first_chains_are_one from to (a ∷ left) (b ∷ right) p q =
        let low = p.shortest (b ∷ right) q.leads in
        let high = q.shortest (a ∷ left) p.leads in
        let long : length left ≡ length right = omega arith in
        let same : a ≡ b = p.leads.0 ∙ sym q.leads.0 in
        elim (some_order to a left right p.leads.1 (subst (λ t. LeadsAlong entry t right to) (sym same) q.leads.1) long) [
          | inl is ↦ λ i. same i ∷ is i
          | inr (inl before) ↦ absurd (q.first (a ∷ left) p.leads (ap suc long) (same, before))
          | inr (inr before) ↦
              absurd (p.first (b ∷ right) q.leads (ap suc (sym long)) (sym same, subst (λ t. LeadsBefore entry t right left) same before))
        ]

    module _ (to : T) where
      -- a path of so many steps, before which there is none as long
      record IsPathOf (steps : ℕ) (from : T) (path : List T) : Type 0 where
        leads : LeadsAlong entry from path to
        long : length path ≡ steps
        first : (other : List T) → LeadsAlong entry from other to → length other ≡ steps → LeadsBefore entry from other path → ⊥

      abbrev HasNoPathOf : ℕ → T → Type 0
      HasNoPathOf steps from = (other : List T) → LeadsAlong entry from other to → length other ≡ steps → ⊥

      -- the first one, if there is one
      abbrev IsSomePathOf : ℕ → T → Option (List T) → Type 0
      IsSomePathOf steps from None = HasNoPathOf steps from
      IsSomePathOf steps from (Some path) = IsPathOf steps from path

      nothing_before : (from : T) (other : List T) → LeadsBefore entry from other [] → ⊥
      nothing_before from [] before = before
      nothing_before from (next ∷ other) before = before

      not_at_once : (from : T) → (from ≡ to → ⊥) → HasNoPathOf 0 from
      not_at_once from differ [] leads long = differ leads
      not_at_once from differ (next ∷ other) leads long = omega arith

      at_once : (from : T) (test : Bool) → same from to ≡ test → IsSomePathOf 0 from (if test then Some [] else None)
      at_once from true holds =
          record { leads = equal from to holds; long = refl; first = λ other leads long before. nothing_before from other before }
      at_once from false fails = not_at_once from (not_equal from to fails)

      -- with one step more, by the targets of the entry in turn
      module _ (steps : ℕ) (paths : T → Option (List T)) (are : (target : T) → IsSomePathOf steps target (paths target)) (from : T) where
        abbrev NoneFrom : List T → Type 0
        NoneFrom front = (target : T) → Contains front target → HasNoPathOf steps target

        none_more : (front : List T) (next : T) → NoneFrom front → HasNoPathOf steps next → NoneFrom (front ++ next ∷ [])
        none_more front next none here target among =
            elim (Contains-append_cases front (next ∷ []) target among) [
              | inl is ↦ none target is
              | inr last ↦ subst (HasNoPathOf steps) (only_one next target last) here
            ]

        none_before : (front : List T) (next : T) (others path : List T) → entry from ≡ front ++ next ∷ others → NoneFrom front
            → IsPathOf steps next path → (other : List T) → LeadsAlong entry from other to → length other ≡ suc steps
            → LeadsBefore entry from other (next ∷ path) → ⊥
        none_before front next others path stands none is [] leads long before = before
        none_before front next others path stands none is (target ∷ other) leads long (inl before) =
            none target (in_front front next others target (subst (λ s. StandsBefore s target next) stands before)) other leads.1 (omega arith)
        none_before front next others path stands none is (target ∷ other) leads long (inr (is_next, before)) =
            is.first other (subst (λ t. LeadsAlong entry t other to) is_next leads.1) (omega arith)
            (subst (λ t. LeadsBefore entry t other path) is_next before)

        through_next : (front : List T) (next : T) (others path : List T) → entry from ≡ front ++ next ∷ others → NoneFrom front
            → IsPathOf steps next path → IsPathOf (suc steps) from (next ∷ path)
        through_next front next others path stands none is = record {
          leads = (
            subst (λ s. Contains s next) (sym stands) (Contains-append_right front (next ∷ others) next (in_first next others)),
            is.leads,
          );
          long = ap suc is.long;
          first = none_before front next others path stands none is;
        }

        none_at_all : NoneFrom (entry from) → HasNoPathOf (suc steps) from
        none_at_all none [] leads long = omega arith
        none_at_all none (target ∷ other) leads long = none target leads.0 other leads.1 (omega arith)

        next_one : (front : List T) (next : T) (others : List T) (found rest : Option (List T)) → entry from ≡ front ++ next ∷ others
            → NoneFrom front → IsSomePathOf steps next found → (NoneFrom (front ++ next ∷ []) → IsSomePathOf (suc steps) from rest)
            → IsSomePathOf (suc steps) from (through next found rest)
        next_one front next others None rest stands none here behind = behind (none_more front next none here)
        next_one front next others (Some path) rest stands none here behind = through_next front next others path stands none here

        first_through_is : (front others : List T) → entry from ≡ front ++ others → NoneFrom front
            → IsSomePathOf (suc steps) from (first_through paths others)
        first_through_is front [] stands none = none_at_all (subst NoneFrom (sym (stands ∙ append-nil front)) none)
        first_through_is front (next ∷ others) stands none =
            next_one front next others (paths next) (first_through paths others) stands none (are next)
            (first_through_is (front ++ next ∷ []) others (stands ∙ sym (append_assoc front (next ∷ []) others)))

      path_of_is : (steps : ℕ) (from : T) → IsSomePathOf steps from (path_of T same entry to steps from)
      unfolding path_of
      path_of_is zero from = at_once from (same from to) refl
      path_of_is (suc steps) from =
          first_through_is steps (path_of T same entry to steps) (path_of_is steps) from [] (entry from) refl (λ target among. in_none target among)

      -- no path has fewer steps
      abbrev NoneBelow : T → ℕ → Type 0
      NoneBelow from low = (other : List T) → LeadsAlong entry from other to → low ≤ length other

      -- the first of the shortest paths makes a chain, if one has fewer steps than so many
      abbrev IsPathBelow : T → ℕ → Option (List T) → Type 0
      IsPathBelow from high None = NoneBelow from high
      IsPathBelow from high (Some path) = IsFirstShortest entry from to (from ∷ path)

      one_longer : (from : T) (low : ℕ) → NoneBelow from low → HasNoPathOf low from → NoneBelow from (suc low)
      one_longer from low none here other leads =
          let below = none other leads in
          elim (cases_lt low (length other)) [
            | inl longer ↦ omega arith
            | inr high ↦ absurd (here other leads (omega arith))
          ]

      none_shorter : (from : T) (low : ℕ) (path : List T) → NoneBelow from low → IsPathOf low from path
          → (chain : List T) → IsChain entry from to chain → length (from ∷ path) ≤ length chain
      none_shorter from low path none is [] leads = absurd leads
      none_shorter from low path none is (first ∷ others) (begins, leads) =
          let below = none others (subst (λ t. LeadsAlong entry t others to) begins leads) in
          let long = is.long in
          omega arith

      none_sooner : (from : T) (low : ℕ) (path : List T) → IsPathOf low from path
          → (chain : List T) → IsChain entry from to chain → length chain ≡ length (from ∷ path) → ComesBefore entry chain (from ∷ path) → ⊥
      none_sooner from low path is [] leads long before = leads
      none_sooner from low path is (first ∷ others) (begins, leads) long (again, before) =
          let short = is.long in
          is.first others (subst (λ t. LeadsAlong entry t others to) begins leads) (omega arith)
          (subst (λ t. LeadsBefore entry t others path) begins before)

      soonest : (from : T) (low high : ℕ) (found rest : Option (List T)) → NoneBelow from low → IsSomePathOf low from found
          → (NoneBelow from (suc low) → IsPathBelow from high rest) → IsPathBelow from high (sooner found rest)
      soonest from low high None rest none here behind = behind (one_longer from low none here)
      soonest from low high (Some path) rest none is behind = record {
        leads = (refl, is.leads);
        shortest = none_shorter from low path none is;
        first = none_sooner from low path is;
      }

      moved : (a b : ℕ) → suc a + b ≡ a + suc b
      moved a b = omega arith

      path_from_is : (from : T) (low tries : ℕ) → NoneBelow from low
          → IsPathBelow from (low + tries) (path_from T same entry to from low tries)
      unfolding path_from
      path_from_is from low zero none = λ other leads. let below = none other leads in omega arith
      path_from_is from low (suc tries) none =
          soonest from low (low + suc tries) (path_of T same entry to low from) (path_from T same entry to from (suc low) tries)
          none (path_of_is low from)
          (λ more.
          subst (λ high. IsPathBelow from high (path_from T same entry to from (suc low) tries)) (moved low tries)
          (path_from_is from (suc low) tries more))

      path_below : (from : T) (tries : ℕ) → IsPathBelow from (0 + tries) (path_from T same entry to from 0 tries)
      path_below from tries = path_from_is from 0 tries (λ other leads. omega arith)

      some_chain : (from : T) (found : Option (List T)) (path : List T) → IsPathBelow from (0 + (length path + 1)) found
          → LeadsAlong entry from path to → (first : List T) × IsFirstShortest entry from to first
      some_chain from None path is leads = let low = is path leads in absurd (omega arith)
      some_chain from (Some first) path is leads = (from ∷ first, is)

      -- where there is a chain there is a first shortest one
      pub first_chains_exist : (from : T) (chain : List T) → IsChain entry from to chain
          → (first : List T) × IsFirstShortest entry from to first
      first_chains_exist from [] leads = absurd leads
      first_chains_exist from (first ∷ path) (begins, leads) =
          some_chain from (path_from T same entry to from 0 (length path + 1)) path (path_below from (length path + 1))
          (subst (λ t. LeadsAlong entry t path to) begins leads)

      -- a path that is found where so many lengths are tried makes one
      pub first_chain_found : (from : T) (tries : ℕ) (path : List T) → path_from T same entry to from 0 tries ≡ Some path
          → IsFirstShortest entry from to (from ∷ path)
      first_chain_found from tries path found = subst (IsPathBelow from (0 + tries)) found (path_below from tries)
