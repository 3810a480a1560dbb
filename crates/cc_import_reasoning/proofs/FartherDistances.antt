-- What is known of distances, one link farther.
use Rattle.std.proofs.Common.{◌≡◌, ◌⊎◌, ℕ, zero, suc, ◌+◌, ◌<◌, ◌≤◌, Bool, true, List, [], ◌∷◌, ◌++◌, length, get_or, set, Option, Some, None, IsTrue, inl, inr, refl, sym, ap, subst, ◌∙◌, arith}
use Rattle.std.specs.List.{Contains}
use Rattle.std.specs.Str.{bytes_eq}
use Rattle.std.specs.Cmp.Lexicographic.{bytes_decides, nat_list_eq_equiv}
use Rattle.std.proofs.lemmas.Bool.{cases_eq, cases_lt}
use Rattle.std.proofs.lemmas.List.{get_or-set_same, get_or-set_other, length-set}
use Rattle.std.proofs.lemmas.Map.Views.{Contains-from_any, list_any-from_Contains}
use Rattle.cc_explain.specs.Chains.{LeadsAlong}
use Rattle.cc_import_reasoning.specs.Distances.{Links, IsFarFrom, IsDistance, IsKnownTo, IsKnown, distance_at, AreKnownTo, AreKnown, is_marked_at, AreLinks, HasNear, HasNoneNear, unknown_count}

pub same_names : (one other : List ℕ) → bytes_eq one other ≡ true → one ≡ other
same_names one other e = (bytes_decides one other).0 e

module _ (entry : Links) (named : ℕ → List ℕ) (rows : List (List Bool)) (end : ℕ) (links : ℕ) (are : AreLinks entry named rows) (within : end < length rows) where
  -- the next of a way on has a place, and is marked
  record NextAt (from : ℕ) (next : List ℕ) : Type 0 where
    place : ℕ
    below : place < length rows
    is : named place ≡ next
    marked : is_marked_at rows from place ≡ true

  at_place : (from : ℕ) → from < length rows → (next : List ℕ) → Contains (entry (named from)) next
      → (place : ℕ) × (place < length rows) × (named place ≡ next) → NextAt from next
  at_place from low next among (place, below, is) =
      record {
        place = place;
        below = below;
        is = is;
        marked = are.marks from place low below
            ∙ list_any-from_Contains nat_list_eq_equiv (named place) (entry (named from)) (subst (λ n. Contains (entry (named from)) n) (sym is) among);
      }

  next_at : (from : ℕ) → from < length rows → (next : List ℕ) (others : List (List ℕ)) (to : List ℕ) → IsTrue (bytes_eq (named end) to)
      → Contains (entry (named from)) next → LeadsAlong entry next others to → NextAt from next
  next_at from low next [] to ends among leads =
      at_place from low next among (end, within, same_names (named end) to ends ∙ sym leads)
  next_at from low next (other ∷ others) to ends among leads = at_place from low next among (are.only next other leads.0)

  -- a place that one marked link leads to where the distance is this one, and that is farther than that
  reached : (from : ℕ) → from < length rows → IsFarFrom entry (named end) (suc links) (named from)
      → (place : ℕ) → place < length rows → is_marked_at rows from place ≡ true → IsDistance entry (named end) (named place) links
      → IsDistance entry (named end) (named from) (links + 1)
  reached from low far place below marked it =
      record {
        others = named place ∷ it.others;
        leads = (Contains-from_any same_names (named place) (entry (named from)) (sym (are.marks from place low below) ∙ marked), it.leads);
        long = let long = it.long in omega arith;
        least = λ others to ends leads. let least = far others to ends leads in omega arith;
      }

  -- what is known of a place, in the midst of going farther
  abbrev IsKnownNear : ℕ → Option ℕ → Type 0
  IsKnownNear place it = IsKnownTo entry (named end) links (named place) it ⊎ IsKnownTo entry (named end) (links + 1) (named place) it

  exact : (place distance : ℕ) → IsKnownNear place (Some distance) → IsDistance entry (named end) (named place) distance
  exact place distance (inl it) = it.1
  exact place distance (inr it) = it.1

  none_far : (place : ℕ) → IsKnownNear place None → IsFarFrom entry (named end) (suc links) (named place)
  none_far place (inl far) others to ends leads = far others to ends leads
  none_far place (inr far) others to ends leads = let least = far others to ends leads in omega arith

  -- where there is a way of so many links, and none of fewer, that is what is known
  is_near : (place : ℕ) (o : Option ℕ) → IsKnownNear place o → IsFarFrom entry (named end) links (named place)
      → (others : List (List ℕ)) (to : List ℕ) → IsTrue (bytes_eq (named end) to) → LeadsAlong entry (named place) others to → length others ≡ links
      → o ≡ Some links
  is_near place None it far others to ends leads long =
      let least = none_far place it others to ends leads in absurd (omega arith)
  is_near place (Some distance) it far others to ends leads long =
      let there = exact place distance it in
      let high = there.least others to ends leads in
      let low = far there.others (named end) ((bytes_decides (named end) (named end)).1 refl) there.leads in
      let is = there.long in
      let same : distance ≡ links = omega arith in
      ap (λ d. Some d) same

  -- a place that no marked link leads to where the distance is this one
  farther : (from : ℕ) → from < length rows → IsFarFrom entry (named end) (suc links) (named from)
      → (distances : List (Option ℕ)) → length distances ≡ length rows
      → ((place : ℕ) → place < length rows → IsKnownNear place (distance_at distances place))
      → HasNoneNear (get_or rows from []) distances links
      → IsFarFrom entry (named end) (suc (links + 1)) (named from)
  farther from low far distances count known none [] to ends leads = let least = far [] to ends leads in omega arith
  farther from low far distances count known none (next ∷ others) to ends leads =
      let least = far (next ∷ others) to ends leads in
      elim (cases_eq (length others) links) [
        | inl same ↦
            (let it = next_at from low next others to ends leads.0 leads.1 in
            let before : IsFarFrom entry (named end) links (named it.place) = further it in
            absurd (none it.place (let below = it.below in omega arith) it.marked
            (is_near it.place (distance_at distances it.place) (known it.place it.below) before others to ends
            (subst (λ n. LeadsAlong entry n others to) (sym it.is) leads.1) same)))
        | inr other ↦ omega arith
      ]
    where
      further : (it : NextAt from next) → IsFarFrom entry (named end) links (named it.place)
      further it more goal at_end along =
          let long = far (next ∷ more) goal at_end (leads.0, subst (λ n. LeadsAlong entry n more goal) it.is along) in
          omega arith

  -- A TURN

  -- Distances are known one link farther at the places before this one, and are known at the others.
  pub record AreKnownPartly (at : ℕ) (distances : List (Option ℕ)) : Type 0 where
    pub count : length distances ≡ length rows
    pub before : (place : ℕ) → place < at → IsKnownTo entry (named end) (links + 1) (named place) (distance_at distances place)
    pub after : (place : ℕ) → at ≤ place → place < length rows → IsKnownTo entry (named end) links (named place) (distance_at distances place)

  near_at : (at : ℕ) (distances : List (Option ℕ)) → AreKnownPartly at distances → (place : ℕ) → place < length rows
      → IsKnownNear place (distance_at distances place)
  near_at at distances it place low =
      elim (cases_lt place at) [
        | inl early ↦ inr (it.before place early)
        | inr late ↦ inl (it.after place late low)
      ]

  -- a distance is put
  pub turn_put : (at : ℕ) (distances : List (Option ℕ)) → at < length rows → distance_at distances at ≡ None
      → HasNear (get_or rows at []) distances links → AreKnownPartly at distances
      → AreKnownPartly (at + 1) (set distances at (Some (links + 1)))
  turn_put at distances low unknown (place, below, marked, is) it =
      record { count = length-set distances at (Some (links + 1)) ∙ it.count; before = before; after = after }
    where
      far : IsFarFrom entry (named end) (suc links) (named at)
      far = subst (λ o. IsKnownTo entry (named end) links (named at) o) unknown (it.after at (omega arith) low)

      there : IsDistance entry (named end) (named place) links
      there =
          let inside : place < length rows = let count = it.count in omega arith in
          exact place links (subst (λ o. IsKnownNear place o) is (near_at at distances it place inside))

      own : IsKnownTo entry (named end) (links + 1) (named at) (Some (links + 1))
      own =
          let inside : place < length rows = let count = it.count in omega arith in
          (omega arith, reached at low far place inside marked there)

      before : (other : ℕ) → other < at + 1
          → IsKnownTo entry (named end) (links + 1) (named other) (distance_at (set distances at (Some (links + 1))) other)
      before other early =
          elim (cases_eq other at) [
            | inl same ↦
                subst (λ k. IsKnownTo entry (named end) (links + 1) (named k) (distance_at (set distances at (Some (links + 1))) k)) (sym same)
                (subst (λ o. IsKnownTo entry (named end) (links + 1) (named at) o)
                (sym (get_or-set_same distances at (Some (links + 1)) None (let count = it.count in omega arith))) own)
            | inr apart ↦
                subst (λ o. IsKnownTo entry (named end) (links + 1) (named other) o)
                (sym (get_or-set_other distances at other (Some (links + 1)) None apart)) (it.before other (omega arith))
          ]

      after : (other : ℕ) → at + 1 ≤ other → other < length rows
          → IsKnownTo entry (named end) links (named other) (distance_at (set distances at (Some (links + 1))) other)
      after other late inside =
          subst (λ o. IsKnownTo entry (named end) links (named other) o)
          (sym (get_or-set_other distances at other (Some (links + 1)) None (λ same. absurd (omega arith)))) (it.after other (omega arith) inside)

  -- nothing is put
  pub turn_left : (at : ℕ) (distances : List (Option ℕ)) → at < length rows
      → (distance_at distances at ≡ None → HasNoneNear (get_or rows at []) distances links) → AreKnownPartly at distances
      → AreKnownPartly (at + 1) distances
  turn_left at distances low none it =
      record {
        count = it.count;
        before = λ other early.
            elim (cases_eq other at) [
              | inl same ↦
                  subst (λ k. IsKnownTo entry (named end) (links + 1) (named k) (distance_at distances k)) (sym same)
                  (own (distance_at distances at) refl (it.after at (omega arith) low))
              | inr apart ↦ it.before other (omega arith)
            ];
        after = λ other late inside. it.after other (omega arith) inside;
      }
    where
      own : (o : Option ℕ) → distance_at distances at ≡ o → IsKnownTo entry (named end) links (named at) o
          → IsKnownTo entry (named end) (links + 1) (named at) o
      own (Some distance) is (high, there) = (omega arith, there)
      own None is far = farther at low far distances it.count (near_at at distances it) (none is)

  pub begun : (distances : List (Option ℕ)) → length distances ≡ length rows → AreKnownTo entry named (named end) links distances
      → AreKnownPartly 0 distances
  begun distances count known =
      record { count = count; before = λ other early. absurd (omega arith); after = λ other late inside. known other (omega arith) }

  pub ended : (at : ℕ) (distances : List (Option ℕ)) → length rows ≤ at → AreKnownPartly at distances
      → AreKnownTo entry named (named end) (links + 1) distances
  ended at distances all it other inside = it.before other (let count = it.count in omega arith)

  -- where nothing more is known one link farther, all is known
  no_way : (distances : List (Option ℕ)) → length distances ≡ length rows → AreKnownTo entry named (named end) links distances
      → AreKnownTo entry named (named end) (links + 1) distances
      → (from : ℕ) → from < length rows → distance_at distances from ≡ None
      → (others : List (List ℕ)) (to : List ℕ) → IsTrue (bytes_eq (named end) to) → LeadsAlong entry (named from) others to → ⊥
  no_way distances count near known from low unknown [] to ends leads =
      let far : IsFarFrom entry (named end) (suc links) (named from) = subst (λ o. IsKnownTo entry (named end) links (named from) o) unknown (near from (omega arith)) in
      let least = far [] to ends leads in
      omega arith
  no_way distances count near known from low unknown (next ∷ others) to ends leads =
      let it = next_at from low next others to ends leads.0 leads.1 in
      let far : IsFarFrom entry (named end) (suc (links + 1)) (named from) = subst (λ o. IsKnownTo entry (named end) (links + 1) (named from) o) unknown (known from (omega arith)) in
      by it far (let below = it.below in omega arith)
      (λ is. no_way distances count near known it.place it.below is others to ends (subst (λ n. LeadsAlong entry n others to) (sym it.is) leads.1))
      (distance_at distances it.place) refl
    where
      by : (it : NextAt from next) → IsFarFrom entry (named end) (suc (links + 1)) (named from) → it.place < length distances
          → (distance_at distances it.place ≡ None → ⊥) → (o : Option ℕ) → distance_at distances it.place ≡ o → ⊥
      by it far inside later None is = later is
      by it far inside later (Some distance) is =
          let (high, there) = subst (λ o. IsKnownTo entry (named end) links (named it.place) o) is (near it.place inside) in
          let least = far (next ∷ there.others) (named end) ((bytes_decides (named end) (named end)).1 refl)
          (leads.0, subst (λ n. LeadsAlong entry n there.others (named end)) it.is there.leads) in
          let long = there.long in
          omega arith

  pub all_known : (distances : List (Option ℕ)) → length distances ≡ length rows → AreKnownTo entry named (named end) links distances
      → AreKnownTo entry named (named end) (links + 1) distances → AreKnown entry named (named end) distances
  all_known distances count near known place inside = by (distance_at distances place) refl
    where
      by : (o : Option ℕ) → distance_at distances place ≡ o → IsKnown entry (named end) (named place) o
      by None is = no_way distances count near known place (omega arith) is
      by (Some distance) is = (subst (λ o. IsKnownTo entry (named end) links (named place) o) is (near place inside)).1

most_unknown : (distances : List (Option ℕ)) → unknown_count distances ≤ length distances
most_unknown [] = omega arith
most_unknown (None ∷ distances) = let low = most_unknown distances in omega arith
most_unknown (Some distance ∷ distances) = let low = most_unknown distances in omega arith

-- a distance that is put was not known before
pub fewer_unknown : (distances : List (Option ℕ)) (at distance : ℕ) → at < length distances → distance_at distances at ≡ None
    → unknown_count (set distances at (Some distance)) < unknown_count distances
fewer_unknown [] at distance low is = absurd (omega arith)
fewer_unknown (None ∷ distances) zero distance low is = omega arith
fewer_unknown (Some other ∷ distances) zero distance low is = cc
fewer_unknown (None ∷ distances) (suc at) distance low is = let fewer = fewer_unknown distances at distance (omega arith) is in omega arith
fewer_unknown (Some other ∷ distances) (suc at) distance low is = let fewer = fewer_unknown distances at distance (omega arith) is in omega arith

-- none is known, but that of the end
module _ (distances : List (Option ℕ)) (none : (place : ℕ) → distance_at distances place ≡ None) where
  pub unknown_at_first : (end distance : ℕ) → end < length distances → unknown_count (set distances end (Some distance)) < length distances
  unknown_at_first end distance low =
      let fewer = fewer_unknown distances end distance low (none end) in
      let all = most_unknown distances in
      omega arith

  pub begun_at : (entry : Links) (named : ℕ → List ℕ) (rows : List (List Bool)) (end : ℕ) → length distances ≡ length rows
      → AreLinks entry named rows → end < length rows → AreKnownTo entry named (named end) 0 (set distances end (Some 0))
  begun_at entry named rows end count are within place inside =
      elim (cases_eq place end) [
        | inl same ↦
            subst (λ k. IsKnownTo entry (named end) 0 (named k) (distance_at (set distances end (Some 0)) k)) (sym same)
            (subst (λ o. IsKnownTo entry (named end) 0 (named end) o) (sym (get_or-set_same distances end (Some 0) None (omega arith)))
            (omega arith, record { others = []; leads = refl; long = refl; least = λ others to ends leads. omega arith }))
        | inr apart ↦
            subst (λ o. IsKnownTo entry (named end) 0 (named place) o)
            (sym (get_or-set_other distances end place (Some 0) None apart ∙ none place)) (far apart)
      ]
    where
      low : place < length rows
      low = let same : length (set distances end (Some 0)) ≡ length distances = length-set distances end (Some 0) in omega arith

      far : (place ≡ end → ⊥) → IsFarFrom entry (named end) 1 (named place)
      far apart [] to ends leads = absurd (apart (are.apart place end low within (leads ∙ sym (same_names (named end) to ends))))
      far apart (next ∷ others) to ends leads = omega arith

-- one more of which nothing is known
pub none_more : (distances : List (Option ℕ)) → ((place : ℕ) → distance_at distances place ≡ None)
    → (place : ℕ) → distance_at (distances ++ None ∷ []) place ≡ None
none_more [] none zero = refl
none_more [] none (suc place) = none place
none_more (it ∷ distances) none zero = none zero
none_more (it ∷ distances) none (suc place) = none_more distances (λ other. none (suc other)) place
