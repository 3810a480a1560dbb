-- A first shortest way on, step by step, where all distances are known.
use Rattle.std.proofs.Common.{◌≡◌, ℕ, suc, ◌+◌, ◌<◌, ◌≤◌, List, [], ◌∷◌, ◌++◌, length, map, slice_get, Option, Some, None, IsTrue, inl, inr, refl, sym, ap, subst, ◌∙◌, arith}
use Rattle.std.specs.List.{Contains}
use Rattle.std.specs.Str.{bytes_eq}
use Rattle.std.specs.Cmp.Lexicographic.{bytes_decides}
use Rattle.std.proofs.lemmas.Bool.{cases_eq}
use Rattle.cc_explain.specs.Chains.{LeadsAlong}
use Rattle.cc_graph.specs.Graph.{ImportMap, IsImportMap, imported}
use Rattle.cc_graph.specs.Places.{name_at}
use Rattle.cc_import_reasoning.specs.Circles.{IsAtDistance, IsFirstAt, FindsFirstAt}
use Rattle.cc_import_reasoning.specs.Distances.{IsDistance, IsKnown, distance_at, AreKnown}
use Rattle.cc_import_reasoning.proofs.MarkedNames.{importer_at}
use Rattle.cc_module_reasons.proofs.NearestWays.{place_in, at_in, IsFar, IsFirstWay, at_end, through}

itself : (name : List ℕ) → IsTrue (bytes_eq name name)
itself name = (bytes_decides name name).1 refl

module _ (graph : ImportMap) (sorted : IsImportMap graph) (end : ℕ) (low : end < length graph) (distances : List (Option ℕ))
    (count : length distances ≡ length graph) (known : AreKnown (imported graph) (name_at graph) (name_at graph end) distances) where
  distance_is : (place links : ℕ) → place < length graph → distance_at distances place ≡ Some links
      → IsDistance (imported graph) (name_at graph end) (name_at graph place) links
  distance_is place links inside is =
      subst (λ o. IsKnown (imported graph) (name_at graph end) (name_at graph place) o) is (known place (omega arith))

  -- a name from which a way leads on has a place
  on_the_way : (name : List ℕ) (others : List (List ℕ)) (to : List ℕ) → IsTrue (bytes_eq (name_at graph end) to)
      → LeadsAlong (imported graph) name others to → (place : ℕ) × (place < length graph) × (name_at graph place ≡ name)
  on_the_way name [] to ends leads = (end, low, (bytes_decides (name_at graph end) to).0 ends ∙ sym leads)
  on_the_way name (next ∷ others) to ends leads = importer_at graph sorted name next leads.0

  -- where there is a way of so many links, and none of fewer, that is the distance
  at_distance : (name : List ℕ) (others : List (List ℕ)) (to : List ℕ) → IsTrue (bytes_eq (name_at graph end) to)
      → LeadsAlong (imported graph) name others to → (links : ℕ) → length others ≡ links
      → IsFar (imported graph) (bytes_eq (name_at graph end)) links name → IsAtDistance graph distances links name
  at_distance name others to ends leads links long far =
      let (place, inside, is) = on_the_way name others to ends leads in
      by place inside is (distance_at distances place) refl (known place (omega arith))
    where
      by : (place : ℕ) → place < length graph → name_at graph place ≡ name → (o : Option ℕ) → distance_at distances place ≡ o
          → IsKnown (imported graph) (name_at graph end) (name_at graph place) o → IsAtDistance graph distances links name
      by place inside is None at none =
          absurd (none others to ends (subst (λ n. LeadsAlong (imported graph) n others to) (sym is) leads))
      by place inside is (Some distance) at it =
          let high = it.least others to ends (subst (λ n. LeadsAlong (imported graph) n others to) (sym is) leads) in
          let deep = far it.others (name_at graph end) (itself (name_at graph end)) (subst (λ n. LeadsAlong (imported graph) n it.others (name_at graph end)) is it.leads) in
          let same = it.long in
          let equal : distance ≡ links = omega arith in
          (place, inside, is, at ∙ ap (λ d. Some d) equal)

  -- what a name leads to is not nearer than by one link
  next_far : (from : List ℕ) (links : ℕ) → IsFar (imported graph) (bytes_eq (name_at graph end)) (suc links) from
      → (next : List ℕ) → Contains (imported graph from) next → IsFar (imported graph) (bytes_eq (name_at graph end)) links next
  next_far from links far next among others to ends leads = let least = far (next ∷ others) to ends (among, leads) in omega arith

  -- a step on: the first name that is one link nearer
  pub step_on : (place links next : ℕ) → place < length graph → distance_at distances place ≡ Some (links + 1)
      → IsFirstAt graph distances links (imported graph (name_at graph place)) next
      → (others : List (List ℕ)) → IsFirstWay (imported graph) (bytes_eq (name_at graph end)) (name_at graph next) others
      → IsFirstWay (imported graph) (bytes_eq (name_at graph end)) (name_at graph place) (name_at graph next ∷ others)
  step_on place links next inside is it others way =
      through (imported graph) (bytes_eq (name_at graph end)) (name_at graph place) (name_at graph next) others it.index it.stands way
      (λ other to ends leads. let least = here.least other to ends leads in let same : length others ≡ links = long in omega arith)
      (λ at target early stands. before at target early stands)
    where
      here : IsDistance (imported graph) (name_at graph end) (name_at graph place) (links + 1)
      here = distance_is place (links + 1) inside is

      there : IsDistance (imported graph) (name_at graph end) (name_at graph next) links
      there = distance_is next links it.within it.known

      long : length others ≡ links
      long =
          let low = way.shortest there.others (name_at graph end) (itself (name_at graph end)) there.leads in
          let high = there.least others way.to way.ends way.leads in
          let same = there.long in
          omega arith

      far : IsFar (imported graph) (bytes_eq (name_at graph end)) (suc links) (name_at graph place)
      far other to ends leads = let least = here.least other to ends leads in omega arith

      before : (at : ℕ) (target : List ℕ) → at < it.index → slice_get (imported graph (name_at graph place)) at ≡ Some target
          → IsFar (imported graph) (bytes_eq (name_at graph end)) (suc (length others)) target
      before at target early stands other to ends leads =
          let among = at_in (imported graph (name_at graph place)) target at stands in
          let least : links ≤ length other = next_far (name_at graph place) links far target among other to ends leads in
          let same : length others ≡ links = long in
          elim (cases_eq (length other) links) [
            | inl equal ↦
                absurd (it.before at target early stands
                (at_distance target other to ends leads links equal (next_far (name_at graph place) links far target among)))
            | inr apart ↦ omega arith
          ]

  -- there is such a name
  pub some_step : (place links : ℕ) → place < length graph → distance_at distances place ≡ Some (links + 1)
      → FindsFirstAt graph distances links (imported graph (name_at graph place)) None → ⊥
  some_step place links inside is none = by here.others here.leads here.long
    where
      here : IsDistance (imported graph) (name_at graph end) (name_at graph place) (links + 1)
      here = distance_is place (links + 1) inside is

      far : IsFar (imported graph) (bytes_eq (name_at graph end)) (suc links) (name_at graph place)
      far other to ends leads = let least = here.least other to ends leads in omega arith

      by : (others : List (List ℕ)) → LeadsAlong (imported graph) (name_at graph place) others (name_at graph end) → length others ≡ links + 1 → ⊥
      by [] leads long = omega arith
      by (next ∷ others) leads long =
          let (at, stands) = place_in (imported graph (name_at graph place)) next leads.0 in
          none at next stands
          (at_distance next others (name_at graph end) (itself (name_at graph end)) leads.1 links (omega arith)
          (next_far (name_at graph place) links far next leads.0))

  -- where no link is left the end is reached
  pub no_step : (place : ℕ) → place < length graph → distance_at distances place ≡ Some 0
      → IsFirstWay (imported graph) (bytes_eq (name_at graph end)) (name_at graph place) []
  no_step place inside is = by here.others here.leads here.long
    where
      here : IsDistance (imported graph) (name_at graph end) (name_at graph place) 0
      here = distance_is place 0 inside is

      by : (others : List (List ℕ)) → LeadsAlong (imported graph) (name_at graph place) others (name_at graph end) → length others ≡ 0
          → IsFirstWay (imported graph) (bytes_eq (name_at graph end)) (name_at graph place) []
      by [] leads long =
          at_end (imported graph) (bytes_eq (name_at graph end)) (name_at graph place)
          (subst (λ n. IsTrue (bytes_eq (name_at graph end) n)) (sym leads) (itself (name_at graph end)))
      by (next ∷ others) leads long = absurd (omega arith)

-- one place more
pub pushed : {A B : Type 0} (f : A → B) (places : List A) (next : A) (others : List B)
    → map f places ++ f next ∷ others ≡ map f (places ++ next ∷ []) ++ others
pushed f [] next others = refl
pushed f (place ∷ places) next others = ap (λ names. f place ∷ names) (pushed f places next others)
