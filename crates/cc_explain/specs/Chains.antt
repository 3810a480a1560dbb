-- Chains of links: each target leads to those in its entry, the list of its own targets. What targets are is left open.
use Rattle.std.specs.Prelude.{◌≡◌, ◌⊎◌, ℕ, ◌<◌, ◌≤◌, List, [], ◌∷◌, length, slice_get, Some}
use Rattle.std.specs.List.{Contains}

-- Links lead from the first target through those listed, in turn, the last of which is the last target. Where none are
-- listed the first target is the last.
abbrev pub LeadsAlong : {T : Type 0} → (T → List T) → T → List T → T → Type 0
LeadsAlong entry from [] to = from ≡ to
LeadsAlong entry from (next ∷ others) to = Contains (entry from) next × LeadsAlong entry next others to

-- A chain from a target to another: the one is the first of the chain, each has the next one in its entry, and the other
-- is the last.
abbrev pub IsChain : {T : Type 0} → (T → List T) → T → T → List T → Type 0
IsChain entry from to [] = ⊥
IsChain entry from to (first ∷ others) = (first ≡ from) × LeadsAlong entry first others to

-- The place of a target in an entry: the first one at which it stands.
pub record IsPlace {T : Type 0} (targets : List T) (target : T) (place : ℕ) : Type 0 where
  pub stands : slice_get targets place ≡ Some target
  pub first : (other : ℕ) → slice_get targets other ≡ Some target → place ≤ other

-- One target has its place in an entry before that of another.
pub record StandsBefore {T : Type 0} (targets : List T) (left right : T) : Type 0 where
  pub place : ℕ
  pub later : ℕ
  pub left_is : IsPlace targets left place
  pub right_is : IsPlace targets right later
  pub order : place < later

-- Of two lists of targets that lead on from the same one, the left comes before the right: where they first differ, its
-- target stands before the other's in the entry that both come from.
abbrev pub LeadsBefore : {T : Type 0} → (T → List T) → T → List T → List T → Type 0
LeadsBefore entry from [] right = ⊥
LeadsBefore entry from (next ∷ left) [] = ⊥
LeadsBefore entry from (next ∷ left) (other ∷ right) =
    StandsBefore (entry from) next other ⊎ ((next ≡ other) × LeadsBefore entry next left right)

-- Of two chains that begin alike, the left comes before the right.
abbrev pub ComesBefore : {T : Type 0} → (T → List T) → List T → List T → Type 0
ComesBefore entry [] right = ⊥
ComesBefore entry (from ∷ left) [] = ⊥
ComesBefore entry (from ∷ left) (other ∷ right) = (from ≡ other) × LeadsBefore entry from left right

-- The first of the shortest chains: none is shorter, and none of its length comes before it.
pub record IsFirstShortest {T : Type 0} (entry : T → List T) (from to : T) (chain : List T) : Type 0 where
  pub leads : IsChain entry from to chain
  pub shortest : (other : List T) → IsChain entry from to other → length chain ≤ length other
  pub first : (other : List T) → IsChain entry from to other → length other ≡ length chain
      → ComesBefore entry other chain
      → ⊥
