-- Shortest chains of links to whatever ends them.
use Rattle.std.specs.Prelude.{◌≡◌, Bool, List, length, ◌≤◌, IsTrue}
use Rattle.cc_explain.specs.Chains.{IsChain, ComesBefore}

-- The first of the shortest chains from a target to an end: no chain to any end is shorter, and none of its length comes
-- before it.
pub record IsFirstShortestToEnd {T : Type 0} (entry : T → List T) (is_end : T → Bool) (from : T) (chain : List T) :
    Type 0 where
  pub to : T
  pub ends : IsTrue (is_end to)
  pub leads : IsChain entry from to chain
  pub shortest : (other : List T) (end : T) → IsTrue (is_end end) → IsChain entry from end other
      → length chain ≤ length other
  pub first : (other : List T) (end : T) → IsTrue (is_end end) → IsChain entry from end other
      → length other ≡ length chain → ComesBefore entry other chain → ⊥
