-- Which nodes of a derivation break their rules, by their numbers in post-order. A part that is shared is numbered, and
-- may break its rule, at each of its places.
use Rattle.std.specs.Prelude.{ℕ, ◌≤◌, Contains, Bool, true, false, List, [], ◌∷◌, ◌++◌, Option, Some, None, if◌then◌else◌}
use Rattle.cc_core.specs.Derivations.{Claim, Derivation, Premises, Node, NoPremise, Premise, conclusion}
use Rattle.cc_derivation.specs.Numbers.{own_number}
use Rattle.cc_derivation.specs.Rows.{Place, Nowhere, TypeOf, SetsBelow, ShapesBelow, TypesBelow, Row, row_at}

-- what the premises claim
abbrev pub claims_of : Premises → List Claim
claims_of NoPremise = []
claims_of (Premise first rest) = conclusion first ∷ claims_of rest

-- whether there are as many places as claims
abbrev pub are_as_many : List Place → List Claim → Bool
are_as_many [] [] = true
are_as_many (place ∷ places) (claim ∷ claims) = are_as_many places claims
are_as_many _ _ = false

-- A node breaks its rule where it does not fit its place, or has not as many premises as its rule; then no place follows
-- for the nodes in the trees of its premises. Else it breaks its rule where it is no instance of it.
abbrev pub broken_at : ℕ → Option Row → List Claim → (List Place → List ℕ) → List ℕ
broken_at number None claims broken_above = number ∷ []
broken_at number (Some row) claims broken_above =
    if are_as_many (row.places claims) claims
    then broken_above (row.places claims) ++ (if row.is_instance claims then [] else number ∷ [])
    else number ∷ []

abbrev mutual
  -- The numbers of the nodes that break their rules, where so many nodes come before the derivation. A node that stands
  -- nowhere breaks no rule.
  pub broken : ℕ → Place → Derivation → List ℕ
  broken before Nowhere derivation = []
  broken before place (Node rule premises claim) =
      broken_at (own_number before (Node rule premises claim)) (row_at place rule claim) (claims_of premises)
      (λ places. broken_among before places premises)

  -- the same of premises at their places
  pub broken_among : ℕ → List Place → Premises → List ℕ
  broken_among before (place ∷ places) (Premise first rest) =
      broken before place first ++ broken_among (own_number before first) places rest
  broken_among before _ _ = []

-- the number is the least of the list
abbrev pub IsLeast : ℕ → List ℕ → Type 0
IsLeast number numbers = Contains numbers number × ((other : ℕ) → Contains numbers other → number ≤ other)
