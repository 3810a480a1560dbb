-- What the program makes of derivations: the numbers of their nodes, which stop at the greatest, and the derivations
-- themselves where they are built. What stands here serves proofs and the contracts between the steps.
use Rattle.std.specs.Prelude.{◌≡◌, ◌-◌, ◌^◌, ◌≤◌, ◌<◌, ℕ, Bool, false, List, [], ◌∷◌, map, min, Option, Some, None}
use Rattle.std.specs.Prelude.{MatchOption}
use Rattle.cc_core.specs.Derivations.{Derivation, Premises, NoPremise, Premise}
use Rattle.cc_checking.specs.DerivationSizes.{nodes, nodes_of}
use Rattle.cc_derivation.specs.DerivationViews.{der_of}
use Rattle.cc_derive.specs.declared.trees.Tree.{Tree}
use Rattle.cc_derive.specs.declared.trees.Parts.{Parts}
use Rattle.cc_derive.specs.declared.trees.Making.{Making}

-- the premises before others
abbrev pub listed_before : List Derivation → Premises → Premises
listed_before [] rest = rest
listed_before (d ∷ ds) rest = Premise d (listed_before ds rest)

-- the premises
abbrev pub listed : List Derivation → Premises
listed ds = listed_before ds NoPremise

-- the number where it is not above the greatest, else that
abbrev pub capped : ℕ → ℕ
capped n = min n (2 ^ 64 - 1)

-- The tree is made of the derivation: its nodes are counted, and it is built where it is to be.
pub record IsTree (build : Bool) (tree : Tree) (derivation : Derivation) : Type 0 where
  pub counted : tree.nodes ≡ capped (nodes derivation)
  pub built : MatchOption tree.der (build ≡ false) (λ d. der_of d.value ≡ derivation)

-- What is counted is no more than the number and the greatest, and is the number where it is below the limit.
pub record IsCounted (limit counted number : ℕ) : Type 0 where
  pub within : counted ≤ capped number
  pub exact : counted < capped limit → counted ≡ number

-- The tree is made of the derivation: its nodes are counted as far as they are to be, and it is built where it is to be.
pub record IsMade (build : Making) (tree : Tree) (derivation : Derivation) : Type 0 where
  pub counted : IsCounted build.limit tree.nodes (nodes derivation)
  pub built : MatchOption tree.der (build.whole ≡ false) (λ d. der_of d.value ≡ derivation)

-- the same of the premises of a node
pub record IsParts (build : Making) (parts : Parts) (derivations : List Derivation) : Type 0 where
  pub counted : IsCounted build.limit parts.nodes (nodes_of (listed derivations))
  pub built : MatchOption parts.ders (build.whole ≡ false) (λ v. map (λ d. der_of d.value) v.items ≡ derivations)
