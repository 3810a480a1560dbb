-- Derivations that wait to be counted.
use Rattle.std.specs.Prelude.{ℕ, ◌+◌, List, [], ◌∷◌}
use Rattle.cc_core.specs.Derivations.{Derivation, Premises, NoPremise, Premise}
use Rattle.cc_checking.specs.DerivationSizes.{nodes}

-- the premises, in order
abbrev pub premise_list : Premises → List Derivation
premise_list NoPremise = []
premise_list (Premise first rest) = first ∷ premise_list rest

-- how many nodes they have together
abbrev pub nodes_together : List Derivation → ℕ
nodes_together [] = 0
nodes_together (derivation ∷ rest) = nodes derivation + nodes_together rest
