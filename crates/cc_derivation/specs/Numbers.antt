-- The numbers of a derivation's nodes in post-order, from 1 on: the nodes of the premises come first, one premise after
-- the other, and then the node itself. A part that is shared is numbered at each of its places.
use Rattle.std.specs.Prelude.{ℕ, ◌+◌, List, [], ◌∷◌}
use Rattle.cc_core.specs.Derivations.{Derivation, Premises, NoPremise, Premise}
use Rattle.cc_checking.specs.DerivationSizes.{nodes}

-- the number of the last node of the derivation, where so many nodes come before the derivation
abbrev pub own_number : ℕ → Derivation → ℕ
own_number before derivation = before + nodes derivation

-- the numbers of the last nodes of the premises, where so many nodes come before them
abbrev pub premise_numbers : ℕ → Premises → List ℕ
premise_numbers before NoPremise = []
premise_numbers before (Premise first rest) =
    own_number before first ∷ premise_numbers (own_number before first) rest
