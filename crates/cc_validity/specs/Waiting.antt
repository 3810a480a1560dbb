-- Nodes that wait to be judged, each at its place, and what is still to be found among them.
use Rattle.std.specs.Prelude.{◌≡◌, ◌+◌, ◌<◌, ℕ, Bool, List, [], ◌∷◌, ◌++◌, Option, Some, if◌then◌else◌}
use Rattle.cc_core.specs.Derivations.{Derivation, Premises, Premise}
use Rattle.cc_checking.specs.DerivationSizes.{nodes}
use Rattle.cc_derivation.specs.Numbers.{own_number}
use Rattle.cc_derivation.specs.DerivationViews.{der_of}
use Rattle.cc_derivation.specs.Rows.{Place}
use Rattle.cc_derivation.specs.Broken.{broken}
use Rattle.cc_validity.specs.Spots.{place_of}
use Rattle.cc_validity.specs.declared.waiting.Passed.{Passed}
use Rattle.cc_validity.specs.declared.waiting.Waiting.{Waiting}

-- a derivation at its place
pub data Standing : Type 0 where
  At : (place : Place) (derivation : Derivation) → Standing

-- what a value of the program stands for
abbrev pub standing_of : Waiting → Standing
standing_of waiting = At (place_of waiting.spot) (der_of waiting.der.value)

-- how many nodes they have together
abbrev pub nodes_in : List Standing → ℕ
nodes_in [] = 0
nodes_in (At place derivation ∷ rest) = nodes derivation + nodes_in rest

-- the numbers of their nodes that break their rules, where so many nodes come before them
abbrev pub broken_in : ℕ → List Standing → List ℕ
broken_in before [] = []
broken_in before (At place derivation ∷ rest) =
    broken before place derivation ++ broken_in (own_number before derivation) rest

-- the premises at the places
abbrev pub standing_among : List Place → Premises → List Standing
standing_among (place ∷ places) (Premise first rest) = At place first ∷ standing_among places rest
standing_among _ _ = []

-- the first of the list, or else the other
abbrev pub first_or : List ℕ → Option ℕ → Option ℕ
first_or [] other = other
first_or (number ∷ rest) other = Some number

-- the number alone, where the test holds
abbrev pub alone_if : Bool → ℕ → List ℕ
alone_if test number = if test then number ∷ [] else []

-- One node was passed: those that wait above it are added to the list, the others that were passed are counted, and
-- it is told whether the node breaks its rule.
pub record Passes (place : Place) (derivation : Derivation) (old new : List Standing) (passed : Passed) : Type 0 where
  pub more : List Standing
  pub left : new ≡ old ++ more
  pub breaking : (before : ℕ) → broken before place derivation
      ≡ broken_in before more ++ alone_if passed.breaks (own_number before derivation)
  pub counted : nodes derivation ≡ passed.nodes + nodes_in more
  pub some : 0 < passed.nodes
