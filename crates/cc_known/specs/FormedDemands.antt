-- What is asked is well formed: each demand's context is, and its left set is in that context.
use Rattle.std.specs.Prelude.{List, [], ◌∷◌}
use Rattle.cc_core.specs.WellFormed.{IsWellFormedSet, IsWellFormedContext}
use Rattle.cc_checking.specs.Comparison.{Demand}
use Rattle.cc_checking.specs.Outcomes.{Asked, IsBelow, IsCapless, Placed}

-- the demand is well formed
pub record IsWellFormedDemand (demand : Demand) : Type 0 where
  pub context : IsWellFormedContext demand.context
  pub left : IsWellFormedSet demand.context demand.left

-- what is asked is; a set that is to have no universal capability may be any
abbrev pub IsWellFormedAsked : Asked → Type 0
IsWellFormedAsked (IsBelow demand) = IsWellFormedDemand demand
IsWellFormedAsked (IsCapless set) = Unit {0}

-- all that is asked is
abbrev pub AllWellFormed : List Placed → Type 0
AllWellFormed [] = Unit {0}
AllWellFormed (first ∷ rest) = IsWellFormedAsked first.asked × AllWellFormed rest
