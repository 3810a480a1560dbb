-- What the program's list of demands asks.
use Rattle.std.specs.Prelude.{List, map}
use Rattle.cc_core.specs.TermViews.{context_of}
use Rattle.cc_checking.specs.Comparison.{demanded}
use Rattle.cc_checking.specs.Outcomes.{IsBelow, IsCapless, Placed, placed_at}
use Rattle.cc_subty.specs.declared.demands.Demand.{Demand as DeclaredDemand}
use Rattle.cc_subty.specs.declared.demands.Demand.TheVariants as demands

-- what a demand asks, and where
abbrev pub demand_of : DeclaredDemand → Placed
demand_of (demands.Sub context left right at) = placed_at at (IsBelow (demanded (context_of context) left right))
demand_of (demands.NoCap set at) = placed_at at (IsCapless set)

-- what is asked, in order
abbrev pub asked_of : List DeclaredDemand → List Placed
asked_of demands = map demand_of demands
