-- The present modules that are linked for the definitions of one.
use Rattle.std.specs.Prelude.{◌≡◌, ℕ, List, filter, map}
use Rattle.cc_base.specs.declared.device.DeviceDecl.{DeviceDecl}
use Rattle.cc_graph.specs.Graph.{IsOrder}
use Rattle.cc_entry_laws.specs.LinkOrders.{is_reached}
use Rattle.cc_entry_laws.specs.PresentEntries.{CheckedModule, present_module}
use Rattle.cc_verdicts.specs.ModuleVerdicts.{ModuleVerdict}
use Rattle.cc_verdicts.specs.PresentTexts.{Texts, graph_of, AreVerdicts}

-- They are the module and all that it reaches, in the order of the import graph, where modules have the verdicts of the
-- present texts.
abbrev pub AreLinked : List DeviceDecl → Texts → List ℕ → List CheckedModule → Type 0
AreLinked devices texts from modules =
    (names : List (List ℕ)) × IsOrder (graph_of texts) names
    × ((verdicts : List ℕ → ModuleVerdict) → AreVerdicts devices texts verdicts
    → modules ≡ map (present_module texts verdicts) (filter (is_reached (graph_of texts) from) names))
