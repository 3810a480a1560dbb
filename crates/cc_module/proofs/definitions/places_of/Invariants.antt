use Rattle.std.proofs.Common.{◌≡◌, ◌≤◌, ℕ, List, length, drop}
use Rattle.cc_module.specs.DefinitionPlaces.{place_in, first_named, definition_at}
use Rattle.cc_module.proofs.definitions.places_of.Given as goal

abbrev pub invariant-loop-left : goal.invariant-loop-left
invariant-loop-left l = record {
  within : l.left ≤ length l.defs;
  finds : (name : List ℕ) → definition_at l.defs (place_in l.places name) ≡ first_named name (drop l.left l.defs);
}

abbrev pub decreases-loop-left : goal.decreases-loop-left
decreases-loop-left l = l.left
