use Rattle.std.proofs.Common.{ℕ, ◌<◌}
use Rattle.cc_graph.specs.Places.{IsImportedFrom}
use Rattle.cc_graph.proofs.imports.is_imported_from.Given as goal

abbrev pub invariant-loop-last : goal.invariant-loop-last
invariant-loop-last l = (k : ℕ) → k < l.last → IsImportedFrom l.modules l.row l.first l.to k → ⊥
