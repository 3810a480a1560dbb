use Rattle.cc_checking.proofs.ComputedChecks.{identity_has_two_nodes, printer_has_fourteen_nodes}
use Rattle.cc_checking.proofs.example_checks.canonical_derivations.Goals as goal

pub returns : goal.returns
returns c = record { two_nodes = identity_has_two_nodes; fourteen_nodes = printer_has_fourteen_nodes }
