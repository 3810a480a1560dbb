use Rattle.cc_link.specs.Linking.{modules_before, IsLinked}
use Rattle.cc_link.proofs.linking.link.Given as goal

abbrev pub invariant-loop-index : goal.invariant-loop-index
invariant-loop-index l = IsLinked l.entry.devices.items (modules_before l.entry l.index) l.values.items l.table
