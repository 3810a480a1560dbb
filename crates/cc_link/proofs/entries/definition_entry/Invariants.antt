use Rattle.std.proofs.Common.{◌≡◌}
use Rattle.std.specs.Prelude.{reverse}
use Rattle.cc_link.specs.ModuleLinks.{definition_entry}
use Rattle.cc_link.proofs.entries.definition_entry.Given as goal

abbrev pub invariant-loop-elem : goal.invariant-loop-elem
invariant-loop-elem l = l.entry.items ≡ definition_entry (reverse l.positions) l.yielded
