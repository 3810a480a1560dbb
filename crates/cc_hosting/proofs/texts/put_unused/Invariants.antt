use Rattle.std.proofs.Common.{◌≡◌, ◌+◌, ◌++◌, drop}
use Rattle.std.specs.List.{flat_map}
use Rattle.std.specs.String.{string_bytes}
use Rattle.cc_binding.specs.Binding.{unused_from, unused_rules}
use Rattle.cc_hosting.specs.HostedRuns.{unused_line}
use Rattle.cc_hosting.proofs.texts.put_unused.Given as goal

abbrev pub invariant-loop-at : goal.invariant-loop-at
invariant-loop-at l =
    string_bytes l.out ++ flat_map unused_line (unused_from (l.at + 1) l.session.present l.names.names.items (drop l.at l.policy))
    ≡ string_bytes l.initial.out ++ flat_map unused_line (unused_rules l.session.present l.names.names.items l.policy)
