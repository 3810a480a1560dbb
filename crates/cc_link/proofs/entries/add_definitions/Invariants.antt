use Rattle.std.proofs.Common.{◌≡◌, ◌+◌, ◌++◌, map, drop}
use Rattle.std.specs.Prelude.{reverse}
use Rattle.cc_module.specs.Judgements.{checked_definition_of}
use Rattle.cc_link.specs.EntryLists.{entry_lists}
use Rattle.cc_link.specs.ModuleLinks.{definition_entries}
use Rattle.cc_link.proofs.entries.add_definitions.Given as goal

abbrev pub invariant-loop-index : goal.invariant-loop-index
invariant-loop-index l =
    entry_lists l.entries.items
    ++ definition_entries (reverse l.positions.items) (l.first + l.index) (map checked_definition_of (drop l.index l.defs))
    ≡ entry_lists l.initial.entries.items
    ++ definition_entries (reverse l.initial.positions.items) l.first (map checked_definition_of l.defs)
