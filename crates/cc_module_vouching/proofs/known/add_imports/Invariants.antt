use Rattle.std.proofs.Common.{map, drop}
use Rattle.cc_parse.specs.Trees.{import_syntax}
use Rattle.cc_module_vouching.proofs.KnownBinds.{AreAdded}
use Rattle.cc_module_vouching.proofs.known.add_imports.Given as goal

-- the binds of the imports so far are added
abbrev pub invariant-loop-import : goal.invariant-loop-import
invariant-loop-import l =
    AreAdded l.modules (map import_syntax l.imports) l.initial.known.items l.known.items
    (map import_syntax (drop l.import-index l.imports))
