use Rattle.std.proofs.Common.{◌≡◌, map, take}
use Rattle.cc_parse.specs.Trees.{import_syntax}
use Rattle.cc_session.proofs.copies.copy_imports.Given as goal

abbrev pub invariant-loop-import : goal.invariant-loop-import
invariant-loop-import l = map import_syntax l.copies.items ≡ map import_syntax (take l.import-index l.imports)
