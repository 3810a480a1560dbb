use Rattle.std.proofs.Common.{◌≡◌, ◌++◌, map, take}
use Rattle.cc_mnf.specs.ElaboratedModules.{import_names}
use Rattle.cc_parse.specs.Trees.{import_syntax}
use Rattle.cc_why.proofs.definitions.put_imports.Given as goal

abbrev pub invariant-loop-import : goal.invariant-loop-import
invariant-loop-import l =
    l.names.items ≡ l.fn.names.items ++ import_names (map import_syntax (take l.import-index l.imports))
