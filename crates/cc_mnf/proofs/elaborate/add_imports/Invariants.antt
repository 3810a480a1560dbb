use Rattle.std.proofs.Common.{◌≡◌, map, drop}
use Rattle.cc_mnf.specs.ElaboratedModules.{with_imports}
use Rattle.cc_mnf.proofs.elaborate.add_imports.Given as goal
use Rattle.cc_parse.specs.Trees.{import_syntax}

-- the names so far with those of the imports that are left are the names with those of all
abbrev pub invariant-loop-import : goal.invariant-loop-import
invariant-loop-import l =
    with_imports l.names (map import_syntax (drop l.import-index l.imports))
    ≡ with_imports l.fn.names (map import_syntax l.imports)
