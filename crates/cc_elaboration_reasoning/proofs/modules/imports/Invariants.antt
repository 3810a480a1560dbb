use Rattle.std.proofs.Common.{◌≡◌, ◌++◌, map, drop}
use Rattle.cc_mnf.specs.ElaboratedModules.{import_names}
use Rattle.cc_elaboration_reasoning.specs.FoundRefusals.{imports_found, import_places}
use Rattle.cc_elaboration_reasoning.proofs.modules.imports.Given as goal
use Rattle.cc_parse.specs.Trees.{import_syntax}

-- what is refused of the imports that are left is what is refused of all, and their names and places are still to come
abbrev pub invariant-loop-import : goal.invariant-loop-import
invariant-loop-import l =
    (imports_found l.names l.places.items (map import_syntax (drop l.import-index l.imports))
    ≡ imports_found l.fn.names l.fn.places.items (map import_syntax l.imports))
    × (l.names ++ import_names (map import_syntax (drop l.import-index l.imports))
    ≡ l.fn.names ++ import_names (map import_syntax l.imports))
    × (l.places.items ++ import_places (map import_syntax (drop l.import-index l.imports))
    ≡ l.fn.places.items ++ import_places (map import_syntax l.imports))
