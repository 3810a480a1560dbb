use Rattle.std.proofs.Common.{◌≡◌, map, drop}
use Rattle.cc_mnf.specs.CoreModules.{core_definitions}
use Rattle.cc_mnf.specs.ElaboratedModules.{elaborated_definitions}
use Rattle.cc_mnf.proofs.ModuleLoops.{behind_done}
use Rattle.cc_mnf.proofs.elaborate.definitions.Given as goal
use Rattle.cc_parse.specs.Trees.{def_syntax}

-- the definitions so far, and those that are left behind the names so far, are those of all
abbrev pub invariant-loop-def : goal.invariant-loop-def
invariant-loop-def l =
    behind_done (core_definitions l.definitions) (elaborated_definitions l.names (map def_syntax (drop l.def-index l.defs)))
    ≡ elaborated_definitions l.fn.names (map def_syntax l.defs)
