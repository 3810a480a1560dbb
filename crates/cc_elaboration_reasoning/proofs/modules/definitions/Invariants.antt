use Rattle.std.proofs.Common.{◌≡◌, map, drop}
use Rattle.cc_elaboration_reasoning.specs.FoundRefusals.{definitions_found}
use Rattle.cc_elaboration_reasoning.proofs.modules.definitions.Given as goal
use Rattle.cc_parse.specs.Trees.{def_syntax}

-- what is refused of the definitions that are left, behind the names so far, is what is refused of all
abbrev pub invariant-loop-def : goal.invariant-loop-def
invariant-loop-def l =
    definitions_found l.names l.places.items (map def_syntax (drop l.def-index l.defs))
    ≡ definitions_found l.fn.names l.fn.places.items (map def_syntax l.defs)
