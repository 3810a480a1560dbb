use Rattle.std.proofs.Common.{◌≡◌, ◌++◌, map, take}
use Rattle.cc_mnf.specs.CoreModules.{definition_of}
use Rattle.cc_why.proofs.definitions.put_definitions.Given as goal

abbrev pub invariant-loop-def : goal.invariant-loop-def
invariant-loop-def l =
    l.names.items ≡ l.fn.names.items ++ map (λ one. one.name) (map definition_of (take l.def-index l.defs))
