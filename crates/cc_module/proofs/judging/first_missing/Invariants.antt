use Rattle.std.proofs.Common.{◌≡◌, map, drop}
use Rattle.cc_verdicts.specs.ModuleVerdicts.{first_missing}
use Rattle.cc_module.specs.Findings.{finding_of}
use Rattle.cc_module.proofs.judging.first_missing.Given as goal
use Rattle.cc_parse.specs.Trees.{import_syntax}

-- the first missing one of those that are left is that of all
abbrev pub invariant-loop-at : goal.invariant-loop-at
invariant-loop-at l =
    first_missing (map import_syntax (drop l.at l.imports)) (map finding_of (drop l.at l.findings))
    ≡ first_missing (map import_syntax l.imports) (map finding_of l.findings)
