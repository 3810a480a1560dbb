use Rattle.std.proofs.Common.{◌≡◌, map, drop}
use Rattle.cc_verdicts.specs.PresentTexts as plain
use Rattle.cc_module.specs.Judgements.{checked_definition_of}
use Rattle.cc_judge.proofs.findings.definition_named.Given as goal

abbrev pub invariant-loop-def : goal.invariant-loop-def
invariant-loop-def l =
    plain.definition_named l.name (map checked_definition_of (drop l.def-index l.defs))
    ≡ plain.definition_named l.name (map checked_definition_of l.defs)
