use Rattle.std.proofs.Common.{◌≡◌, ℕ, List, length, map, take}
use Rattle.cc_parse.specs.Trees.{import_syntax}
use Rattle.cc_verdicts.specs.ModuleVerdicts.{ModuleVerdict}
use Rattle.cc_verdicts.specs.PresentTexts.{AreVerdicts, finding_for}
use Rattle.cc_module.specs.Findings.{finding_of}
use Rattle.cc_judge.specs.Found.{IsSource}
use Rattle.cc_judge.proofs.found_again.are_found_again.Given as goal

abbrev pub invariant-loop-at : goal.invariant-loop-at
invariant-loop-at l =
    record {
      source : IsSource l.texts l.name l.known l.source;
      long : length l.old ≡ length l.imports;
      found : (verdicts : List ℕ → ModuleVerdict) → AreVerdicts l.devices l.texts verdicts
          → map finding_of (take l.at l.old) ≡ map (finding_for l.texts verdicts l.name) (map import_syntax (take l.at l.imports));
    }
