use Rattle.std.proofs.Common.{map, take}
use Rattle.cc_module.specs.Findings.{finding_of}
use Rattle.cc_parse.specs.Trees.{import_syntax}
use Rattle.cc_judge.specs.Found.{IsSource, AreFoundFor}
use Rattle.cc_judge.proofs.findings.findings.Given as goal

abbrev pub invariant-loop-import : goal.invariant-loop-import
invariant-loop-import l =
    record {
      found : AreFoundFor l.texts l.last.verdicts.items l.plans l.name (map import_syntax (take l.import-index l.imports))
          (map finding_of l.found.items);
      source : IsSource l.texts l.name l.known l.source;
    }
