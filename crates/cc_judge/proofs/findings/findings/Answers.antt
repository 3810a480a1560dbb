use Rattle.cc_module.specs.Findings.{finding_of}
use Rattle.std.proofs.Common.{map}
use Rattle.cc_judge.proofs.FoundImports.{found_more, found_end}
use Rattle.cc_judge.proofs.findings.findings.Goals as goal

pub loop-import-init : goal.loop-import-init
loop-import-init c = record { found = rw c.in_ok-found.ensures.items tt; source = c.source_of-source.ensures }

pub loop-import-preserved : goal.loop-import-preserved
loop-import-preserved c =
    record {
      found =
          found_more c.args.texts.now c.args.last.now.verdicts.items c.args.plans.now c.args.name.now c.args.imports.now
          c.loop-import.import-index c.import-item.result c.loop-import.found.items c.push.new.self.items
          c.in_ok-one.one c.loop-import-test.true c.import-item.is c.loop-import.invariant.found c.in_ok-one.ensures
          c.in_ok-push.ensures.items;
      source = c.source_again-source.ensures;
    }

pub returns : goal.returns
returns c =
    found_end c.args.texts.now c.args.last.now.verdicts.items c.args.plans.now c.args.name.now c.args.imports.now
    c.loop-import.import-index (map finding_of c.loop-import.found.items) c.loop-import-test.false
    c.loop-import.invariant.found
