use Rattle.std.proofs.Common.{◌∙◌, ap, map}
use Rattle.std.proofs.lemmas.List.{take_all}
use Rattle.cc_base.specs.declared.literal.Import.{Import}
use Rattle.cc_judge.proofs.Graphs.{sources_by_import}
use Rattle.cc_judge.proofs.Lists.{listed_more}
use Rattle.cc_judge.proofs.dependencies.sources_of.Goals as goal

pub loop-import-preserved : goal.loop-import-preserved
loop-import-preserved c =
    listed_more (λ (it : Import). it.module) c.args.imports.now c.loop-import.names.items c.push.new.self.items
    c.loop-import.import-index c.import-item.result c.in_ok-name.name c.loop-import-test.true c.import-item.is
    c.loop-import.invariant c.in_ok-name.ensures.cases c.in_ok-push.ensures.items

pub returns : goal.returns
returns c =
    c.loop-import.invariant
    ∙ ap (map (λ (it : Import). it.module)) (take_all c.loop-import.import-index c.args.imports.now
    c.loop-import-test.false)
    ∙ sources_by_import c.args.imports.now
