use Rattle.std.proofs.Common.{◌∙◌, ap, map}
use Rattle.std.proofs.lemmas.List.{take_all}
use Rattle.cc_parse.specs.Trees.{import_syntax}
use Rattle.cc_session.proofs.Lists.{copied_more}
use Rattle.cc_session.proofs.copies.copy_imports.Goals as goal

pub loop-import-preserved : goal.loop-import-preserved
loop-import-preserved c =
    copied_more import_syntax import_syntax c.args.imports.now c.loop-import.copies.items
    c.push.new.self.items c.loop-import.import-index c.import-item.result c.in_ok-copy.copy c.loop-import-test.true c.import-item.is
    c.loop-import.invariant c.in_ok-copy.ensures c.in_ok-push.ensures.items

pub returns : goal.returns
returns c =
    c.loop-import.invariant
    ∙ ap (map import_syntax) (take_all c.loop-import.import-index c.args.imports.now c.loop-import-test.false)
