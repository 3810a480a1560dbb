use Rattle.std.proofs.lemmas.Result.{IfOk-weaker}
use Rattle.cc_judge.specs.KnownGraphs.{entries_of}
use Rattle.cc_import_reasoning.proofs.GivenImports.{none_importing, none_imported, circle_told}
use Rattle.cc_import_reasoning.proofs.reason.circle.Goals as goal

pub returns-in_default : goal.returns-in_default
returns-in_default c = none_importing (entries_of c.args.modules.now) c.args.name.now c.args.source.now c.in_default.ensures

pub returns-in_default-place_of : goal.returns-in_default-place_of
returns-in_default-place_of c = none_imported (entries_of c.args.modules.now) c.args.name.now c.args.source.now c.in_default-place_of.ensures

pub returns : goal.returns
returns c =
    let (low, is_end) = c.in-Some.ensures in
    let (inside, is_from) = c.in-Some-place_of.ensures in
    IfOk-weaker c.shortest.result _ _
    (λ found it. circle_told (entries_of c.args.modules.now) c.args.name.now c.args.source.now c.in-Some.end c.in-Some-place_of.from is_end is_from found it)
    c.shortest.ensures
