use Rattle.std.proofs.Common.{◌∙◌, ap, map}
use Rattle.std.specs.Prelude.{reverse}
use Rattle.std.proofs.lemmas.List.{take_all}
use Rattle.cc_link.specs.Linking.{definition_of}
use Rattle.cc_link.proofs.EnteredNames.{entered_more}
use Rattle.cc_runs.specs.Links.{position_among}
use Rattle.cc_link.proofs.positions.table_of.Goals as goal

pub loop-index-preserved : goal.loop-index-preserved
loop-index-preserved c =
    entered_more c.loop-index.table c.add.new.self c.args.first c.args.defs.now c.loop-index.index
    c.in_ok-position.position c.index-defs-index.result c.loop-index-test.true c.index-defs-index.is
    c.in_ok-position.ensures.0 c.loop-index.invariant c.in_ok-add.ensures

pub returns : goal.returns
returns c = λ name.
    c.loop-index.invariant name
    ∙ ap (λ ds. position_among c.args.first name (reverse (map definition_of ds)))
    (take_all c.loop-index.index c.args.defs.now c.loop-index-test.false)
