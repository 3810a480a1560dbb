use Rattle.cc_tests_calculus.proofs.RowsOfHoles.{one_more}
use Rattle.cc_tests_calculus.proofs.flows.add_flow.Goals as goal

pub returns : goal.returns
returns c =
    one_more c.args.demands.now c.push.new.self c.new-ctx.result c.in_ok-left.left c.in_ok-right.right _ c.args.from
    c.args.hole c.in_ok-push.ensures.ok c.new-ctx.ensures c.in_ok-left.ensures c.in_ok-right.ensures
