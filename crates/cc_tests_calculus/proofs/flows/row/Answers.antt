use Rattle.std.proofs.Common.{◌-◌, ◌<◌, arith}
use Rattle.cc_capture.specs.declared.var.Elem.TheVariants.{Hole}
use Rattle.cc_subty.specs.Demands.{asked_of}
use Rattle.cc_tests_calculus.proofs.RowsOfHoles.{AreFlows, flows_more, flows_solvable}
use Rattle.cc_tests_calculus.proofs.flows.row.Goals as goal

pub loop-hole-preserved : goal.loop-hole-preserved
loop-hole-preserved c =
    let count = c.args.count in
    let hole = c.loop-hole.hole in
    let here : hole < count = c.loop-hole-test.true in
    let before : hole - 1 < count = omega arith in
    let more : AreFlows count (asked_of c.add_flow-in-loop-hole.new.demands) =
    flows_more count (asked_of c.loop-hole.demands) (asked_of c.add_flow-in-loop-hole.new.demands) (Hole (hole - 1)) hole
    c.loop-hole.invariant c.in_ok-add_flow-2.ensures before here in
    flows_more count (asked_of c.add_flow-in-loop-hole.new.demands) (asked_of c.add_flow-in-loop-hole-2.new.demands)
    (Hole hole) (hole - 1) more c.in_ok-add_flow-3.ensures here before

pub returns : goal.returns
returns c = flows_solvable c.args.count (asked_of c.loop-hole.demands) c.loop-hole.invariant
