use Rattle.std.proofs.Common.{◌-◌, sym, ◌∙◌}
use Rattle.cc_certificate_judging.specs.Judging.{reading}
use Rattle.cc_certificate_judging.proofs.ReadShapes.{walk_begins, walk_goes_on, walk_shortens, walk_ends}
use Rattle.cc_certificate_judging.proofs.claims.read_shape.Goals as goal

pub loop-next-init : goal.loop-next-init
loop-next-init c = walk_begins c.descend.new.waiting.items c.new-waiting.ensures.items c.in_ok-read.ensures

pub loop-next-preserved : goal.loop-next-preserved
loop-next-preserved c =
    walk_goes_on c.pop.new.self.items c.take_turn.new.waiting.items c.in-Some.next c.loop-next.invariant
    c.in-Some.ensures.items c.in_ok-read-2.ensures

pub loop-next-smaller : goal.loop-next-smaller
loop-next-smaller c =
    walk_shortens c.pop.new.self.items c.take_turn.new.waiting.items c.in-Some.next c.in-Some.ensures.items
    c.in_ok-read-2.ensures

pub returns : goal.returns
returns c =
    walk_ends (reading c.args.names (c.args.entries - c.args.names)) c.loop-next.waiting.items c.loop-next.invariant
    (sym c.loop-next.waiting.ok.0 ∙ c.in_default.ensures.cases.0)
