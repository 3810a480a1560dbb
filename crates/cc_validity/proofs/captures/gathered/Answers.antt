use Rattle.std.proofs.Common.{sym, ◌∙◌}
use Rattle.cc_validity.proofs.GatheredTerms.{walk_begins, walk_goes_on, walk_shortens, walk_ends}
use Rattle.cc_validity.proofs.captures.gathered.Goals as goal

pub loop-next-init : goal.loop-next-init
loop-next-init c = walk_begins c.descend.new.waiting.items c.new-waiting.ensures.items c.in_ok-found.ensures

pub loop-next-preserved : goal.loop-next-preserved
loop-next-preserved c =
    walk_goes_on c.pop.new.self.items c.take_turn.new.waiting.items c.in-Some.next c.loop-next.invariant
    c.in-Some.ensures.items c.in_ok-found-2.ensures

pub loop-next-smaller : goal.loop-next-smaller
loop-next-smaller c =
    walk_shortens c.pop.new.self.items c.take_turn.new.waiting.items c.in-Some.next c.in-Some.ensures.items
    c.in_ok-found-2.ensures

pub returns : goal.returns
returns c =
    walk_ends c.loop-next.waiting.items c.loop-next.invariant
    (sym c.loop-next.waiting.ok.0 ∙ c.in_default.ensures.cases.0)
