use Rattle.std.proofs.Common.{sym, ◌∙◌}
use Rattle.std.proofs.lemmas.Iterator.Consumers.{YieldsList-from_first, YieldsList-turn, YieldsList-end}
use Rattle.cc_core.specs.Questions.{is_hole}
use Rattle.cc_core.proofs.CallLemmas.{any-at, any-push, any-gone}
use Rattle.cc_core.proofs.occurrences.holds_hole.Goals as goal

pub returns-then-is_hole : goal.returns-then-is_hole
returns-then-is_hole c =
    let at = YieldsList-turn (YieldsList-from_first (λ x. x) (λ s. s) c.args.set.now.list (c.into_iter-elem-iterator.ensures.into_iter_gives ∙ c.iter-elem-items.ensures)) c.loop-elem.yielded _ c.loop-elem.yielded_by _ _ c.in-Some.elem c.in-Some.is c.next.ensures.steps in
    any-at is_hole c.args.set.now.list _ c.in-Some.elem at (sym c.is_hole.ensures ∙ c.if-is_hole.true)

pub loop-elem-preserved : goal.loop-elem-preserved
loop-elem-preserved c = any-push is_hole c.loop-elem.yielded c.in-Some.elem c.loop-elem.invariant (sym c.is_hole.ensures ∙ c.if-is_hole.false)

pub returns : goal.returns
returns c =
    let seen = YieldsList-end (YieldsList-from_first (λ x. x) (λ s. s) c.args.set.now.list (c.into_iter-elem-iterator.ensures.into_iter_gives ∙ c.iter-elem-items.ensures)) c.loop-elem.yielded _ c.loop-elem.yielded_by _ _ c.in-None.is c.next.ensures.steps in
    any-gone is_hole c.loop-elem.yielded c.args.set.now.list seen.0 c.loop-elem.invariant
