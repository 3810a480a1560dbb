use Rattle.std.proofs.Common.{sym, ◌∙◌}
use Rattle.std.proofs.lemmas.Iterator.Consumers.{YieldsList-from_first, YieldsList-turn, YieldsList-end}
use Rattle.cc_core.proofs.CallLemmas.{all-fails, all-push, all-gone}
use Rattle.cc_known.specs.MarkedEntries.{is_marked_element}
use Rattle.cc_known.proofs.marked.are_marked.Goals as goal

pub returns-then-not-is_marked_element : goal.returns-then-not-is_marked_element
returns-then-not-is_marked_element c =
    let at = YieldsList-turn
    (YieldsList-from_first (λ x. x) (λ s. s) c.args.set.now.list
    (c.into_iter-elem-iterator.ensures.into_iter_gives ∙ c.iter-elem-items.ensures))
    c.loop-elem.yielded _ c.loop-elem.yielded_by _ _ c.in-Some.elem c.in-Some.is c.next.ensures.steps in
    all-fails (is_marked_element c.args.marks.now) c.args.set.now.list _ c.in-Some.elem at
    (sym c.is_marked_element.ensures ∙ c.if-not-is_marked_element.true)

pub loop-elem-preserved : goal.loop-elem-preserved
loop-elem-preserved c =
    all-push (is_marked_element c.args.marks.now) c.loop-elem.yielded c.in-Some.elem c.loop-elem.invariant
    (sym c.is_marked_element.ensures ∙ c.if-not-is_marked_element.false)

pub returns : goal.returns
returns c =
    let seen = YieldsList-end
    (YieldsList-from_first (λ x. x) (λ s. s) c.args.set.now.list
    (c.into_iter-elem-iterator.ensures.into_iter_gives ∙ c.iter-elem-items.ensures))
    c.loop-elem.yielded _ c.loop-elem.yielded_by _ _ c.in-None.is c.next.ensures.steps in
    all-gone (is_marked_element c.args.marks.now) c.loop-elem.yielded c.args.set.now.list seen.0 c.loop-elem.invariant
