use Rattle.std.proofs.Common.{sym, ◌∙◌}
use Rattle.std.proofs.lemmas.Iterator.Consumers.{YieldsList-from_first, YieldsList-turn, YieldsList-end}
use Rattle.cc_core.specs.WellFormed.{kinds_of, is_well_formed_element}
use Rattle.cc_core.specs.WaitingTests.{passed_kinds}
use Rattle.cc_core.specs.TermViews.{context_of}
use Rattle.cc_core.proofs.CallLemmas.{all-fails, all-push, all-gone}
use Rattle.cc_core.proofs.wellformed.is_well_formed_set.Goals as goal

pub returns-then-not-is_well_formed_elem : goal.returns-then-not-is_well_formed_elem
returns-then-not-is_well_formed_elem c =
    let test = is_well_formed_element (kinds_of (context_of c.args.ctx.now)) (passed_kinds c.args.passed.now) in
    let at = YieldsList-turn (YieldsList-from_first (λ x. x) (λ s. s) c.args.set.now.list (c.into_iter-elem-iterator.ensures.into_iter_gives ∙ c.iter-elem-items.ensures)) c.loop-elem.yielded _ c.loop-elem.yielded_by _ _ c.in-Some.elem c.in-Some.is c.next.ensures.steps in
    all-fails test c.args.set.now.list _ c.in-Some.elem at (sym c.is_well_formed_elem.ensures ∙ c.if-not-is_well_formed_elem.true)

pub loop-elem-preserved : goal.loop-elem-preserved
loop-elem-preserved c =
    let test = is_well_formed_element (kinds_of (context_of c.args.ctx.now)) (passed_kinds c.args.passed.now) in
    all-push test c.loop-elem.yielded c.in-Some.elem c.loop-elem.invariant (sym c.is_well_formed_elem.ensures ∙ c.if-not-is_well_formed_elem.false)

pub returns : goal.returns
returns c =
    let test = is_well_formed_element (kinds_of (context_of c.args.ctx.now)) (passed_kinds c.args.passed.now) in
    let seen = YieldsList-end (YieldsList-from_first (λ x. x) (λ s. s) c.args.set.now.list (c.into_iter-elem-iterator.ensures.into_iter_gives ∙ c.iter-elem-items.ensures)) c.loop-elem.yielded _ c.loop-elem.yielded_by _ _ c.in-None.is c.next.ensures.steps in
    all-gone test c.loop-elem.yielded c.args.set.now.list seen.0 c.loop-elem.invariant
