use Rattle.std.proofs.Common.{ap, ◌∙◌}
use Rattle.std.proofs.lemmas.Iterator.Consumers.{YieldsList-from_first, YieldsList-end}
use Rattle.cc_capture.specs.Sets.{retain}
use Rattle.cc_known.specs.Keeping.{is_among_oldest, fillable}
use Rattle.cc_known.proofs.FillableSets.{fills_none, fills_more, fills_all}
use Rattle.cc_known.proofs.fillable.fillable.Goals as goal

pub loop-elem-init : goal.loop-elem-init
loop-elem-init c = fills_none c.closed-closed.result c.new-kept.result c.new-kept.ensures

pub loop-elem-preserved : goal.loop-elem-preserved
loop-elem-preserved c =
    fills_more c.closed-closed.result c.loop-elem.yielded c.in-Some.elem c.loop-elem.kept c.put_if_fillable.new.kept
    c.in_ok-put_if_fillable.ensures c.loop-elem.invariant

pub returns : goal.returns
unfolding fillable
returns c =
    let seen = YieldsList-end
    (YieldsList-from_first (λ x. x) (λ s. s) c.args.set.now.list
    (c.into_iter-elem-iterator.ensures.into_iter_gives ∙ c.iter-elem-items.ensures))
    c.loop-elem.yielded _ c.loop-elem.yielded_by _ _ c.in-None.is c.next.ensures.steps in
    fills_all c.closed-closed.result c.loop-elem.yielded c.args.set.now c.loop-elem.kept seen.0 c.loop-elem.invariant
    ∙ ap (λ n. retain (is_among_oldest n) c.args.set.now) c.closed-closed.ensures
