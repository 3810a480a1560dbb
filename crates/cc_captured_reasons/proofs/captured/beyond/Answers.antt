use Rattle.std.proofs.Common.{◌∙◌}
use Rattle.std.proofs.lemmas.Iterator.Consumers.{YieldsList-from_first, YieldsList-end}
use Rattle.cc_core.specs.TermViews.{context_of}
use Rattle.cc_core.proofs.SubcapturingContexts.{IsKindedContext-from}
use Rattle.cc_captured_reasons.specs.Tellings.{telling}
use Rattle.cc_captured_reasons.proofs.NearEnds.{tells_of, member_stands, beyond_end, told_long}
use Rattle.cc_captured_reasons.proofs.ToldNumbers.{numbered_next}
use Rattle.cc_captured_reasons.proofs.captured.beyond.Goals as goal

pub loop-elem-preserved : goal.loop-elem-preserved
loop-elem-preserved c =
    numbered_next (telling c.args.told.now c.args.right.now) c.loop-elem.yielded c.in-Some.elem c.loop-elem.captured.items c.push_numbered.new.captured.items c.telling-number.result
    c.loop-elem.invariant c.in_ok-push_numbered.ensures c.telling-number.ensures

pub returns : goal.returns
returns c =
    let seen = YieldsList-end (YieldsList-from_first (λ x. x) (λ s. s) c.args.left.now.list (c.into_iter-elem-iterator.ensures.into_iter_gives ∙ c.iter-elem-items.ensures)) c.loop-elem.yielded _ c.loop-elem.yielded_by _ _ c.in-None.is c.next.ensures.steps in
    let g = context_of c.args.ctx.now in
    let formed = IsKindedContext-from g c.requires.context in
    beyond_end c.args.devices g c.args.right.now c.args.left.now (telling c.args.told.now c.args.right.now) c.loop-elem.yielded c.loop-elem.captured.items formed seen.0
    c.loop-elem.invariant
    (λ e here.
    let it = member_stands g c.args.left.now c.requires.left c.requires.closed e here in
    tells_of c.args.devices g c.args.right.now formed c.args.told.now c.requires.told e it.0
    (λ q is. told_long c.args.told.now c.args.ctx.now c.requires.count q (it.1 q is)))
