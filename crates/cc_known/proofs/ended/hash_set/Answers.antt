use Rattle.std.proofs.Common.{sym, ap, ◌∙◌}
use Rattle.std.specs.Hash as fed
use Rattle.std.specs.Prelude.{fold}
use Rattle.std.proofs.lemmas.Iterator.Consumers.{YieldsList-from_first, YieldsList-end}
use Rattle.cc_known.specs.EndedDemands.{number_of}
use Rattle.cc_known.proofs.HashedSets.{fold-push, fold-all}
use Rattle.cc_known.proofs.ended.hash_set.Goals as goal

pub loop-elem-preserved : goal.loop-elem-preserved
loop-elem-preserved g c =
    c.hash.ensures
    ∙ ap (λ n. fold g.H.Hasher.write c.loop-elem.state (fed.u32 n)) c.number_of.ensures
    ∙ ap (λ s. fold g.H.Hasher.write s (fed.u32 (number_of c.in-Some.elem))) c.loop-elem.invariant
    ∙ sym
    (fold-push g.H.Hasher.write c.args.state.now (λ e. fed.u32 (number_of e)) c.loop-elem.yielded c.in-Some.elem)

pub returns : goal.returns
returns g c =
    let seen = YieldsList-end
    (YieldsList-from_first (λ x. x) (λ s. s) c.args.set.now.list
    (c.into_iter-elem-iterator.ensures.into_iter_gives ∙ c.iter-elem-items.ensures))
    c.loop-elem.yielded _ c.loop-elem.yielded_by _ _ c.in-None.is c.next.ensures.steps in
    fold-all g.H.Hasher.write c.args.state.now c.loop-elem.state (λ e. fed.u32 (number_of e)) c.loop-elem.yielded
    c.args.set.now.list seen.0 c.loop-elem.invariant
