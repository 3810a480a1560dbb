use Rattle.std.proofs.Common.{sym, ap, ◌∙◌}
use Rattle.std.proofs.lemmas.List.{map-id}
use Rattle.std.proofs.lemmas.Iterator.Consumers.{YieldsList-from_first, YieldsList-end}
use Rattle.cc_known.specs.Signatures.{greater_of, greatest_listed}
use Rattle.cc_type.proofs.Gathering.{greatest_listed-push}
use Rattle.cc_check.proofs.signature.greatest_in_set.Goals as goal

pub loop-elem-preserved : goal.loop-elem-preserved
loop-elem-preserved c =
    c.greater_of-greatest.ensures ∙ ap (λ o. greater_of o c.element_position.result) c.loop-elem.invariant
    ∙ ap (greater_of (greatest_listed c.args.first c.loop-elem.yielded)) c.element_position.ensures
    ∙ sym (greatest_listed-push c.args.first c.loop-elem.yielded c.in-Some.elem)

pub returns : goal.returns
returns c =
    let seen = YieldsList-end (YieldsList-from_first (λ x. x) (λ s. s) c.args.set.now.list (c.into_iter-elem-iterator.ensures.into_iter_gives ∙ c.iter-elem-items.ensures)) c.loop-elem.yielded _ c.loop-elem.yielded_by _ _ c.in-None.is c.next.ensures.steps in
    c.loop-elem.invariant ∙ ap (greatest_listed c.args.first) (sym (map-id c.loop-elem.yielded) ∙ seen.0)
