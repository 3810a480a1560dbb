use Rattle.std.proofs.Common.{max, sym, ap, ◌∙◌}
use Rattle.std.proofs.lemmas.List.{map-id}
use Rattle.std.proofs.lemmas.Iterator.Consumers.{YieldsList-from_first, YieldsList-end}
use Rattle.cc_known.specs.FilledHoles.{holes_listed}
use Rattle.cc_type.proofs.Gathering.{holes_listed-push}
use Rattle.cc_check.proofs.holes.holes_in_set.Goals as goal

pub loop-elem-preserved : goal.loop-elem-preserved
loop-elem-preserved c =
    c.greater-holes.ensures ∙ ap (λ n. max n c.holes_of.result) c.loop-elem.invariant
    ∙ ap (max (holes_listed c.loop-elem.yielded)) c.holes_of.ensures
    ∙ sym (holes_listed-push c.loop-elem.yielded c.in-Some.elem)

pub returns : goal.returns
returns c =
    let seen = YieldsList-end (YieldsList-from_first (λ x. x) (λ s. s) c.args.set.now.list (c.into_iter-elem-iterator.ensures.into_iter_gives ∙ c.iter-elem-items.ensures)) c.loop-elem.yielded _ c.loop-elem.yielded_by _ _ c.in-None.is c.next.ensures.steps in
    c.loop-elem.invariant ∙ ap holes_listed (sym (map-id c.loop-elem.yielded) ∙ seen.0)
