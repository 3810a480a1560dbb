use Rattle.std.proofs.Common.{◌∙◌, fold, bit_or, sym, ap}
use Rattle.std.proofs.lemmas.List.{map-id}
use Rattle.std.proofs.lemmas.List.Sums.{fold_push}
use Rattle.std.proofs.lemmas.Iterator.Consumers.{YieldsList-from_first, YieldsList-end}
use Rattle.cc_binding.specs.NamedBits.{element_bit}
use Rattle.cc_binding.proofs.naming.set_bits.Goals as goal

pub loop-elem-preserved : goal.loop-elem-preserved
loop-elem-preserved c =
    let first = c.args.first in
    record {
      bits = c.both-bits.ensures.bits ∙ (λ i. bit_or (c.loop-elem.invariant.bits i) (c.element_bit.ensures.bits i))
          ∙ sym (fold_push (λ bits e. bit_or bits (element_bit first e)) 0 c.loop-elem.yielded c.in-Some.elem);
      within = λ h. c.both-bits.ensures.within (c.loop-elem.invariant.within h) (c.element_bit.ensures.within h);
    }

pub returns : goal.returns
returns c =
    let seen = YieldsList-end (YieldsList-from_first (λ x. x) (λ s. s) c.args.set.now.list (c.into_iter-elem-iterator.ensures.into_iter_gives ∙ c.iter-elem-items.ensures)) c.loop-elem.yielded _ c.loop-elem.yielded_by _ _ c.in-None.is c.next.ensures.steps in
    record {
      bits = c.loop-elem.invariant.bits ∙ ap (fold (λ bits e. bit_or bits (element_bit c.args.first e)) 0) (sym (map-id c.loop-elem.yielded) ∙ seen.0);
      within = c.loop-elem.invariant.within;
    }
