use Rattle.std.proofs.Common.{sym, ap, ◌∙◌}
use Rattle.cc_certificate_reading.proofs.GatheredSets.{with_all, with_all-empty, with_all-last}
use Rattle.cc_certificate_reading.proofs.sets.gathered.Goals as goal

pub loop-elem-init : goal.loop-elem-init
loop-elem-init c = ap (with_all c.args.elems.items) c.new-set.ensures ∙ with_all-empty c.args.elems.items

pub loop-elem-preserved : goal.loop-elem-preserved
loop-elem-preserved c =
    ap (with_all c.pop.new.self.items) c.in_ok-insert.ensures.ok
    ∙ sym (with_all-last c.pop.new.self.items c.in-Some.elem c.loop-elem.set)
    ∙ ap (λ es. with_all es c.loop-elem.set) (sym c.in-Some.ensures.items)
    ∙ c.loop-elem.invariant
