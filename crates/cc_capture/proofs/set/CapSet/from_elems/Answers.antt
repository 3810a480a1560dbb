use Rattle.std.proofs.Common.{sym, ap, ◌∙◌}
use Rattle.std.proofs.lemmas.List.{take_more, take_all}
use Rattle.cc_capture.specs.Sets.{from_list, insert}
use Rattle.cc_capture.proofs.Walks.{from_list-push}
use Rattle.cc_capture.proofs.set.CapSet.from_elems.Goals as goal

pub loop-elem-init : goal.loop-elem-init
unfolding from_list
loop-elem-init c = c.new-set.ensures

pub loop-elem-preserved : goal.loop-elem-preserved
loop-elem-preserved c =
    c.in_ok-insert.ensures.ok
    ∙ ap (insert _) c.loop-elem.invariant
    ∙ sym (from_list-push _ _)
    ∙ ap from_list (sym (take_more c.args.elems.now c.loop-elem.elem-index _ c.loop-elem-test.true))

pub returns : goal.returns
returns c =
    c.loop-elem.invariant ∙ ap from_list (take_all c.loop-elem.elem-index c.args.elems.now c.loop-elem-test.false)
