use Rattle.std.proofs.Common.{◌∙◌, sym, ap}
use Rattle.cc_parse.specs.Steps.{set_state, set_step_of}
use Rattle.cc_parse.proofs.FoundElements.{takes_next}
use Rattle.cc_parse.proofs.sets.read_elements.Goals as goal

pub loop-left-preserved-in_ok-push-in-Takes : goal.loop-left-preserved-in_ok-push-in-Takes
loop-left-preserved-in_ok-push-in-Takes c =
    takes_next c.loop-left.elements.items c.push.new.self.items
    (set_state c.loop-left.state) c.args.spare c.loop-left.left.now c.token-item.result c.in-Takes.name _ c.in-len1-up.len_at_least c.token-item.is
    (sym c.in_ok-set_step.ensures ∙ ap set_step_of c.in-Takes.is) c.in_ok-push-in-Takes.ensures.items c.loop-left.invariant
