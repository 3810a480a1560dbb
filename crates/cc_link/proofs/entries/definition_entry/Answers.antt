use Rattle.std.specs.Prelude.{reverse}
use Rattle.cc_link.proofs.Listed.{element_more}
use Rattle.cc_link.proofs.entries.definition_entry.Goals as goal

pub loop-elem-preserved : goal.loop-elem-preserved
loop-elem-preserved c =
    element_more (reverse c.args.positions.now) c.loop-elem.yielded c.in-Some.elem c.loop-elem.entry.items
    c.push_found.new.entry.items c.element_target-target.result c.loop-elem.invariant c.in_ok-push_found.ensures
    c.element_target-target.ensures
