use Rattle.std.proofs.Common.{sym, ◌∙◌}
use Rattle.std.proofs.lemmas.List.{length-map}
use Rattle.cc_core.specs.TermViews.{bind_of, context_of}
use Rattle.cc_known.proofs.DemandEnds.{follows_first, follows_more, follows_last, puts_named}
use Rattle.cc_type.proofs.demand_ends.ends_of.Goals as goal

pub loop-position-init : goal.loop-position-init
loop-position-init c =
    follows_first (context_of c.args.ctx.now) c.args.right.now c.args.left.now c.put_elems.new.waiting
    c.put_elems.new.ends c.new-waiting.result c.new-ends.result c.len-limit.result
    (c.len-limit.ensures ∙ sym (length-map c.args.ctx.now bind_of)) c.new-waiting.ensures c.new-ends.ensures c.requires.left
    c.in_ok-put_elems.ensures

pub loop-position-preserved : goal.loop-position-preserved
loop-position-preserved c =
    follows_more (context_of c.args.ctx.now) c.args.right.now c.args.left.now c.loop-position.limit c.loop-position.waiting
    c.loop-position.ends c.in-Some.position c.requires.context c.loop-position.invariant c.in-Some.ensures
    c.put_declared.new.waiting c.put_declared.new.ends
    (puts_named c.args.right.now _ c.remove.new.self c.loop-position.ends c.put_declared.new.waiting
    c.put_declared.new.ends _ _ c.remove.ensures c.get.ensures c.in_ok-put_declared.ensures)

pub returns : goal.returns
returns c =
    follows_last (context_of c.args.ctx.now) c.args.right.now c.args.left.now c.loop-position.limit c.loop-position.waiting
    c.loop-position.ends c.loop-position.invariant c.in_default.ensures
