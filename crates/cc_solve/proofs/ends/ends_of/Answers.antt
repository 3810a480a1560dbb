use Rattle.std.proofs.Common.{length, sym, ◌∙◌, arith}
use Rattle.std.proofs.lemmas.List.{length-map}
use Rattle.cc_core.specs.Contexts.{lookup}
use Rattle.cc_core.specs.TermViews.{bind_of, context_of}
use Rattle.cc_sets.proofs.SubcapturingSearch.{set_room, entry_room, declared_lower, last_limited}
use Rattle.cc_solve.proofs.DeclaredChains.{follows_first, follows_more, follows_last, puts_room, puts_above}
use Rattle.cc_solve.proofs.DeclaredChains.{first_puts_above}
use Rattle.cc_solve.proofs.ends.ends_of.Goals as goal

pub put_elems-requires : goal.put_elems-requires
put_elems-requires c =
    set_room (context_of c.args.ctx.now) c.args.set.now c.args.marks.now (length c.args.ctx.now) c.requires.set (length-map c.args.ctx.now bind_of) c.requires.room

pub loop-position-init : goal.loop-position-init
loop-position-init c = record {
  follows =
      follows_first c.args.globals (context_of c.args.ctx.now) c.args.set.now c.args.marks.now c.put_elems.new.marks c.new-ends.result c.put_elems.new.ends c.requires.clear c.new-ends.ensures
      c.in_ok-put_elems.ensures;
  room = c.in_ok-put_elems.ensures.room;
  limited = omega (arith, c.len-limit.ensures);
  above =
      first_puts_above c.args.globals (context_of c.args.ctx.now) c.args.set.now c.args.marks.now c.put_elems.new.marks c.new-ends.result c.put_elems.new.ends c.len-limit.result c.requires.set
      (length-map c.args.ctx.now bind_of ∙ sym c.len-limit.ensures) c.requires.clear c.in_ok-put_elems.ensures;
}

pub last_below-requires-clause-within : goal.last_below-requires-clause-within
last_below-requires-clause-within c = omega (arith, c.loop-position.invariant.limited, c.loop-position.invariant.room, c.requires.room)

pub last_below-requires-clause-above : goal.last_below-requires-clause-above
last_below-requires-clause-above c = c.loop-position.invariant.above

pub follow-requires-clause-room : goal.follow-requires-clause-room
follow-requires-clause-room c =
    let low = last_limited c.loop-position.marks c.in-Some.position c.loop-position.limit c.in-Some.ensures c.loop-position.invariant.above in
    entry_room c.loop-position.marks c.in-Some.position (lookup (context_of c.args.ctx.now) c.in-Some.position)
    (omega (arith, low, c.loop-position.invariant.limited, c.loop-position.invariant.room, c.requires.room))
    (declared_lower (context_of c.args.ctx.now) c.in-Some.position c.requires.context)

pub loop-position-smaller : goal.loop-position-smaller
loop-position-smaller c = last_limited c.loop-position.marks c.in-Some.position c.loop-position.limit c.in-Some.ensures c.loop-position.invariant.above

pub loop-position-preserved : goal.loop-position-preserved
loop-position-preserved c =
    let low = last_limited c.loop-position.marks c.in-Some.position c.loop-position.limit c.in-Some.ensures c.loop-position.invariant.above in
    record {
      follows =
          follows_more c.args.globals (context_of c.args.ctx.now) c.args.set.now c.loop-position.marks c.loop-position.ends c.in-Some.position c.loop-position.invariant.follows
          c.in-Some.ensures c.follow.new.marks c.follow.new.ends c.in_ok-follow.ensures;
      room =
          puts_room c.args.globals (lookup (context_of c.args.ctx.now) c.in-Some.position) c.loop-position.marks c.follow.new.marks c.in-Some.position c.loop-position.ends c.follow.new.ends
          c.in_ok-follow.ensures
          ∙ c.loop-position.invariant.room;
      limited = omega (arith, low, c.loop-position.invariant.limited);
      above =
          puts_above c.args.globals (lookup (context_of c.args.ctx.now) c.in-Some.position) c.loop-position.marks c.follow.new.marks c.in-Some.position c.loop-position.ends c.follow.new.ends
          c.in-Some.ensures (declared_lower (context_of c.args.ctx.now) c.in-Some.position c.requires.context) c.in_ok-follow.ensures;
    }

pub returns-clause-ends : goal.returns-clause-ends
returns-clause-ends c =
    follows_last c.args.globals (context_of c.args.ctx.now) c.args.set.now c.loop-position.marks c.loop-position.ends c.loop-position.invariant.follows c.in_default.ensures

pub returns-clause-room : goal.returns-clause-room
returns-clause-room c = c.loop-position.invariant.room
