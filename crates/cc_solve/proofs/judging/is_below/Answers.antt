use Rattle.std.proofs.Common.{◌+◌, true, false, set, length, sym, subst, refl, ◌∙◌, arith}
use Rattle.std.proofs.lemmas.List.{length-map}
use Rattle.cc_core.specs.Contexts.{lookup}
use Rattle.cc_core.specs.Substitution.{filled_set}
use Rattle.cc_core.specs.TermViews.{bind_of, context_of}
use Rattle.cc_core.proofs.Lookups.{lookup-map}
use Rattle.cc_checking.specs.Fillings.{filled_entry, filled_context}
use Rattle.cc_sets.specs.Marking.{HasRoomForEntry, MarksEntry}
use Rattle.cc_sets.proofs.SubcapturingSearch.{set_room, entry_room, declared_lower, entry_above, entry_length}
use Rattle.cc_sets.proofs.SubcapturingSearch.{last_limited, stands_first, stands_more, first_no, next_no, at_end}
use Rattle.cc_sets.proofs.SubcapturingSearch.{first_above}
use Rattle.cc_solve.specs.Solutions.{filling_of}
use Rattle.cc_solve.proofs.judging.is_below.Goals as goal

pub mark_filled-requires : goal.mark_filled-requires
mark_filled-requires c =
    let f = filling_of c.args.filling.now in
    set_room (filled_context f (context_of c.args.ctx.now)) (filled_set f c.args.left.now) c.args.marks.now (length c.args.ctx.now) c.requires.left
    (length-map (context_of c.args.ctx.now) (filled_entry f) ∙ length-map c.args.ctx.now bind_of) c.requires.room

pub returns-then-not-mark_filled-clause-decides : goal.returns-then-not-mark_filled-clause-decides
returns-then-not-mark_filled-clause-decides c =
    let f = filling_of c.args.filling.now in (
      λ wrong. cc,
      λ below.
          absurd (first_no (filled_context f (context_of c.args.ctx.now)) (filled_set f c.args.left.now) c.args.right.now c.args.marks.now c.mark_filled.new.marks c.if-not-mark_filled.ensures below),
    )

pub returns-then-not-mark_filled-clause-within : goal.returns-then-not-mark_filled-clause-within
returns-then-not-mark_filled-clause-within c =
    let f = filling_of c.args.filling.now in
    first_above (filled_context f (context_of c.args.ctx.now)) (filled_set f c.args.left.now) c.args.right.now c.args.marks.now c.mark_filled.new.marks _ (length c.args.ctx.now) c.requires.left
    (length-map (context_of c.args.ctx.now) (filled_entry f) ∙ length-map c.args.ctx.now bind_of) c.requires.clear c.mark_filled.ensures

pub loop-position-init : goal.loop-position-init
loop-position-init c =
    let f = filling_of c.args.filling.now in
    record {
      turns = 0;
      stands =
          stands_first (filled_context f (context_of c.args.ctx.now)) (filled_set f c.args.left.now) c.args.right.now c.args.marks.now c.mark_filled.new.marks 0 c.requires.clear
          c.if-not-mark_filled.ensures;
      room = c.mark_filled.ensures.room;
      limited = omega (arith, c.len-limit.ensures);
      above =
          first_above (filled_context f (context_of c.args.ctx.now)) (filled_set f c.args.left.now) c.args.right.now c.args.marks.now c.mark_filled.new.marks _ c.len-limit.result c.requires.left
          (length-map (context_of c.args.ctx.now) (filled_entry f) ∙ length-map c.args.ctx.now bind_of ∙ sym c.len-limit.ensures) c.requires.clear c.mark_filled.ensures;
    }

pub look_up-requires-clause-room : goal.look_up-requires-clause-room
look_up-requires-clause-room c =
    let f = filling_of c.args.filling.now in
    let low = last_limited c.loop-position.marks c.in-Some.position c.loop-position.limit c.in-Some.ensures c.loop-position.invariant.above in
    subst (HasRoomForEntry c.loop-position.marks) (lookup-map (filled_entry f) (context_of c.args.ctx.now) c.in-Some.position)
    (entry_room c.loop-position.marks c.in-Some.position (lookup (filled_context f (context_of c.args.ctx.now)) c.in-Some.position)
    (omega (arith, low, c.loop-position.invariant.limited, c.loop-position.invariant.room, c.requires.room))
    (declared_lower (filled_context f (context_of c.args.ctx.now)) c.in-Some.position c.requires.context))

pub returns-then-not-look_up-clause-decides : goal.returns-then-not-look_up-clause-decides
returns-then-not-look_up-clause-decides c =
    let f = filling_of c.args.filling.now in
    let marked =
    subst (λ entry. MarksEntry entry c.args.right.now (set c.loop-position.marks c.in-Some.position false) c.look_up.new.marks false) (sym (lookup-map (filled_entry f) (context_of c.args.ctx.now) c.in-Some.position))
    c.if-not-look_up.ensures in (
      λ wrong. cc,
      λ below.
          absurd (next_no (filled_context f (context_of c.args.ctx.now)) (filled_set f c.args.left.now) c.args.right.now c.loop-position.marks c.look_up.new.marks 0 c.loop-position.invariant.turns c.in-Some.position
          false c.loop-position.invariant.stands c.in-Some.ensures marked refl below),
    )

pub returns-then-not-look_up-clause-within : goal.returns-then-not-look_up-clause-within
returns-then-not-look_up-clause-within c = λ q from.
    let f = filling_of c.args.filling.now in
    let low = last_limited c.loop-position.marks c.in-Some.position c.loop-position.limit c.in-Some.ensures c.loop-position.invariant.above in
    let marked =
    subst (λ entry. MarksEntry entry c.args.right.now (set c.loop-position.marks c.in-Some.position false) c.look_up.new.marks c.look_up.result) (sym (lookup-map (filled_entry f) (context_of c.args.ctx.now) c.in-Some.position))
    c.look_up.ensures in
    entry_above (lookup (filled_context f (context_of c.args.ctx.now)) c.in-Some.position) c.args.right.now c.loop-position.marks c.look_up.new.marks c.in-Some.position c.look_up.result c.in-Some.ensures
    (declared_lower (filled_context f (context_of c.args.ctx.now)) c.in-Some.position c.requires.context) marked q
    (omega (arith, low, from, c.loop-position.invariant.limited))

pub returns-then-not-look_up-clause-room : goal.returns-then-not-look_up-clause-room
returns-then-not-look_up-clause-room c =
    entry_length _ c.args.right.now c.loop-position.marks c.look_up.new.marks c.in-Some.position _ c.look_up.ensures
    ∙ c.loop-position.invariant.room

pub loop-position-smaller : goal.loop-position-smaller
loop-position-smaller c = last_limited c.loop-position.marks c.in-Some.position c.loop-position.limit c.in-Some.ensures c.loop-position.invariant.above

pub loop-position-preserved : goal.loop-position-preserved
loop-position-preserved c =
    let f = filling_of c.args.filling.now in
    let low = last_limited c.loop-position.marks c.in-Some.position c.loop-position.limit c.in-Some.ensures c.loop-position.invariant.above in
    let marked =
    subst (λ entry. MarksEntry entry c.args.right.now (set c.loop-position.marks c.in-Some.position false) c.look_up.new.marks true) (sym (lookup-map (filled_entry f) (context_of c.args.ctx.now) c.in-Some.position))
    c.if-not-look_up.ensures in
    record {
      turns = c.loop-position.invariant.turns + 1;
      stands =
          stands_more (filled_context f (context_of c.args.ctx.now)) (filled_set f c.args.left.now) c.args.right.now c.loop-position.marks c.look_up.new.marks 0 c.loop-position.invariant.turns c.in-Some.position true
          c.requires.context c.loop-position.invariant.stands c.in-Some.ensures marked refl;
      room =
          entry_length _ c.args.right.now c.loop-position.marks c.look_up.new.marks c.in-Some.position _ c.look_up.ensures
          ∙ c.loop-position.invariant.room;
      limited = omega (arith, low, c.loop-position.invariant.limited);
      above =
          entry_above (lookup (filled_context f (context_of c.args.ctx.now)) c.in-Some.position) c.args.right.now c.loop-position.marks c.look_up.new.marks c.in-Some.position true c.in-Some.ensures
          (declared_lower (filled_context f (context_of c.args.ctx.now)) c.in-Some.position c.requires.context) marked;
    }

pub returns-clause-decides : goal.returns-clause-decides
returns-clause-decides c =
    let f = filling_of c.args.filling.now in (
      λ holds.
          at_end (filled_context f (context_of c.args.ctx.now)) (filled_set f c.args.left.now) c.args.right.now c.loop-position.marks 0 c.loop-position.invariant.turns c.loop-position.invariant.stands c.in_default.ensures,
      λ below. refl,
    )
