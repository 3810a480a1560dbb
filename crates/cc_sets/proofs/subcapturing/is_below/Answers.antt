use Rattle.std.proofs.Common.{◌≡◌, true, false, length, sym, subst, refl, ◌∙◌, arith}
use Rattle.std.proofs.lemmas.List.{length-map}
use Rattle.cc_core.specs.Contexts.{lookup}
use Rattle.cc_core.specs.TermViews.{bind_of, context_of}
use Rattle.cc_sets.specs.Reaching.{LooksUp}
use Rattle.cc_sets.proofs.SubcapturingSearch.{Stands, set_room, entry_room, declared_lower, entry_above, entry_length, last_limited, stands_first, stands_more, first_no, next_no, at_end, looks_yes, looks_no, looks_none, first_above}
use Rattle.cc_sets.proofs.subcapturing.is_below.Goals as goal

pub mark_missing-requires : goal.mark_missing-requires
mark_missing-requires g c =
    set_room (context_of c.args.ctx.now) c.args.left.now c.args.marks.now (length c.args.ctx.now) c.requires.left (length-map c.args.ctx.now bind_of) c.requires.room

pub returns-then-not-mark_missing-clause-decides : goal.returns-then-not-mark_missing-clause-decides
returns-then-not-mark_missing-clause-decides g c = (
  λ wrong. cc,
  λ below.
      absurd (first_no (context_of c.args.ctx.now) c.args.left.now c.args.right.now c.args.marks.now c.mark_missing.new.marks c.if-not-mark_missing.ensures below),
)

pub returns-then-not-mark_missing-clause-looks_up : goal.returns-then-not-mark_missing-clause-looks_up
returns-then-not-mark_missing-clause-looks_up g c =
    looks_none (context_of c.args.ctx.now) c.args.left.now c.args.right.now false c.args.steps.now (λ wrong p reached. let h : false ≡ true = wrong in cc)

pub returns-then-not-mark_missing-clause-within : goal.returns-then-not-mark_missing-clause-within
returns-then-not-mark_missing-clause-within g c =
    first_above (context_of c.args.ctx.now) c.args.left.now c.args.right.now c.args.marks.now c.mark_missing.new.marks _ (length c.args.ctx.now) c.requires.left (length-map c.args.ctx.now bind_of) c.requires.clear c.mark_missing.ensures

pub loop-position-init : goal.loop-position-init
loop-position-init g c = record {
  stands =
      stands_first (context_of c.args.ctx.now) c.args.left.now c.args.right.now c.args.marks.now c.mark_missing.new.marks c.args.steps.now c.requires.clear
      c.if-not-mark_missing.ensures;
  room = c.mark_missing.ensures.room;
  limited = omega (arith, c.len-limit.ensures);
  above =
      first_above (context_of c.args.ctx.now) c.args.left.now c.args.right.now c.args.marks.now c.mark_missing.new.marks _ c.len-limit.result c.requires.left
      (length-map c.args.ctx.now bind_of ∙ sym c.len-limit.ensures) c.requires.clear c.mark_missing.ensures;
}

pub look_up-requires-clause-room : goal.look_up-requires-clause-room
look_up-requires-clause-room g c =
    let low = last_limited c.loop-position.marks c.in-Some.position c.loop-position.limit c.in-Some.ensures c.loop-position.invariant.above in
    entry_room c.loop-position.marks c.in-Some.position (lookup (context_of c.args.ctx.now) c.in-Some.position)
    (omega (arith, low, c.loop-position.invariant.limited, c.loop-position.invariant.room, c.requires.room))
    (declared_lower (context_of c.args.ctx.now) c.in-Some.position c.requires.context)

pub returns-then-not-look_up-clause-decides : goal.returns-then-not-look_up-clause-decides
returns-then-not-look_up-clause-decides g c = (
  λ wrong. cc,
  λ below.
      absurd (next_no (context_of c.args.ctx.now) c.args.left.now c.args.right.now c.loop-position.marks c.look_up.new.marks c.args.steps.now c.loop-position.steps c.in-Some.position
      false c.loop-position.invariant.stands c.in-Some.ensures c.if-not-look_up.ensures.marks refl below),
)

pub returns-then-not-look_up-clause-looks_up : goal.returns-then-not-look_up-clause-looks_up
returns-then-not-look_up-clause-looks_up g c =
    subst (LooksUp (context_of c.args.ctx.now) c.args.left.now c.args.right.now false c.args.steps.now) (sym c.look_up.ensures.step)
    (looks_no (context_of c.args.ctx.now) c.args.left.now c.args.right.now c.loop-position.marks c.args.steps.now c.loop-position.steps c.in-Some.position c.loop-position.invariant.stands c.in-Some.ensures)

pub returns-then-not-look_up-clause-within : goal.returns-then-not-look_up-clause-within
returns-then-not-look_up-clause-within g c = λ q from.
    let low = last_limited c.loop-position.marks c.in-Some.position c.loop-position.limit c.in-Some.ensures c.loop-position.invariant.above in
    entry_above (lookup (context_of c.args.ctx.now) c.in-Some.position) c.args.right.now c.loop-position.marks c.look_up.new.marks c.in-Some.position _ c.in-Some.ensures
    (declared_lower (context_of c.args.ctx.now) c.in-Some.position c.requires.context) c.look_up.ensures.marks q
    (omega (arith, low, from, c.loop-position.invariant.limited))

pub returns-then-not-look_up-clause-room : goal.returns-then-not-look_up-clause-room
returns-then-not-look_up-clause-room g c =
    entry_length (lookup (context_of c.args.ctx.now) c.in-Some.position) c.args.right.now c.loop-position.marks c.look_up.new.marks c.in-Some.position _ c.look_up.ensures.marks
    ∙ c.loop-position.invariant.room

pub loop-position-preserved : goal.loop-position-preserved
loop-position-preserved g c =
    let low = last_limited c.loop-position.marks c.in-Some.position c.loop-position.limit c.in-Some.ensures c.loop-position.invariant.above in
    record {
      stands =
          subst (Stands (context_of c.args.ctx.now) c.args.left.now c.args.right.now c.look_up.new.marks c.args.steps.now) (sym c.look_up.ensures.step)
          (stands_more (context_of c.args.ctx.now) c.args.left.now c.args.right.now c.loop-position.marks c.look_up.new.marks c.args.steps.now c.loop-position.steps c.in-Some.position _
          c.requires.context c.loop-position.invariant.stands c.in-Some.ensures c.if-not-look_up.ensures.marks refl);
      room =
          entry_length (lookup (context_of c.args.ctx.now) c.in-Some.position) c.args.right.now c.loop-position.marks c.look_up.new.marks c.in-Some.position _ c.look_up.ensures.marks
          ∙ c.loop-position.invariant.room;
      limited = omega (arith, low, c.loop-position.invariant.limited);
      above =
          entry_above (lookup (context_of c.args.ctx.now) c.in-Some.position) c.args.right.now c.loop-position.marks c.look_up.new.marks c.in-Some.position _ c.in-Some.ensures
          (declared_lower (context_of c.args.ctx.now) c.in-Some.position c.requires.context) c.look_up.ensures.marks;
    }

pub returns-clause-decides : goal.returns-clause-decides
returns-clause-decides g c = (
  λ holds.
      at_end (context_of c.args.ctx.now) c.args.left.now c.args.right.now c.loop-position.marks c.args.steps.now c.loop-position.steps c.loop-position.invariant.stands c.in_default.ensures,
  λ below. refl,
)

pub returns-clause-looks_up : goal.returns-clause-looks_up
returns-clause-looks_up g c =
    looks_yes (context_of c.args.ctx.now) c.args.left.now c.args.right.now c.loop-position.marks c.args.steps.now c.loop-position.steps c.loop-position.invariant.stands c.in_default.ensures
