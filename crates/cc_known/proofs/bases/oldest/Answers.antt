use Rattle.std.proofs.Common.{Some, length, sym, ap, ◌∙◌, subst}
use Rattle.cc_core.specs.TermViews.{bind_of, context_of}
use Rattle.cc_known.specs.KeptWalks.{StandsOn}
use Rattle.cc_known.proofs.OldestEntries.{stands_empty, stands_longer, length_longer}
use Rattle.cc_known.proofs.bases.oldest.Goals as goal

pub loop-position-init : goal.loop-position-init
loop-position-init c =
    let g = context_of c.args.ctx.now in (
      subst (λ x. StandsOn (context_of x) g) (sym c.new-first.ensures) (stands_empty g),
      ap (λ x. length (context_of x)) c.new-first.ensures,
    )

pub loop-position-preserved : goal.loop-position-preserved
loop-position-preserved c =
    let g = context_of c.args.ctx.now in
    let first = context_of c.loop-position.first in
    let next = context_of c.in_ok-next-in-Some.next in
    let bind = bind_of c.in_ok-bind-in-Some.bind in
    let is = ap context_of c.in_ok-next-in-Some.ensures in (
      stands_longer first next g c.loop-position.position bind c.loop-position.invariant.0 c.loop-position.invariant.1
          (sym c.in-Some.ensures ∙ ap Some (sym c.in_ok-bind-in-Some.ensures)) is,
      length_longer first next c.loop-position.position bind c.loop-position.invariant.1 is,
    )
