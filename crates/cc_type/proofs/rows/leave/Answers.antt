use Rattle.std.proofs.Common.{sym, subst}
use Rattle.cc_core.specs.TermViews.{shape_of, context_of}
use Rattle.cc_core.specs.WellFormed.{IsWellFormedType}
use Rattle.cc_known.proofs.FormedParts.{pure_well_formed}
use Rattle.cc_type.proofs.rows.leave.Goals as goal

pub below-requires-clause-right : goal.below-requires-clause-right
below-requires-clause-right c =
    let g = context_of c.args.ctx.now in
    subst (IsWellFormedType g) (sym c.pure_type.ensures)
    (pure_well_formed g (shape_of c.in_ok-takes.takes.value) c.in_ok-takes.ensures.formed)
