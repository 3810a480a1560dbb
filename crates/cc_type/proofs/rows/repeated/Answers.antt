use Rattle.std.proofs.Common.{sym, subst}
use Rattle.cc_core.specs.TermViews.{context_of}
use Rattle.cc_core.specs.WellFormed.{IsWellFormedShape}
use Rattle.cc_known.proofs.FormedParts.{numbers_well_formed}
use Rattle.cc_type.proofs.rows.repeated.Goals as goal

pub operand-requires-clause-shape : goal.operand-requires-clause-shape
operand-requires-clause-shape c =
    let g = context_of c.args.ctx.now in subst (IsWellFormedShape g) (sym c.in_ok-shape.ensures) (numbers_well_formed g)
