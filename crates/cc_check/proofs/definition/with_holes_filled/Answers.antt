use Rattle.std.proofs.Common.{sym, ◌∙◌}
use Rattle.cc_core.specs.TermViews.{type_of}
use Rattle.cc_check.proofs.NothingFilled.{filled_type-nothing}
use Rattle.cc_check.proofs.definition.with_holes_filled.Goals as goal

pub returns-then-is_empty-clause-is : goal.returns-then-is_empty-clause-is
returns-then-is_empty-clause-is c =
    sym
    (filled_type-nothing c.args.sets.now (type_of c.args.ty)
    (sym c.is_empty.ensures ∙ c.if-is_empty.true))
