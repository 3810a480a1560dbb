use Rattle.std.proofs.Common.{sym, ◌∙◌}
use Rattle.cc_core.specs.TermViews.{context_of}
use Rattle.cc_checking.specs.Comparison.{demanded}
use Rattle.cc_checking.specs.Outcomes.{IsBelow}
use Rattle.cc_subty.specs.Demands.{asked_of}
use Rattle.cc_known.proofs.RepeatedDemands.{force_not_repeated}
use Rattle.cc_type.proofs.log.is_repeated.Goals as goal

pub returns-then-has_hole : goal.returns-then-has_hole
returns-then-has_hole c =
    sym
    (force_not_repeated (asked_of c.args.log.now.demands)
    (IsBelow (demanded (context_of c.args.ctx.now) c.args.left.now c.args.right.now))
    (sym c.has_hole.ensures ∙ c.if-has_hole.true))
