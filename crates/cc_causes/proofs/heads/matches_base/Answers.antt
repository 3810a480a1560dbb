use Rattle.std.proofs.Common.{subst, Err}
use Rattle.cc_core.specs.Shapes.{BaseShape}
use Rattle.cc_core.specs.TermViews.{context_of}
use Rattle.cc_subty.specs.Demands.{asked_of}
use Rattle.cc_known.specs.Logs.{Meets}
use Rattle.cc_type.specs.Rows.{operand_log}
use Rattle.cc_causes.proofs.MatchedOperands.{operand_matches, operand_apart}
use Rattle.cc_causes.proofs.heads.matches_base.Goals as goal

pub returns-in-Ok : goal.returns-in-Ok
returns-in-Ok c = λ s found. operand_matches _ (context_of c.args.ctx.now) c.args.variable (BaseShape c.args.base)
    (asked_of c.new-log.result.demands) s found (asked_of c.base_operand.new.log.demands) c.in-Ok.field-0 c.in-Ok.ensures

pub returns-in-Err-Refused : goal.returns-in-Err-Refused
returns-in-Err-Refused c = λ s found. operand_apart _ (context_of c.args.ctx.now) c.args.variable (BaseShape c.args.base)
    (asked_of c.new-log.result.demands) s found c.in-Err-Refused.field-0-0.code c.in-Err-Refused.field-0-0.place
    (subst (λ e. Meets (λ (u : Unit {0}). u) (Err e) (asked_of c.base_operand.new.log.demands)
    (operand_log (record { line = 0; col = 0 }) (context_of c.args.ctx.now) c.args.variable (BaseShape c.args.base)
    (asked_of c.new-log.result.demands))) c.in-Err-Refused.field-0-is c.in-Err-Refused.ensures)
