use Rattle.std.proofs.Common.{sym, ◌∙◌}
use Rattle.cc_type.proofs.log.kept_with.Goals as goal

pub returns-then-stays_fillable-clause-again : goal.returns-then-stays_fillable-clause-again
returns-then-stays_fillable-clause-again c = λ again left. sym (c.stays_fillable.ensures left) ∙ c.if-stays_fillable.true
