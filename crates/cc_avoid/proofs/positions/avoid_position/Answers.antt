use Rattle.std.proofs.Common.{sym, ◌∙◌}
use Rattle.cc_avoid.specs.Avoiding.{sign_of}
use Rattle.cc_avoid.proofs.AvoidingAnswers.{set_kept}
use Rattle.cc_avoid.proofs.positions.avoid_position.Goals as goal

pub returns-then-not-contains : goal.returns-then-not-contains
returns-then-not-contains c =
    set_kept (sign_of c.args.sign) c.args.position c.args.declared.now c.args.set.now (sym c.contains.ensures ∙ c.if-not-contains.true)
