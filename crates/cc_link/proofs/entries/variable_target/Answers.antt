use Rattle.std.proofs.Common.{sym, ap, ◌∙◌}
use Rattle.std.specs.Prelude.{reverse}
use Rattle.cc_link.proofs.Turned.{stands_there, nothing_there}
use Rattle.cc_link.specs.ModuleLinks.{variable_target}
use Rattle.cc_link.proofs.entries.variable_target.Goals as goal

pub returns-then-at-positions : goal.returns-then-at-positions
returns-then-at-positions c =
    stands_there c.args.positions.now c.in-Free.position c.if-at-positions.true
    ∙ sym (ap (variable_target (reverse c.args.positions.now)) c.in-Free.is)

pub returns-else-at-positions : goal.returns-else-at-positions
returns-else-at-positions c =
    nothing_there c.args.positions.now c.in-Free.position c.if-at-positions.false
    ∙ sym (ap (variable_target (reverse c.args.positions.now)) c.in-Free.is)
