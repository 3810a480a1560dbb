use Rattle.std.proofs.Common.{None, sym, ap, ◌∙◌}
use Rattle.cc_runs.specs.Machine.{Stuck, apply_step}
use Rattle.cc_machine.specs.Environments.{follow}
use Rattle.cc_machine.specs.Parts.{configuration_of}
use Rattle.cc_machine.specs.Putting.{resolved}
use Rattle.cc_machine.proofs.Following.{goes_same, stays}
use Rattle.cc_machine.proofs.parts.Parts.apply.Goals as goal

pub returns-in-Some : goal.returns-in-Some
returns-in-Some c =
    let now = configuration_of c.args.self.now in
    let given = ap (λ ls. resolved (follow ls c.args.environment) c.args.argument) (sym c.deref.ensures.value) ∙ c.operand-argument.ensures in
    let found = c.in-Some.ensures.cell in
    goes_same _ _ _ _ _ (λ j. apply_step now.store now.stack now.labels_made (given j) (found j)) c.apply_cell.ensures

pub returns-in-None : goal.returns-in-None
returns-in-None c =
    let now = configuration_of c.args.self.now in
    let given = ap (λ ls. resolved (follow ls c.args.environment) c.args.argument) (sym c.deref.ensures.value) ∙ c.operand-argument.ensures in
    let found = c.in-None.ensures.cell in
    goes_same _ _ _ _ _ (λ j. apply_step now.store now.stack now.labels_made (given j) (found j))
    (stays Stuck c.args.self.now None c.requires.linked tt)
