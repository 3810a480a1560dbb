use Rattle.std.proofs.Common.{None}
use Rattle.cc_capture.specs.declared.var.Var.TheVariants.{Free}
use Rattle.cc_runs.specs.Machine.{Stuck, apply_step}
use Rattle.cc_machine.specs.Parts.{configuration_of}
use Rattle.cc_machine.proofs.Following.{goes_same, stays}
use Rattle.cc_machine.proofs.parts.Parts.apply_at.Goals as goal

pub returns-in-Some : goal.returns-in-Some
returns-in-Some c =
    let now = configuration_of c.args.self.now in
    let found = c.in-Some.ensures.cell in
    goes_same _ _ _ _ _ (λ j. apply_step now.store now.stack now.labels_made (Free c.args.argument) (found j)) c.apply_cell.ensures

pub returns-in-None : goal.returns-in-None
returns-in-None c =
    let now = configuration_of c.args.self.now in
    let found = c.in-None.ensures.cell in
    goes_same _ _ _ _ _ (λ j. apply_step now.store now.stack now.labels_made (Free c.args.argument) (found j))
    (stays Stuck c.args.self.now None c.requires.linked tt)
