use Rattle.std.proofs.Common.{None, ap, subst}
use Rattle.cc_runs.specs.Machine.{Stuck, unbox_step}
use Rattle.cc_machine.specs.Operands.{HoldsFreeContent}
use Rattle.cc_machine.specs.Parts.{configuration_of}
use Rattle.cc_machine.proofs.Following.{goes_same, stays}
use Rattle.cc_machine.proofs.parts.Parts.open.Goals as goal

pub open_cell-requires-clause-content : goal.open_cell-requires-clause-content
open_cell-requires-clause-content c =
    subst HoldsFreeContent
    c.in-Some.ensures.cell
    c.requires.content

pub returns-in-Some : goal.returns-in-Some
returns-in-Some c =
    let now = configuration_of c.args.self.now in
    goes_same _ _ _ _ _
    (ap (unbox_step now.store now.stack now.labels_made)
    c.in-Some.ensures.cell)
    c.open_cell.ensures

pub returns-in-None : goal.returns-in-None
returns-in-None c =
    let now = configuration_of c.args.self.now in
    goes_same _ _ _ _ _
    (ap (unbox_step now.store now.stack now.labels_made)
    c.in-None.ensures.cell)
    (stays Stuck c.args.self.now None c.requires.linked tt)
