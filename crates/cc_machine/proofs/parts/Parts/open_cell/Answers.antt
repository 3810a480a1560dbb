use Rattle.std.proofs.Common.{Some, ap, subst}
use Rattle.cc_runs.specs.Machine.{unbox_step}
use Rattle.cc_machine.specs.Operands.{HoldsFreeContent}
use Rattle.cc_machine.specs.Parts.{cell_in, configuration_of}
use Rattle.cc_machine.proofs.Following.{goes_same}
use Rattle.cc_machine.proofs.parts.Parts.open_cell.Goals as goal

pub open_node-requires-clause-content : goal.open_node-requires-clause-content
open_node-requires-clause-content c =
    subst (λ x. HoldsFreeContent (Some (cell_in c.args.self.now.links.items x))) c.in-Code.is c.requires.content

pub returns-in-Code : goal.returns-in-Code
returns-in-Code c =
    let now = configuration_of c.args.self.now in
    goes_same _ _ _ _ _
    (ap (λ x. unbox_step now.store now.stack now.labels_made (Some (cell_in c.args.self.now.links.items x))) c.in-Code.is)
    c.open_node.ensures
