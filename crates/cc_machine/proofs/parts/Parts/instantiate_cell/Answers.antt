use Rattle.std.proofs.Common.{Some, ap}
use Rattle.cc_core.specs.Shapes.{AnyShape}
use Rattle.cc_runs.specs.Machine.{type_apply_step}
use Rattle.cc_machine.specs.Parts.{cell_in, configuration_of}
use Rattle.cc_machine.proofs.Following.{goes_same}
use Rattle.cc_machine.proofs.parts.Parts.instantiate_cell.Goals as goal

pub returns-in-Code : goal.returns-in-Code
returns-in-Code c =
    let now = configuration_of c.args.self.now in
    goes_same _ _ _ _ _
    (ap (λ x. type_apply_step now.store now.stack now.labels_made AnyShape (Some (cell_in c.args.self.now.links.items x))) c.in-Code.is)
    c.instantiate_node.ensures
