use Rattle.cc_mnf.proofs.ElaboratedDefinitions as proved
use Rattle.cc_mnf.proofs.ElaboratedHoles.{holes_are_of_parameters}
use Rattle.cc_mnf.proofs.elaboration_laws.definitions.Goals as goal

pub returns : goal.returns
returns c =
    record {
      formed = proved.definitions_are_well_formed;
      values = proved.right_sides_are_values;
      holes = holes_are_of_parameters;
      in_order = proved.definitions_are_in_order;
    }
