use Rattle.cc_runs.proofs.LinkedPrograms.{linked_stores_are_typed, definitions_are_linked}
use Rattle.cc_runs.proofs.programs.linked_stores_are_typed.Goals as goal

pub returns : goal.returns
returns c = record { typed = linked_stores_are_typed; linked = definitions_are_linked }
