use Rattle.cc_runs.proofs.StoreTheorems.{values_have_their_types, cells_hold_their_shapes, declared_sets_reach, sets_reach_what_is_below}
use Rattle.cc_runs.proofs.RunTheorems.{fitting_is_by_shapes}
use Rattle.cc_runs.proofs.soundness.stores_hold_what_they_say.Goals as goal

pub returns : goal.returns
returns c =
    record {
      holds = cells_hold_their_shapes;
      types = values_have_their_types;
      declared = declared_sets_reach;
      below = sets_reach_what_is_below;
      fitting = fitting_is_by_shapes;
    }
