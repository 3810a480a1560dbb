use Rattle.cc_known.proofs.KeptLists.{kept_is_not_settled, what_may_force_is_kept, one_lost_is_enough}
use Rattle.cc_known.proofs.KeptLists.{one_is_kept_without_holes, kept_of_both}
use Rattle.cc_type.proofs.keeping_laws.kept_alone.Goals as goal

pub returns : goal.returns
returns c =
    record {
      not_settled = kept_is_not_settled;
      may_force = what_may_force_is_kept;
      one_lost = one_lost_is_enough;
      one = one_is_kept_without_holes;
      of_both = kept_of_both;
    }
