use Rattle.cc_worked_replies.proofs.WorkedDerivations as worked
use Rattle.cc_worked_replies.proofs.derivations.large_derivations_are_refused.Goals as goal

pub returns : goal.returns
returns c =
    record {
      small = worked.small_derivations_are_shown;
      large = worked.large_derivations_are_refused;
    }
