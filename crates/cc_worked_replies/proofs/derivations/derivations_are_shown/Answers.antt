use Rattle.cc_worked_replies.proofs.WorkedDerivations as worked
use Rattle.cc_worked_replies.proofs.derivations.derivations_are_shown.Goals as goal

pub returns : goal.returns
returns c =
    record {
      identity = worked.identity_is_derived;
      call = worked.call_is_derived;
      import = worked.import_is_derived;
    }
