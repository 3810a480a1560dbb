use Rattle.cc_checking_laws.proofs.WorkedSignatures.{counting_down_is_accepted, counting_from_three_is_accepted, printing_for_ever_is_accepted}
use Rattle.cc_checking_laws.proofs.WorkedVerdicts.{own_names_are_no_globals}
use Rattle.cc_checking_laws.proofs.example_verdicts.accepted_recursive.Goals as goal

pub returns : goal.returns
returns c =
    record {
      pure = counting_down_is_accepted;
      after = counting_from_three_is_accepted;
      printing = printing_for_ever_is_accepted;
      own = own_names_are_no_globals;
    }
