use Rattle.cc_checking_laws.proofs.OneVerdict.{one_verdict, refused_is_final}
use Rattle.cc_checking_laws.proofs.AlikeSignatures.{refused_has_no_type}
use Rattle.cc_checking_laws.proofs.FitDemands.{asked_is_fit, failed_demands_are_final}
use Rattle.cc_checking_laws.proofs.checking_laws.verdicts.Goals as goal

pub returns : goal.returns
returns c =
    record {
      unique = one_verdict;
      refused = refused_is_final;
      fit = asked_is_fit;
      failed = failed_demands_are_final;
      no_type = refused_has_no_type;
    }
