use Rattle.cc_typing_laws.proofs.ComparisonLemmas.{comparison_more, demands_unique, demands_or_mismatch, mismatch_not_below}
use Rattle.cc_typing_laws.proofs.subtyping_laws.comparison_has_one_answer.Goals as goal

pub returns : goal.returns
returns c =
    record {
      steps = comparison_more;
      demands = demands_unique;
      mismatch = demands_or_mismatch;
      not_below = mismatch_not_below;
    }
