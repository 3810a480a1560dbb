use Rattle.cc_calculus_laws.proofs.LeastAvoiding.{least_supertype, greatest_subtype}
use Rattle.cc_calculus_laws.proofs.NotLeast.{not_least}
use Rattle.cc_calculus_laws.proofs.least_laws.avoiding_is_least.Goals as goal

pub returns : goal.returns
returns c =
    record {
      positive = least_supertype;
      negative = greatest_subtype;
      not_on_both_sides = not_least;
    }
