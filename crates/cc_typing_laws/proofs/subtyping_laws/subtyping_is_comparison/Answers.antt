use Rattle.cc_typing_laws.proofs.ComparisonLemmas.{subtyping_compares, subtyping_of_types_compares}
use Rattle.cc_typing_laws.proofs.subtyping_laws.subtyping_is_comparison.Goals as goal

pub returns : goal.returns
returns c =
    record {
      shapes = subtyping_compares;
      types = subtyping_of_types_compares;
    }
