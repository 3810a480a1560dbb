use Rattle.cc_typing_laws.proofs.Endings.{comparison_ends, comparison_enough, type_comparison_ends}
use Rattle.cc_typing_laws.proofs.subtyping_laws.comparison_ends.Goals as goal

pub returns : goal.returns
returns c =
    record {
      shapes = comparison_ends;
      steps = comparison_enough;
      types = type_comparison_ends;
    }
