use Rattle.cc_typing_laws.proofs.WorkedExamples.{printing_is_not_pure, printing_with_its_set}
use Rattle.cc_typing_laws.proofs.typing_examples.a_function_has_its_set.Goals as goal

pub returns : goal.returns
returns c =
    record {
      not_pure = printing_is_not_pure;
      with_its_set = printing_with_its_set;
    }
