use Rattle.cc_typing_laws.proofs.Inversions.{applications_invert, type_applications_invert, unboxings_invert, lets_invert, conditionals_invert}
use Rattle.cc_typing_laws.proofs.inversion_laws.inversion_of_terms.Goals as goal

pub returns : goal.returns
returns c =
    record {
      applications = applications_invert;
      type_applications = type_applications_invert;
      unboxings = unboxings_invert;
      lets = lets_invert;
      conditionals = conditionals_invert;
    }
