use Rattle.cc_typing_laws.proofs.Inversions.{primitives_invert, repetitions_invert, operations_invert, operations_alone_invert, boundaries_invert, exits_invert}
use Rattle.cc_typing_laws.proofs.inversion_laws.inversion_of_effects.Goals as goal

pub returns : goal.returns
returns c =
    record {
      primitives = primitives_invert;
      repetitions = repetitions_invert;
      operations = operations_invert;
      operations_alone = operations_alone_invert;
      boundaries = boundaries_invert;
      exits = exits_invert;
    }
