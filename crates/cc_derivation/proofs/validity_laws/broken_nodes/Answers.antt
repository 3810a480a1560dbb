use Rattle.cc_derivation.proofs.BrokenNodes.{valid_typings, valid_set_comparisons, valid_shape_comparisons, valid_type_comparisons}
use Rattle.cc_derivation.proofs.RisingNumbers.{numbers_rise}
use Rattle.cc_derivation.proofs.validity_laws.broken_nodes.Goals as goal

pub returns : goal.returns
returns c =
    record {
      typings = valid_typings;
      sets = valid_set_comparisons;
      shapes = valid_shape_comparisons;
      types = valid_type_comparisons;
      rising = numbers_rise;
    }
