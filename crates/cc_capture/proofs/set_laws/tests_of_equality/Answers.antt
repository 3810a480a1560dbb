use Rattle.cc_capture.specs.ElementOrder.{same_element-decides}
use Rattle.cc_capture.proofs.Equality.{same_variable-decides, same_set-decides}
use Rattle.cc_capture.proofs.set_laws.tests_of_equality.Goals as goal

pub returns : goal.returns
returns c =
    record {
      variables = same_variable-decides;
      elements = same_element-decides;
      sets = same_set-decides;
    }
