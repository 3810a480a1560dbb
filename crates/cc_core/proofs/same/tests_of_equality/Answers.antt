use Rattle.cc_core.proofs.Comparisons.{same_shape-decides, same_type-decides}
use Rattle.cc_core.proofs.same.tests_of_equality.Goals as goal

pub returns-clause-shapes : goal.returns-clause-shapes
returns-clause-shapes c = same_shape-decides

pub returns-clause-types : goal.returns-clause-types
returns-clause-types c = same_type-decides
