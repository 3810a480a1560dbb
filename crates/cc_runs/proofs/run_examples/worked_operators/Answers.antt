use Rattle.cc_runs.proofs.WorkedOperators.{sums_wrap, differences_wrap, products_wrap, comparisons_tell, equality_tells}
use Rattle.cc_runs.proofs.run_examples.worked_operators.Goals as goal

pub returns : goal.returns
returns c =
    record {
      sums = sums_wrap;
      differences = differences_wrap;
      products = products_wrap;
      comparisons = comparisons_tell;
      equality = equality_tells;
    }
