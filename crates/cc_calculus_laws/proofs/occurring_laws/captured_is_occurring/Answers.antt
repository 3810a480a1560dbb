use Rattle.cc_calculus_laws.proofs.CapturedOccurrences.{captured_where_it_occurs, closed_over, values_told}
use Rattle.cc_calculus_laws.proofs.occurring_laws.captured_is_occurring.Goals as goal

pub returns : goal.returns
returns c =
    record {
      captured = captured_where_it_occurs;
      closed_over = closed_over;
      values = values_told;
    }
