use Rattle.cc_filled.proofs.FilledValues.{values_stay}
use Rattle.cc_filled.proofs.filled_laws.values_stay_values.Goals as goal

pub returns : goal.returns
returns c = values_stay
