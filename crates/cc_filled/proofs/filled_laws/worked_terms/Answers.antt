use Rattle.cc_filled.proofs.WorkedFillings.{filled_in, not_filled_in}
use Rattle.cc_filled.proofs.filled_laws.worked_terms.Goals as goal

pub returns-clause-filled : goal.returns-clause-filled
returns-clause-filled c = filled_in

pub returns-clause-others : goal.returns-clause-others
returns-clause-others c = not_filled_in
