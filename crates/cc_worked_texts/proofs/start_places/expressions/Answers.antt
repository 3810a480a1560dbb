use Rattle.cc_worked_texts.proofs.WorkedStartPlaces as worked
use Rattle.cc_worked_texts.proofs.start_places.expressions.Goals as goal

pub returns : goal.returns
returns c = worked.expressions
