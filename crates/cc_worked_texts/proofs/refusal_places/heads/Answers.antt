use Rattle.cc_worked_texts.proofs.WorkedRefusalPlaces as worked
use Rattle.cc_worked_texts.proofs.refusal_places.heads.Goals as goal

pub returns : goal.returns
returns c = worked.heads
