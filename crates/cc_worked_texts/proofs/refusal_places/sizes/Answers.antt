use Rattle.cc_worked_texts.proofs.WorkedRefusalPlaces as worked
use Rattle.cc_worked_texts.proofs.refusal_places.sizes.Goals as goal

pub returns : goal.returns
returns c = worked.sizes
