use Rattle.cc_worked_texts.proofs.WorkedShapeSizes as worked
use Rattle.cc_worked_texts.proofs.shape_sizes.types.Goals as goal

pub returns : goal.returns
returns c = worked.types
