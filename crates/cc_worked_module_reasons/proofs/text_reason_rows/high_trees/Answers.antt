use Rattle.cc_worked_module_reasons.proofs.WorkedTextReasons.{high_trees}
use Rattle.cc_worked_module_reasons.proofs.text_reason_rows.high_trees.Goals as goal

pub returns : goal.returns
returns c = high_trees
