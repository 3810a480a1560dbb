use Rattle.cc_entry_laws.proofs.LinkedModules.{linked_modules}
use Rattle.cc_entry_laws.proofs.entry_laws.linked_modules_are_in_order.Goals as goal

pub returns : goal.returns
returns c = linked_modules
