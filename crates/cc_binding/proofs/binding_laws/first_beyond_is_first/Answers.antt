use Rattle.cc_binding.proofs.FirstBeyond.{first_beyond_is_first}
use Rattle.cc_binding.proofs.binding_laws.first_beyond_is_first.Goals as goal

pub returns : goal.returns
returns c = first_beyond_is_first
