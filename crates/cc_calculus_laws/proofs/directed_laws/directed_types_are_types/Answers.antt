use Rattle.cc_calculus_laws.proofs.DirectedTyping.{directed_typed}
use Rattle.cc_calculus_laws.proofs.directed_laws.directed_types_are_types.Goals as goal

pub returns : goal.returns
returns c = record { typed = directed_typed }
