use Rattle.cc_sound_laws.proofs.DefinedLaws.{defined_where_directed, defined_are_typed}
use Rattle.cc_sound_laws.proofs.definition_laws.defined_definitions_are_typed.Goals as goal

pub returns : goal.returns
returns c = record { directed = defined_where_directed; typed = defined_are_typed }
