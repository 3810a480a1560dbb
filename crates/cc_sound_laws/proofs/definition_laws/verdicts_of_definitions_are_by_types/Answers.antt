use Rattle.cc_sound_laws.proofs.DefinedLaws.{accepted_are_by_types, refused_have_none}
use Rattle.cc_sound_laws.proofs.definition_laws.verdicts_of_definitions_are_by_types.Goals as goal

pub returns : goal.returns
returns c = record { accepted = accepted_are_by_types; refused = refused_have_none }
