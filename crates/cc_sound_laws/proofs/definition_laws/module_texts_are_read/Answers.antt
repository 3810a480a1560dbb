use Rattle.cc_sound_laws.proofs.DefinedLaws.{texts_are_read}
use Rattle.cc_sound_laws.proofs.definition_laws.module_texts_are_read.Goals as goal

pub returns : goal.returns
returns c = texts_are_read
