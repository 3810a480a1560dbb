use Rattle.cc_verdicts.proofs.ReadingLaws.{text_has_one_reading}
use Rattle.cc_verdicts.proofs.module_laws.readings_are_unique.Goals as goal

pub returns : goal.returns
returns c = text_has_one_reading
