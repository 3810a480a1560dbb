use Rattle.cc_sound_laws.proofs.SoundTexts.{verdicts_are_by_types}
use Rattle.cc_sound_laws.proofs.text_laws.verdicts_are_by_types.Goals as goal

pub returns : goal.returns
returns c = verdicts_are_by_types
