use Rattle.cc_sound_laws.proofs.SoundTexts.{present_texts_are_sound}
use Rattle.cc_sound_laws.proofs.text_laws.present_texts_are_sound.Goals as goal

pub returns : goal.returns
returns c = present_texts_are_sound
