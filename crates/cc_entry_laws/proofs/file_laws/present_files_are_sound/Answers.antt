use Rattle.cc_entry_laws.proofs.SoundFiles as sound
use Rattle.cc_entry_laws.proofs.file_laws.present_files_are_sound.Goals as goal

pub returns : goal.returns
returns c = sound.present_files_are_sound
