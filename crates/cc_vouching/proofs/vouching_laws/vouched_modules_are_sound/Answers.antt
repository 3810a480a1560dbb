use Rattle.cc_vouching.proofs.SoundModules.{vouched_modules_sound}
use Rattle.cc_vouching.proofs.vouching_laws.vouched_modules_are_sound.Goals as goal

pub returns : goal.returns
returns c = vouched_modules_sound
