use Rattle.cc_program.proofs.SoundReplies.{every_output_is_sound}
use Rattle.cc_program.proofs.job_laws.every_output_is_sound.Goals as goal

pub returns : goal.returns
returns c = every_output_is_sound
