use Rattle.cc_program.proofs.SoundJobs.{every_job_is_sound}
use Rattle.cc_program.proofs.job_laws.every_job_is_sound.Goals as goal

pub returns : goal.returns
returns c = every_job_is_sound
