use Rattle.cc_program.proofs.SoundReplies.{explained_signatures}
use Rattle.cc_program.proofs.job_laws.explained_signatures_are_explained.Goals as goal

pub returns : goal.returns
returns c = explained_signatures
