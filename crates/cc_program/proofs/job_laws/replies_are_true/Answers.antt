use Rattle.cc_program.proofs.TrueReplies.{replies_are_true}
use Rattle.cc_program.proofs.job_laws.replies_are_true.Goals as goal

pub returns : goal.returns
returns c = replies_are_true
