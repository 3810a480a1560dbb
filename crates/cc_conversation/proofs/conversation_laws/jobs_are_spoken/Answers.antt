use Rattle.cc_conversation.proofs.SpokenJobs.{jobs_are_spoken, resting_lines_are_a_job}
use Rattle.cc_conversation.proofs.conversation_laws.jobs_are_spoken.Goals as goal

pub returns : goal.returns
returns c = record { jobs = jobs_are_spoken; others = resting_lines_are_a_job }
