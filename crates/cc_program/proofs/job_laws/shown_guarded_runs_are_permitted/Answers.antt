use Rattle.cc_program.proofs.SoundReplies as law
use Rattle.cc_program.proofs.job_laws.shown_guarded_runs_are_permitted.Goals as goal

pub returns-clause-shown : goal.returns-clause-shown
returns-clause-shown c = law.shown_guarded_runs_are_permitted

pub returns-clause-refused : goal.returns-clause-refused
returns-clause-refused c = law.refused_entries_are_not_permitted
