use Rattle.cc_program.proofs.ReplyPairs as law
use Rattle.cc_program.proofs.reply_laws.replays_compare_traces.Goals as goal

pub returns-clause-entries : goal.returns-clause-entries
returns-clause-entries c = law.replays_have_entries

pub returns-clause-traces : goal.returns-clause-traces
returns-clause-traces c = law.replays_compare_traces

pub returns-clause-guarded : goal.returns-clause-guarded
returns-clause-guarded c = law.shown_guarded_runs_are_replayed
