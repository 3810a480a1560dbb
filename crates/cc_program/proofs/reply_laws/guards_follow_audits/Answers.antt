use Rattle.cc_program.proofs.ReplyPairs as law
use Rattle.cc_program.proofs.reply_laws.guards_follow_audits.Goals as goal

pub returns-clause-audits : goal.returns-clause-audits
returns-clause-audits c = law.guards_follow_audits

pub returns-clause-runs : goal.returns-clause-runs
returns-clause-runs c = law.guards_show_runs

pub returns-clause-allowed : goal.returns-clause-allowed
returns-clause-allowed c = law.allowed_runs_are_guarded
