use Rattle.cc_job.proofs.RuleCuts.{Reads}
use Rattle.cc_job.proofs.rules.rules_cut.Given as goal

abbrev pub invariant-loop-number : goal.invariant-loop-number
invariant-loop-number l = Reads l.count l.bytes l.number l.rules.items l.rest
