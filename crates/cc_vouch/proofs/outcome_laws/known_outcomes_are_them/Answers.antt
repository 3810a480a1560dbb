use Rattle.cc_vouch.proofs.StandingOutcomes as standing
use Rattle.cc_vouch.proofs.outcome_laws.known_outcomes_are_them.Goals as goal

pub returns : goal.returns
returns c = standing.known_outcomes_are_them
