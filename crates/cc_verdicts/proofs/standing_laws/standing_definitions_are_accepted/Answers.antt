use Rattle.cc_verdicts.proofs.PlacedDefinitions.{standing_accepted}
use Rattle.cc_verdicts.proofs.standing_laws.standing_definitions_are_accepted.Goals as goal

pub returns : goal.returns
returns c = standing_accepted
