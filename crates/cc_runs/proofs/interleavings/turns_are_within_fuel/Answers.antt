use Rattle.cc_runs.proofs.Turns.{turns_are_within_fuel}
use Rattle.cc_runs.proofs.interleavings.turns_are_within_fuel.Goals as goal

pub returns : goal.returns
returns c = turns_are_within_fuel
