use Rattle.cc_captured_reasons.proofs.FilledDemands.{filled_demands_are_scenes}
use Rattle.cc_captured_reasons.proofs.chain_laws.filled_demands_are_scenes.Goals as goal

pub returns : goal.returns
returns c = filled_demands_are_scenes
