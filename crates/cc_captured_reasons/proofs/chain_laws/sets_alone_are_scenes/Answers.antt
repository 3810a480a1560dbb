use Rattle.cc_captured_reasons.proofs.SetsCount.{sets_alone_are_scenes}
use Rattle.cc_captured_reasons.proofs.chain_laws.sets_alone_are_scenes.Goals as goal

pub returns : goal.returns
returns c = sets_alone_are_scenes
