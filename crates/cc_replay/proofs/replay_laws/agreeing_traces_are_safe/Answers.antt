use Rattle.cc_replay.proofs.SafeTraces.{agreeing_traces_are_safe}
use Rattle.cc_replay.proofs.replay_laws.agreeing_traces_are_safe.Goals as goal

pub returns : goal.returns
returns c = agreeing_traces_are_safe
