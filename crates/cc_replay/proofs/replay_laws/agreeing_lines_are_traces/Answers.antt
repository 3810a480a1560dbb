use Rattle.cc_replay.proofs.AgreeingReplays.{agreeing_lines_are_traces}
use Rattle.cc_replay.proofs.replay_laws.agreeing_lines_are_traces.Goals as goal

pub returns : goal.returns
returns c = agreeing_lines_are_traces
