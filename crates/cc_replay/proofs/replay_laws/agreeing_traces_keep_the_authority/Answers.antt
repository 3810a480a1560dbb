use Rattle.cc_replay.proofs.SafeTraces.{agreeing_traces_keep_the_authority}
use Rattle.cc_replay.proofs.replay_laws.agreeing_traces_keep_the_authority.Goals as goal

pub returns : goal.returns
returns c = agreeing_traces_keep_the_authority
