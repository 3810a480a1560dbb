use Rattle.cc_live.proofs.AlikeLives.{alike_live_alike}
use Rattle.cc_live.proofs.live_laws.alike_live_alike.Goals as goal

pub returns : goal.returns
returns c = alike_live_alike
