use Rattle.std.proofs.Common.{rules}
use Rattle.std.proofs.lemmas.Int.{wraps}
use Rattle.cc_device.proofs.states.count.Goals as goal

pub returns-in-Counter : goal.returns-in-Counter
returns-in-Counter c = search (rules, wraps)
