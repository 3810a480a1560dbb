use Rattle.std.proofs.Common.{rules}
use Rattle.std.proofs.lemmas.Int.{wraps}
use Rattle.cc_machine.proofs.choices.difference.Goals as goal

pub returns : goal.returns
returns c = search (rules, wraps)
