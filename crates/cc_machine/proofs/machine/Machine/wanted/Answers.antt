use Rattle.cc_machine.specs.Machines.{held_by}
use Rattle.cc_machine.proofs.GivenAnswers.{asks_alike}
use Rattle.cc_machine.proofs.machine.Machine.wanted.Goals as goal

pub returns-clause-alike : goal.returns-clause-alike
returns-clause-alike c = asks_alike (held_by c.args.self.now) c.wanted.ensures
