use Rattle.std.proofs.Common.{map}
use Rattle.cc_module.specs.Findings.{finding_of}
use Rattle.cc_module.proofs.JudgedTrees.{answered_sound}
use Rattle.cc_module.proofs.judging.check_read.Goals as goal

pub returns-clause-sound : goal.returns-clause-sound
returns-clause-sound g c =
    answered_sound c.args.devices.now c.args.text.now (map finding_of c.args.findings.now) c.judge.result c.requires.names
    c.requires.fit c.judge.ensures
