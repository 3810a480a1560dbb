use Rattle.std.proofs.Common.{◌∙◌}
use Rattle.cc_certificate_reading.proofs.Positions.{position_spelled}
use Rattle.cc_certificate_reading.proofs.names.position_of.Goals as goal

pub returns : goal.returns
returns c = c.spelled.ensures ∙ position_spelled c.args.names.now c.args.word.now
