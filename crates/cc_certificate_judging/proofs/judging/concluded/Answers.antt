use Rattle.cc_certificate_judging.proofs.JudgedAnswers.{no_type}
use Rattle.cc_certificate_judging.proofs.judging.concluded.Goals as goal

pub unreachable-requires : goal.unreachable-requires
unreachable-requires c = no_type c.args.der.now.claim c.requires.0 c.in_default.not-Typed c.requires.1
