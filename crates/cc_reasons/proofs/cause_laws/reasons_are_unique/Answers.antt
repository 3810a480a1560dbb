use Rattle.cc_reasons.proofs.OneReason.{reasons_are_unique}
use Rattle.cc_reasons.proofs.cause_laws.reasons_are_unique.Goals as goal

pub returns : goal.returns
returns c = reasons_are_unique
