use Rattle.cc_certificate_laws.proofs.LowDefinitions.{accepted_low, heights_kept, literals_kept, signatures_low}
use Rattle.cc_certificate_laws.proofs.limit_laws.accepted_definitions_are_low.Goals as goal

pub returns : goal.returns
returns c = record { low = accepted_low; heights = heights_kept; literals = literals_kept; signatures = signatures_low }
