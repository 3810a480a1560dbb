use Rattle.cc_vouching_laws.proofs.SignedNotes.{accepted_signs}
use Rattle.cc_vouching_laws.proofs.completeness_laws.signatures_are_of_what_is_written.Goals as goal

pub returns : goal.returns
returns c = accepted_signs
