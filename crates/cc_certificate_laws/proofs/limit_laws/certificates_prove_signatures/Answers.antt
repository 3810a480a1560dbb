use Rattle.cc_certificate_laws.proofs.FoundSignatures.{right_prove, present_prove, named_prove}
use Rattle.cc_certificate_laws.proofs.limit_laws.certificates_prove_signatures.Goals as goal

pub returns : goal.returns
returns c = record { right = right_prove; present = present_prove; named = named_prove }
