use Rattle.cc_certificate_writing.proofs.ClaimTextLaws.{different_claims}
use Rattle.cc_certificate_writing.proofs.certificate_text_laws.different_claims_have_different_texts.Goals as goal

pub returns : goal.returns
returns c = different_claims
