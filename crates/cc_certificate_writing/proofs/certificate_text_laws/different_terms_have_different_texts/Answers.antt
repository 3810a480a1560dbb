use Rattle.cc_certificate_writing.proofs.TermTextLaws.{different_terms}
use Rattle.cc_certificate_writing.proofs.certificate_text_laws.different_terms_have_different_texts.Goals as goal

pub returns : goal.returns
returns c = different_terms
