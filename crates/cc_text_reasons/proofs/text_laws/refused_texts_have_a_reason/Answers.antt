use Rattle.cc_text_reasons.proofs.RefusedTexts.{refused_texts_have_a_reason}
use Rattle.cc_text_reasons.proofs.text_laws.refused_texts_have_a_reason.Goals as goal

pub returns : goal.returns
returns c = refused_texts_have_a_reason
