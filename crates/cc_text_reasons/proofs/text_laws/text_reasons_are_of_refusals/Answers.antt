use Rattle.cc_text_reasons.proofs.RefusedTexts.{text_reasons_are_of_refusals}
use Rattle.cc_text_reasons.proofs.text_laws.text_reasons_are_of_refusals.Goals as goal

pub returns : goal.returns
returns c = text_reasons_are_of_refusals
