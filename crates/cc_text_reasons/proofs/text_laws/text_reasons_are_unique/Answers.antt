use Rattle.cc_text_reasons.proofs.RefusedTexts.{text_reasons_are_unique}
use Rattle.cc_text_reasons.proofs.text_laws.text_reasons_are_unique.Goals as goal

pub returns : goal.returns
returns c = text_reasons_are_unique
