use Rattle.cc_print.proofs.TypeTextLaws.{different_types}
use Rattle.cc_print.proofs.type_text_laws.different_types_have_different_texts.Goals as goal

pub returns : goal.returns
returns c = different_types
