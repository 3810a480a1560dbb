use Rattle.std.proofs.Common.{◌∙◌}
use Rattle.cc_lex.proofs.NumberTexts.{number_of-parsed}
use Rattle.cc_lex.proofs.kind.number_of.Goals as goal

pub returns : goal.returns
returns c = c.ok.ensures.value ∙ number_of-parsed c.args.text.now c.parse.result c.utf8.text c.requires c.parse.ensures.value.0
