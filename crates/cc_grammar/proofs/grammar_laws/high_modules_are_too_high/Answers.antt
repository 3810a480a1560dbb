use Rattle.cc_grammar.proofs.grammar_laws.high_modules_are_too_high.Goals as goal
use Rattle.cc_grammar.proofs.Readings.{high_modules_are_too_high}

pub returns : goal.returns
returns c = high_modules_are_too_high
