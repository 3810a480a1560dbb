use Rattle.cc_grammar.proofs.InnermostSets.{sets_belong_to_innermost_types}
use Rattle.cc_grammar.proofs.grammar_laws.sets_belong_to_innermost_types.Goals as goal

pub returns : goal.returns
returns c = sets_belong_to_innermost_types
