use Rattle.cc_worked_texts.proofs.WorkedGrammarLevels as worked
use Rattle.cc_worked_texts.proofs.grammar_levels.levels_of_operands.Goals as goal

pub returns : goal.returns
returns c = worked.levels_of_operands
