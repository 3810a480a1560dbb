use Rattle.cc_worked_texts.proofs.WorkedGrammarVerdicts as worked
use Rattle.cc_worked_texts.proofs.grammar_verdicts.sets.Goals as goal

pub returns : goal.returns
returns c = worked.sets
