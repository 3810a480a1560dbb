use Rattle.cc_worked_texts.proofs.WorkedGrammarVerdicts as worked
use Rattle.cc_worked_texts.proofs.grammar_verdicts.operators.Goals as goal

pub returns : goal.returns
returns c = worked.operators
