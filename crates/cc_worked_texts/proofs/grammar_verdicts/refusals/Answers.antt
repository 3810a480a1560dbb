use Rattle.cc_worked_texts.proofs.WorkedGrammarVerdicts as worked
use Rattle.cc_worked_texts.proofs.grammar_verdicts.refusals.Goals as goal

pub returns : goal.returns
returns c = worked.refusals
