use Rattle.cc_worked_conversations.proofs.WorkedQuestions.{questions_are_answered, bad_questions_end_it, questions_end_declarations}
use Rattle.cc_worked_conversations.proofs.questions.questions_are_answered.Goals as goal

pub returns : goal.returns
returns c = record { answers = questions_are_answered; bad = bad_questions_end_it; declarations = questions_end_declarations }
