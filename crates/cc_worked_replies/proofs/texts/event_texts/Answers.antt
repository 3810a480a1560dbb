use Rattle.cc_worked_replies.proofs.WorkedShownTexts as worked
use Rattle.cc_worked_replies.proofs.texts.event_texts.Goals as goal

pub returns : goal.returns
returns c = worked.event_texts
