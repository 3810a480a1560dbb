use Rattle.cc_worked_replies.proofs.WorkedCommands as worked
use Rattle.cc_worked_replies.proofs.commands.commands_are_told.Goals as goal

pub returns : goal.returns
returns c = worked.commands_are_told
