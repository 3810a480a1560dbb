use Rattle.cc_worked_replies.proofs.WorkedCommands as worked
use Rattle.cc_worked_replies.proofs.commands.modules_are_checked.Goals as goal

pub returns : goal.returns
returns c =
    record {
      five = worked.five_modules_are_checked;
      three = worked.three_modules_are_checked;
    }
