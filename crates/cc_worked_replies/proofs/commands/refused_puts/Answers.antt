use Rattle.cc_worked_replies.proofs.WorkedCommands as worked
use Rattle.cc_worked_replies.proofs.commands.refused_puts.Goals as goal

pub returns : goal.returns
returns c =
    record {
      first = worked.lengths_are_told_first;
      unseen = worked.refused_puts_are_not_seen;
      nothing = worked.refused_puts_change_nothing;
    }
