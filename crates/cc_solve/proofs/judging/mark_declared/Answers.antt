use Rattle.std.proofs.Common.{Some, subst}
use Rattle.cc_core.specs.TermViews.{bind_of}
use Rattle.cc_checking.specs.Fillings.{filled_entry}
use Rattle.cc_sets.specs.Marking.{HasRoomForEntry}
use Rattle.cc_solve.specs.Solutions.{filling_of}
use Rattle.cc_solve.proofs.judging.mark_declared.Goals as goal

pub mark_filled-requires-in-Unread : goal.mark_filled-requires-in-Unread
mark_filled-requires-in-Unread c =
    subst
    (λ b. HasRoomForEntry c.args.marks.now (Some (filled_entry (filling_of c.args.filling.now) (bind_of b))))
    c.in-Unread.is c.requires
