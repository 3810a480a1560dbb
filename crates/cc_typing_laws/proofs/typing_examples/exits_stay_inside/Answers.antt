use Rattle.cc_typing_laws.proofs.WorkedExamples.{exits_do_not_leave, boxes_do_not_hide_exits}
use Rattle.cc_typing_laws.proofs.typing_examples.exits_stay_inside.Goals as goal

pub returns : goal.returns
returns c =
    record {
      bare = exits_do_not_leave;
      boxed = boxes_do_not_hide_exits;
    }
