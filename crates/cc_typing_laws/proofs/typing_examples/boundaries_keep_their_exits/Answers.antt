use Rattle.cc_typing_laws.proofs.TypedTerms.{exits_inside_are_typed}
use Rattle.cc_typing_laws.proofs.UntypedTerms.{functions_do_not_take_exits_out, boxes_do_not_take_exits_out}
use Rattle.cc_typing_laws.proofs.typing_examples.boundaries_keep_their_exits.Goals as goal

pub returns : goal.returns
returns c =
    record {
      inside = exits_inside_are_typed;
      bare = functions_do_not_take_exits_out;
      boxed = boxes_do_not_take_exits_out;
    }
