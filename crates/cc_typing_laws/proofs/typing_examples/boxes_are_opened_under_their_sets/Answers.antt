use Rattle.cc_typing_laws.proofs.TypedTerms.{box_opens_under_its_set}
use Rattle.cc_typing_laws.proofs.UntypedTerms.{box_of_cap_is_not_opened}
use Rattle.cc_typing_laws.proofs.typing_examples.boxes_are_opened_under_their_sets.Goals as goal

pub returns : goal.returns
returns c =
    record {
      opened = box_opens_under_its_set;
      of_cap = box_of_cap_is_not_opened;
    }
