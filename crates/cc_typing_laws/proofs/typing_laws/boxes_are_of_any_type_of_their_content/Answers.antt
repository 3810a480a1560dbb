use Rattle.cc_typing_laws.proofs.TypingTheorems.{boxes_are_of_any_type_of_their_content}
use Rattle.cc_typing_laws.proofs.typing_laws.boxes_are_of_any_type_of_their_content.Goals as goal

pub returns : goal.returns
returns c = boxes_are_of_any_type_of_their_content
