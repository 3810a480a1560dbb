use Rattle.cc_typing_laws.proofs.TypingTheorems as theorem
use Rattle.cc_typing_laws.proofs.typing_laws.values_capture_their_sets.Goals as goal

pub returns : goal.returns
returns c = theorem.values_capture_their_sets
