use Rattle.cc_typing_laws.proofs.UntypedTerms.{notes_are_heeded}
use Rattle.cc_typing_laws.proofs.typing_examples.notes_are_heeded.Goals as goal

pub returns : goal.returns
returns c = notes_are_heeded
