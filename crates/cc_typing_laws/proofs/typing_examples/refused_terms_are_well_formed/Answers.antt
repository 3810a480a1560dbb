use Rattle.cc_typing_laws.proofs.UntypedTerms.{refused_terms_are_well_formed}
use Rattle.cc_typing_laws.proofs.typing_examples.refused_terms_are_well_formed.Goals as goal

pub returns : goal.returns
returns c = refused_terms_are_well_formed
