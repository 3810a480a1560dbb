use Rattle.cc_checking_laws.proofs.CountedTerms.{definitions_counted}
use Rattle.cc_checking_laws.proofs.DerivedDefinitions.{definitions_valid}
use Rattle.cc_checking_laws.proofs.canonical_laws.canonical_derivations.Goals as goal

pub returns : goal.returns
returns c = record { valid = definitions_valid; counted = definitions_counted }
