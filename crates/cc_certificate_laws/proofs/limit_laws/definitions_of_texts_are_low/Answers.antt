use Rattle.cc_certificate_laws.proofs.TextDefinitions.{definitions_of_texts_low, imports_of_texts_named}
use Rattle.cc_certificate_laws.proofs.limit_laws.definitions_of_texts_are_low.Goals as goal

pub returns : goal.returns
returns c = record { definitions = definitions_of_texts_low; imports = imports_of_texts_named }
