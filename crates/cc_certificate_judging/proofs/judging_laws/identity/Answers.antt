use Rattle.cc_certificate_judging.proofs.WorkedCertificates.{nodes_of_the_identity, identity_is_whole, type_without_the_local, another_number_of_the_binder}
use Rattle.cc_certificate_judging.proofs.judging_laws.identity.Goals as goal

pub returns : goal.returns
returns c = record { nodes = nodes_of_the_identity; whole = identity_is_whole; changed = type_without_the_local; renumbered = another_number_of_the_binder }
