use Rattle.cc_checking_laws.proofs.CheckedDefinitions.{accepted_sound}
use Rattle.cc_checking_laws.proofs.SignedSets.{signature_sets}
use Rattle.cc_checking_laws.proofs.checking_laws.accepted_definitions.Goals as goal

pub returns : goal.returns
returns c =
    record {
      typed = λ devices globals definition accepted fits verdict. (accepted_sound devices globals definition accepted fits verdict).types;
      over_devices =
          λ devices globals definition accepted fits verdict.
          let s = accepted_sound devices globals definition accepted fits verdict in (s.over_devices, s.signature_closed);
      no_hole =
          λ devices globals definition accepted fits verdict.
          let s = accepted_sound devices globals definition accepted fits verdict in (s.term_closed, s.type_closed);
      sets = signature_sets;
    }
