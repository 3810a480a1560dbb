use Rattle.cc_type.proofs.AvoidedGreatest.{signature_of_devices_alone, signature_avoids_the_greatest}
use Rattle.cc_type.proofs.AvoidedGreatest.{greatest_position_falls}
use Rattle.cc_type.proofs.keeping_laws.signatures.Goals as goal

pub returns : goal.returns
returns c =
    record {
      over_devices = signature_of_devices_alone;
      avoids = signature_avoids_the_greatest;
      falls = greatest_position_falls;
    }
