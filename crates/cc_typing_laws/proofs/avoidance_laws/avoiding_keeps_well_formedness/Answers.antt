use Rattle.cc_typing_laws.proofs.AvoidingPlaces.{well_formedness_kept, scope_left}
use Rattle.cc_typing_laws.proofs.avoidance_laws.avoiding_keeps_well_formedness.Goals as goal

pub returns : goal.returns
returns c =
    record {
      kept = well_formedness_kept;
      scope = scope_left;
    }
