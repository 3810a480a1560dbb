use Rattle.cc_typing_laws.proofs.AvoidingPlaces.{refused, avoided_is_gone, nothing_to_avoid}
use Rattle.cc_typing_laws.proofs.avoidance_laws.avoiding_removes_the_position.Goals as goal

pub returns : goal.returns
returns c =
    record {
      refused = refused;
      gone = avoided_is_gone;
      nothing = nothing_to_avoid;
    }
