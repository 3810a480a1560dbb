use Rattle.cc_typing_laws.proofs.ExposingShapes.{exposing_follows, no_variable_left, others_stay, exposed_above}
use Rattle.cc_typing_laws.proofs.exposing_laws.exposing_follows_bounds.Goals as goal

pub returns : goal.returns
returns c =
    record {
      bounds = exposing_follows;
      no_variable = no_variable_left;
      others = others_stay;
      above = exposed_above;
    }
