use Rattle.cc_typing_laws.proofs.Avoiding.{positive_above, negative_below}
use Rattle.cc_typing_laws.proofs.avoidance_laws.avoiding_is_sound.Goals as goal

pub returns : goal.returns
returns c =
    record {
      positive = positive_above;
      negative = negative_below;
    }
