use Rattle.cc_known.proofs.FilledAlike.{holes_are_counted, agreeing_fillings_fill_alike, lists_fill_alike}
use Rattle.cc_type.proofs.keeping_laws.filled_holes.Goals as goal

pub returns : goal.returns
returns c =
    record { counted = holes_are_counted; agreeing = agreeing_fillings_fill_alike; lists = lists_fill_alike }
