use Rattle.cc_known.proofs.EndedLists.{no_ends_known}
use Rattle.cc_known.proofs.known.no_ends.Goals as goal

pub returns : goal.returns
returns c = λ context.
    no_ends_known context _ c.new-left.ensures c.new-upper.ensures c.new-ends.ensures c.new-right.ensures
