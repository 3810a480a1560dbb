use Rattle.cc_validity.proofs.IndexedElements.{element_left}
use Rattle.cc_validity.proofs.comparisons.element_at.Goals as goal

pub returns : goal.returns
returns c = element_left c.args.set.now.list c.args.index _ c.get.ensures
