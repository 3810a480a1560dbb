use Rattle.cc_core.specs.TermViews.{type_of}
use Rattle.cc_core.proofs.OccurrenceTests.{decided_type, position-decides}
use Rattle.cc_validity.proofs.SameAnswers.{same_answers}
use Rattle.cc_validity.proofs.side.names.Goals as goal

pub returns : goal.returns
returns c = same_answers _ _ c.occurs_in_type.ensures (decided_type _ _ (position-decides c.args.position) 0 (type_of c.args.ty.now))
