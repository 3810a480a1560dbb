use Rattle.cc_sets.proofs.Markings.{marks_free, marks_bound}
use Rattle.cc_sets.proofs.subcapturing.mark_variable.Goals as goal

pub returns-in-Free : goal.returns-in-Free
returns-in-Free c = marks_free c.args.variable c.in-Free.position c.args.marks.now c.mark.new.self c.in-Free.is c.requires c.mark.ensures

pub returns-in-Bound : goal.returns-in-Bound
returns-in-Bound c = marks_bound c.args.variable c.in-Bound.field-0 c.args.marks.now c.in-Bound.is
