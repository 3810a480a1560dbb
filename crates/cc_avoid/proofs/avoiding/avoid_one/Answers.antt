use Rattle.std.proofs.Common.{◌∙◌}
use Rattle.cc_core.specs.TermViews.{type_of}
use Rattle.cc_avoid.proofs.AvoidedTogether.{one_avoided}
use Rattle.cc_avoid.proofs.avoiding.avoid_one.Goals as goal

pub returns : goal.returns
returns c = c.in_ok-found.ensures ∙ one_avoided c.args.position c.args.declared.now (type_of c.args.ty.now)
