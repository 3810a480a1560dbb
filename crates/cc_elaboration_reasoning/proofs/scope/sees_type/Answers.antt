use Rattle.std.proofs.Common.{sym, ◌∙◌}
use Rattle.cc_mnf.specs.Scopes.{binds_type}
use Rattle.cc_elaboration_reasoning.specs.ScopeViews.{binders_in}
use Rattle.cc_elaboration_reasoning.proofs.SeenNames.{some_bound}
use Rattle.cc_elaboration_reasoning.proofs.scope.sees_type.Goals as goal

pub returns : goal.returns
returns c = c.finds_type.ensures ∙ sym (some_bound (binds_type c.args.name.now) (binders_in c.args.scope.now))
