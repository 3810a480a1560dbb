use Rattle.std.proofs.Common.{sym, ◌∙◌}
use Rattle.std.specs.Str.{bytes_eq}
use Rattle.cc_mnf.specs.Scopes.{binds_term}
use Rattle.cc_elaboration_reasoning.specs.ScopeViews.{binders_in, names_in}
use Rattle.cc_elaboration_reasoning.proofs.SeenNames.{some_variable}
use Rattle.cc_elaboration_reasoning.proofs.scope.sees_term.Goals as goal

pub returns : goal.returns
returns c =
    c.finds_term.ensures
    ∙ sym (some_variable (binds_term c.args.name.now) (binders_in c.args.scope.now) (bytes_eq c.args.name.now) (names_in c.args.scope.now))
