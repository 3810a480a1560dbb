use Rattle.std.proofs.Common.{sym, ap, ◌∙◌}
use Rattle.cc_binding.specs.Binding.{is_of_declared}
use Rattle.cc_hosting.proofs.texts.is_of_declared.Goals as goal

pub returns-in-Some : goal.returns-in-Some
returns-in-Some c = c.is_among.ensures ∙ ap (is_of_declared c.args.names.now) (sym c.in-Some.is)
