use Rattle.std.proofs.Common.{sym, ◌∙◌}
use Rattle.std.specs.Str.{bytes_eq}
use Rattle.cc_elaboration_reasoning.proofs.SeenNames.{no_position}
use Rattle.cc_elaboration_reasoning.proofs.modules.new_name.Goals as goal

pub returns-in-None-clause-new : goal.returns-in-None-clause-new
returns-in-None-clause-new c = no_position (bytes_eq c.args.name.now) c.args.names.now (sym c.in_ok-index.ensures ∙ c.in-None.is)
