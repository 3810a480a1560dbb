use Rattle.std.proofs.Common.{subst}
use Rattle.cc_mnf.specs.ElaboratedModules.{device_names}
use Rattle.cc_parse.specs.Trees.{module_syntax}
use Rattle.cc_elaboration_reasoning.specs.Answers.{Meets}
use Rattle.cc_elaboration_reasoning.proofs.FoundFirst.{first_refusal_is_found}
use Rattle.cc_elaboration_reasoning.proofs.modules.first_refusal.Goals as goal

pub returns : goal.returns
returns c =
    c.found_refusal.ensures _
    (subst (Meets c.walk.result) (first_refusal_is_found (device_names c.args.devices.now) (module_syntax c.args.module.now)) c.walk.ensures)
