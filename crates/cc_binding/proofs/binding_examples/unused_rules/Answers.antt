use Rattle.cc_binding.proofs.WorkedBinding.{unused_rules_are_numbered}
use Rattle.cc_binding.proofs.binding_examples.unused_rules.Goals as goal

pub returns : goal.returns
returns c = unused_rules_are_numbered
