use Rattle.cc_binding.proofs.WorkedBinding.{rules_bind, the_first_is_found}
use Rattle.cc_binding.proofs.binding_examples.modules_beyond_rules.Goals as goal

pub returns : goal.returns
returns c = record {
  rules = rules_bind;
  first = the_first_is_found;
}
