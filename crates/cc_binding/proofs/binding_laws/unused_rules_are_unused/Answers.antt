use Rattle.cc_binding.proofs.UnusedRules.{unused_rules_are_unused, unused_rules_rise}
use Rattle.cc_binding.proofs.binding_laws.unused_rules_are_unused.Goals as goal

pub returns : goal.returns
returns c = record {
  unused = unused_rules_are_unused;
  rise = unused_rules_rise;
}
