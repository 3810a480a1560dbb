use Rattle.cc_binding.proofs.WorkedBinding.{named_in_texts, named_by_the_imported_module, named_in_each_part, not_named}
use Rattle.cc_binding.proofs.binding_examples.named_devices.Goals as goal

pub returns : goal.returns
returns c = record {
  texts = named_in_texts;
  imports = named_by_the_imported_module;
  parts = named_in_each_part;
  others = not_named;
}
