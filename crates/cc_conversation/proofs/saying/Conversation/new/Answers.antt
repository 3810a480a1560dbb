use Rattle.std.proofs.Common.{◌≤◌, length, sym, ap, ◌∙◌, subst}
use Rattle.cc_answers.proofs.Answering.{none_present}
use Rattle.cc_conversation.proofs.saying.Conversation.new.Goals as goal
use Rattle.cc_mnf.specs.ElaboratedModules.{device_names}
use Rattle.cc_verdicts.specs.ModuleLaws.{NamesOfDevicesDiffer}
use Rattle.cc_verdicts.specs.PresentTexts.{ArePresent}

pub returns-clause-under_way : goal.returns-clause-under_way
returns-clause-under_way c = record {
  differ = subst NamesOfDevicesDiffer (sym c.new.ensures.devices) c.requires.1;
  few = subst (λ d. length d ≤ 16) (sym c.new.ensures.devices) c.requires.0;
  present = subst ArePresent (sym c.new.ensures.present) none_present;
  kept = c.nothing.ensures c.new.result.devices c.new.result.present;
  names = c.in_ok-names.ensures.names ∙ ap device_names (c.as_slice.ensures.value ∙ sym c.new.ensures.devices);
  locals = c.in_ok-names.ensures.locals;
}
