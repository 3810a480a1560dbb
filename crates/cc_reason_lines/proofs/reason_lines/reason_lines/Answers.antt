use Rattle.std.proofs.Common.{map, IfOk, sym, subst}
use Rattle.cc_labels.specs.LabelledLines.{line_of}
use Rattle.cc_reasons.specs.ReasonTexts.{AreLines}
use Rattle.cc_definition_reasoning.specs.declared.reason.DefinitionReason.{DefinitionReason}
use Rattle.cc_definition_reasoning.specs.Reasons.{reason_of}
use Rattle.cc_reason_lines.specs.ReasonLines.{ReasonCanBeTold}
use Rattle.cc_reason_lines.proofs.reason_lines.reason_lines.Goals as goal

pub not_below-requires : goal.not_below-requires
not_below-requires c = subst (λ (r : DefinitionReason). ReasonCanBeTold (reason_of r)) c.in-NotBelow.is c.requires.told

pub returns-in-NotBelow : goal.returns-in-NotBelow
returns-in-NotBelow c =
    subst (λ (r : DefinitionReason). IfOk c.not_below.result (λ lines. AreLines c.args.devices c.args.names.now (reason_of r) (map line_of lines.items)))
    (sym c.in-NotBelow.is) c.not_below.ensures
