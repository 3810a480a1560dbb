-- The causes of refusals of elaboration belong to the verdicts of modules.
use Rattle.std.proofs.Common.{◌≡◌, sym, ap, ◌∙◌}
use Rattle.cc_grammar.specs.Syntax.{ModuleSyntax}
use Rattle.cc_mnf.specs.ElaboratedModules.{device_names}
use Rattle.cc_verdicts.specs.ModuleVerdicts.HasModuleVerdict.{is_not_elaborated}
use Rattle.cc_verdicts.specs.Readings.{IsTree}
use Rattle.cc_verdicts.proofs.ReadingLaws.{text_has_one_reading}
use Rattle.cc_elaboration_reasons.specs.ExplainedElaboration.{first_refusal}
use Rattle.cc_elaboration_reasons.specs.RefusedModules.{CausesAreOfVerdicts, RefusedModulesHaveACause, CausesOfModulesAreUnique}
use Rattle.cc_elaboration_reasons.proofs.FirstRefusals.{causes_are_of_refusals, refusals_have_a_cause, causes_are_unique}

pub causes_are_of_verdicts : CausesAreOfVerdicts
causes_are_of_verdicts devices text findings cause at it =
    is_not_elaborated it.reads it.found (causes_are_of_refusals (device_names devices) it.tree cause at it.first)

pub refused_modules_have_a_cause : RefusedModulesHaveACause
refused_modules_have_a_cause devices text findings tree code at reads found is =
    let it = refusals_have_a_cause (device_names devices) tree code at is in
    (it.0, it.1, record { tree = tree; reads = reads; found = found; first = it.2 })

tree_same : {one other : ModuleSyntax} → IsTree one ≡ IsTree other → one ≡ other
tree_same e = cc

pub causes_of_modules_are_unique : CausesOfModulesAreUnique
causes_of_modules_are_unique devices text findings one other at place it its =
    let tree : it.tree ≡ its.tree =
    tree_same ((text_has_one_reading text (IsTree it.tree)).0 it.reads ∙ sym ((text_has_one_reading text (IsTree its.tree)).0 its.reads)) in
    causes_are_unique (device_names devices) it.tree one other at place it.first (ap (first_refusal (device_names devices)) tree ∙ its.first)
