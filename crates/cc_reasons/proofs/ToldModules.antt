-- What a module is refused for can be told.
use Rattle.std.proofs.Common.{ℕ, List, length}
use Rattle.cc_base.specs.declared.place.Place.{Place}
use Rattle.cc_core.specs.Contexts.{Context}
use Rattle.cc_mnf.specs.ElaboratedModules.{CoreDefinition}
use Rattle.cc_mnf.specs.Scopes.{Name}
use Rattle.cc_reasons.specs.DefinitionReasons.{DefinitionReason}
use Rattle.cc_reasons.specs.ExplainedInference.{BinderNames}
use Rattle.cc_reasons.specs.LineLaws.{ReasonsOfDefinitionsHaveLines}
use Rattle.cc_reasons.specs.RefusedDefinitions.{first_binders, IsRefusedFirst}
use Rattle.cc_reasons.specs.RefusedDefinitions.IsRefusedFirst.{refused_first, accepted_first}
use Rattle.cc_reasons.proofs.ToldReasons.{IsTold, reasons_have_lines}
use Rattle.cc_verdicts.specs.ModuleVerdicts.{to_be_checked}
use Rattle.cc_verdicts.specs.ReadyDefinitions.{AreReady}
use Rattle.cc_verdicts.proofs.GlobalContexts.{module_ready}
use Rattle.cc_verdicts.proofs.JudgedDefinitions.{first_fits, ready_more}
use Rattle.cc_verdicts.proofs.ModuleVerdictLaws.{fits_tree}

first_told : (devices : ℕ) (visible : List Name) {context : Context} {names : List Name} {list : List CoreDefinition} {binders : List BinderNames} {reason : DefinitionReason} {at : Place} {inside : List Name}
    → AreReady context list → IsRefusedFirst devices context names list binders reason at inside → IsTold devices visible reason
first_told devices visible {context = context} {binders = binders} {reason = reason} {at = at} ready (refused_first {first = first} {rest = rest} has) =
    reasons_have_lines devices context (to_be_checked first) (first_binders binders) reason at visible (first_fits context first rest ready) ready.each.0.holes has
first_told devices visible {context = context} ready (accepted_first {first = first} {rest = rest} {accepted = accepted} has behind) =
    first_told devices visible (ready_more devices context first rest accepted ready has) behind

pub reasons_of_definitions_have_lines : ReasonsOfDefinitionsHaveLines
reasons_of_definitions_have_lines devices text findings reason at names fit it =
    first_told (length devices) names (module_ready devices it.tree findings it.core (fits_tree devices text findings it.tree fit it.reads) fit.over_devices it.found it.elaborates) it.first
