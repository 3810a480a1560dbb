-- What is found of definitions, from what the calls for their parts answer.
use Rattle.std.proofs.Common.{◌≡◌, ℕ, List, ◌++◌, map, length, Option, Some, sym, ap, subst, ◌∙◌}
use Rattle.cc_base.specs.declared.device.DeviceDecl.{DeviceDecl}
use Rattle.cc_core.specs.Contexts.{Context}
use Rattle.cc_core.specs.declared.terms.CoreDef.{CoreDef}
use Rattle.cc_definition_reasoning.specs.Reasons.{reason_of}
use Rattle.cc_labels.specs.LabelledLines.{line_of}
use Rattle.cc_labels.specs.declared.lines.Line.{Line}
use Rattle.cc_mnf.specs.CoreModules.{definition_of}
use Rattle.cc_mnf.specs.ElaboratedModules.{import_names, device_names}
use Rattle.cc_mnf.specs.Scopes.{Name}
use Rattle.cc_module_reasoning.specs.RefusedDefinitions.{names_inside_at, AreExplained}
use Rattle.cc_module_reasoning.specs.declared.definitions.RefusedDefinition.{RefusedDefinition}
use Rattle.cc_parse.specs.Trees.{def_syntax, import_syntax}
use Rattle.cc_parse.specs.declared.tree.Def.{Def}
use Rattle.cc_reason_lines.proofs.TellableReasons.{first_reasons_can_be_told}
use Rattle.cc_reason_lines.specs.ReasonLines.{ReasonCanBeTold}
use Rattle.cc_reasons.specs.ReasonTexts.{AreLines}
use Rattle.cc_reasons.specs.RefusedDefinitions.{names_of_binders, IsRefusedFirst}
use Rattle.cc_verdicts.specs.ModuleVerdicts.{Finding, declared_context, with_findings}
use Rattle.cc_verdicts.specs.ReadyDefinitions.{AreReady}
use Rattle.cc_why.specs.ToldReasons.{lines_in, TellsDefinitions}
use Rattle.cc_why.specs.declared.why.ReasonLines.{ReasonLines}

module _ (devices : ℕ) (context : Context) (names : List Name) (defs : List CoreDef) (trees : List Def) where
  -- the first that is refused, behind so many
  abbrev pub IsFirst : RefusedDefinition → Type 0
  IsFirst found =
      IsRefusedFirst devices context names (map definition_of defs) (names_of_binders (map def_syntax trees)) (reason_of found.reason)
      found.at (names_inside_at names (map definition_of defs) found.before)

  pub first_found : (count : ℕ) (known : Context) (others : List Def) (answer : Option RefusedDefinition) (found : RefusedDefinition)
      → count ≡ devices → known ≡ context → others ≡ trees → answer ≡ Some found
      → AreExplained count known (map definition_of defs) (names_of_binders (map def_syntax others)) answer → IsFirst found
  first_found count known others answer found counts same even is explained =
      subst (λ ts.
      IsRefusedFirst devices context names (map definition_of defs) (names_of_binders (map def_syntax ts)) (reason_of found.reason) found.at
      (names_inside_at names (map definition_of defs) found.before)) even
      (subst (λ c.
      IsRefusedFirst devices c names (map definition_of defs) (names_of_binders (map def_syntax others)) (reason_of found.reason) found.at
      (names_inside_at names (map definition_of defs) found.before)) same
      (subst (λ n.
      IsRefusedFirst n known names (map definition_of defs) (names_of_binders (map def_syntax others)) (reason_of found.reason) found.at
      (names_inside_at names (map definition_of defs) found.before)) counts
      (subst (AreExplained count known (map definition_of defs) (names_of_binders (map def_syntax others))) is explained names)))

  pub can_be_told : (found : RefusedDefinition) → AreReady context (map definition_of defs) → IsFirst found
      → ReasonCanBeTold (reason_of found.reason)
  can_be_told found ready first =
      first_reasons_can_be_told devices context names (map definition_of defs) (names_of_binders (map def_syntax trees)) (reason_of found.reason)
      found.at (names_inside_at names (map definition_of defs) found.before) ready first

  pub first_told : (found : RefusedDefinition) → IsFirst found → (count : ℕ) (inside : List Name) (told : ReasonLines) → count ≡ devices
      → inside ≡ names_inside_at names (map definition_of defs) found.before → AreLines count inside (reason_of found.reason) (lines_in told)
      → TellsDefinitions devices context names (map definition_of defs) (names_of_binders (map def_syntax trees)) (Some told)
  first_told found first count inside told counts is lines = (
    reason_of found.reason,
    found.at,
    names_inside_at names (map definition_of defs) found.before,
    first,
    subst (λ ns. AreLines devices ns (reason_of found.reason) (lines_in told)) is
        (subst (λ n. AreLines n inside (reason_of found.reason) (lines_in told)) counts lines),
  )
