-- What the program finds of the reason of a module.
use Rattle.std.specs.Option.{is_none}
use Rattle.std.specs.Prelude.{◌≡◌, ℕ, Bool, List, [], ◌∷◌, map, length, Option, Some, None, if◌then◌else◌}
use Rattle.std.specs.String.{string_bytes}
use Rattle.cc_base.specs.declared.device.DeviceDecl.{DeviceDecl}
use Rattle.cc_base.specs.declared.place.Place.{Place}
use Rattle.cc_core.specs.Contexts.{Context}
use Rattle.cc_elaboration_reasoning.specs.Views.{cause_seen}
use Rattle.cc_elaboration_reasons.specs.ElaborationCauses.{ElaborationCause, refused}
use Rattle.cc_elaboration_reasons.specs.ElaborationReasonTexts.{elaboration_cause_lines}
use Rattle.cc_elaboration_reasons.specs.ExplainedElaboration.{first_refusal}
use Rattle.cc_grammar.specs.Syntax.{ImportSyntax, ModuleSyntax}
use Rattle.cc_labels.specs.LabelledLines.{line_of}
use Rattle.cc_mnf.specs.ElaboratedModules.{CoreDefinition, device_names}
use Rattle.cc_mnf.specs.Scopes.{Name}
use Rattle.cc_module_reasons.specs.ImportReasons.{ImportReason, IsMissingFirst}
use Rattle.cc_module_reasons.specs.ImportReasonTexts.{import_reason_lines}
use Rattle.cc_module_reasons.specs.ModuleLines.{AreModuleLines}
use Rattle.cc_module_reasons.specs.ModuleReasons.{ModuleReason, IsReason}
use Rattle.cc_module_reasons.specs.WhyAnswers as answers
use Rattle.cc_reasons.specs.DefinitionReasons.{DefinitionReason}
use Rattle.cc_reasons.specs.ExplainedInference.{BinderNames}
use Rattle.cc_reasons.specs.ReasonTexts.{AreLines}
use Rattle.cc_reasons.specs.RefusedDefinitions.{IsRefusedFirst}
use Rattle.cc_text_reasoning.specs.Answers.{HasATree}
use Rattle.cc_text_reasons.specs.TextReasons.{TextReason, HasTextReason}
use Rattle.cc_text_reasons.specs.TextReasonTexts.{text_reason_lines}
use Rattle.cc_verdicts.specs.ModuleVerdicts.{Finding, ModuleVerdict, code_of, first_missing}
use Rattle.cc_verdicts.specs.PresentTexts.{Texts, finding_for}
use Rattle.cc_why.specs.declared.why.ReasonLines.{ReasonLines}
use Rattle.cc_why.specs.declared.why.ReasonLines.TheVariants.{Words, OfCause, Labelled}
use Rattle.cc_why.specs.declared.why.Why.{Why}
use Rattle.cc_why.specs.declared.why.Why.TheVariants as variants

-- the lines, without what stands around them in a reply
abbrev pub lines_in : ReasonLines → List (List ℕ)
lines_in (Words lines) = map string_bytes lines.items
lines_in (OfCause cause) = elaboration_cause_lines (cause_seen cause)
lines_in (Labelled lines) = map line_of lines.items

-- the answer
abbrev pub why_of : Why → answers.Why
why_of variants.NoSuchModule = answers.NoSuchModule
why_of variants.NotRefused = answers.NotRefused
why_of (variants.RefusedSince diag lines) = answers.RefusedSince diag.code diag.place (lines_in lines)

-- whether a definition is found
abbrev pub is_found : Finding → Bool
is_found finding = is_none (code_of finding)

-- the name of a definition, if there is one and it is recursive
abbrev pub own_name : Option CoreDefinition → List Name
own_name (Some one) = if one.recursive then one.name ∷ [] else []
own_name None = []

-- The text of the module of the name is refused for a reason of these lines; without lines it has no reason to be refused.
abbrev pub TellsReason : List DeviceDecl → Texts → (List ℕ → ModuleVerdict) → Name → List ℕ → Option ReasonLines → Type 0
TellsReason devices texts verdicts name text (Some told) =
    (reason : ModuleReason) × (at : Place) × IsReason devices texts verdicts name text reason at
    × AreModuleLines (length devices) reason (lines_in told)
TellsReason devices texts verdicts name text None =
    (reason : ModuleReason) (at : Place) → IsReason devices texts verdicts name text reason at → ⊥

-- The text is no module for a reason of these lines; without lines it is a module. It serves the code alone.
abbrev pub TellsText : List ℕ → Option ReasonLines → Type 0
TellsText text (Some told) =
    (reason : TextReason) × (at : Place) × HasTextReason text reason at × (lines_in told ≡ text_reason_lines reason)
TellsText text None = HasATree text

-- The first of the imports that finds no definition finds none for a reason of these lines; without lines each finds a
-- definition. It serves the code alone.
abbrev pub TellsImports : Texts → (List ℕ → ModuleVerdict) → Name → List ImportSyntax → Option ReasonLines → Type 0
TellsImports texts verdicts name imports (Some told) =
    (reason : ImportReason) × (at : Place) × IsMissingFirst texts verdicts name imports reason at
    × (lines_in told ≡ import_reason_lines reason)
TellsImports texts verdicts name imports None = first_missing imports (map (finding_for texts verdicts name) imports) ≡ None

-- The first refusal of the tree's elaboration has a cause of these lines; without lines the tree is elaborated. It serves the
-- code alone.
abbrev pub TellsElaboration : List DeviceDecl → ModuleSyntax → Option ReasonLines → Type 0
TellsElaboration devices tree (Some told) =
    (cause : ElaborationCause) × (at : Place) × (first_refusal (device_names devices) tree ≡ refused cause at)
    × (lines_in told ≡ elaboration_cause_lines cause)
TellsElaboration devices tree None = first_refusal (device_names devices) tree ≡ None

-- The first of the definitions that is refused is for a reason of these lines; without lines none is refused. It serves the code
-- alone.
abbrev pub TellsDefinitions : ℕ → Context → List Name → List CoreDefinition → List BinderNames → Option ReasonLines → Type 0
TellsDefinitions devices context names definitions binders (Some told) =
    (reason : DefinitionReason) × (at : Place) × (inside : List Name)
    × IsRefusedFirst devices context names definitions binders reason at inside
    × AreLines devices inside reason (lines_in told)
TellsDefinitions devices context names definitions binders None =
    (reason : DefinitionReason) (at : Place) (inside : List Name)
    → IsRefusedFirst devices context names definitions binders reason at inside → ⊥
