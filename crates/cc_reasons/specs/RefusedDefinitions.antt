-- Which definition of a module is refused first, and why.
use Rattle.std.specs.Prelude.{◌≡◌, ℕ, List, [], ◌∷◌, ◌++◌, map, length, None, if◌then◌else◌}
use Rattle.cc_base.specs.declared.device.DeviceDecl.{DeviceDecl}
use Rattle.cc_base.specs.declared.place.Place.{Place}
use Rattle.cc_core.specs.Contexts.{Context, entry_of}
use Rattle.cc_checking.specs.Verdicts as definitions
use Rattle.cc_checking.specs.Verdicts.{Accepted}
use Rattle.cc_grammar.specs.Syntax.{ModuleSyntax, DefSyntax}
use Rattle.cc_mnf.specs.ElaboratedModules.{CoreDefinition, CoreModule, elaboration, device_names, import_names}
use Rattle.cc_mnf.specs.ElaboratedModules as elaborated
use Rattle.cc_mnf.specs.Scopes.{Name}
use Rattle.cc_reasons.specs.DefinitionReasons.{DefinitionReason, HasReason}
use Rattle.cc_reasons.specs.ExplainedInference.{BinderNames, Alone}
use Rattle.cc_reasons.specs.NamedBinders.{binder_names}
use Rattle.cc_verdicts.specs.ModuleVerdicts.{Finding, first_missing, with_findings, declared_context, to_be_checked}
use Rattle.cc_verdicts.specs.Readings.{HasReading, IsTree}

-- the names of the binders of definitions' right sides, in order
abbrev pub names_of_binders : List DefSyntax → List BinderNames
names_of_binders definitions = map (λ one. binder_names one.right) definitions

-- those of the first definition, and of the others
abbrev pub first_binders : List BinderNames → BinderNames
first_binders [] = Alone
first_binders (first ∷ rest) = first

abbrev pub other_binders : List BinderNames → List BinderNames
other_binders [] = []
other_binders (first ∷ rest) = rest

-- the names that are visible in the right side of a definition behind these: with its own where it is recursive
abbrev pub names_inside : List Name → CoreDefinition → List Name
names_inside names one = if one.recursive then names ++ one.name ∷ [] else names

-- Of definitions in order, behind what has these names, and with the names of their binders, the first that is refused is for
-- this reason at this place, where these are the names of the positions. Each is checked in the context of the signatures
-- before it.
pub data IsRefusedFirst (devices : ℕ) : Context → List Name → List CoreDefinition → List BinderNames
    → DefinitionReason → Place → List Name → Type 0 where
  refused_first : {context : Context} {names : List Name} {first : CoreDefinition} {rest : List CoreDefinition}
      {binders : List BinderNames} {reason : DefinitionReason} {at : Place}
      → HasReason devices context (to_be_checked first) (first_binders binders) reason at
      → IsRefusedFirst devices context names (first ∷ rest) binders reason at (names_inside names first)
  accepted_first : {context : Context} {names : List Name} {first : CoreDefinition} {rest : List CoreDefinition}
      {binders : List BinderNames} {reason : DefinitionReason} {at : Place} {inside : List Name} {accepted : Accepted}
      → definitions.HasVerdict devices context (to_be_checked first) (definitions.IsAccepted accepted)
      → IsRefusedFirst devices (entry_of accepted.signature ∷ context) (names ++ first.name ∷ []) rest
      (other_binders binders) reason at inside
      → IsRefusedFirst devices context names (first ∷ rest) binders reason at inside

-- The module's text is refused for a definition, with what is found for its imports: it is a module, its imports are there,
-- its names and its normal form are in order, and the first definition that is refused is for this reason at this place,
-- where these are the names of the positions.
pub record IsOfDefinition (devices : List DeviceDecl) (text : List ℕ) (findings : List Finding) (reason : DefinitionReason)
    (at : Place) (names : List Name) : Type 0 where
  pub tree : ModuleSyntax
  pub core : CoreModule
  pub reads : HasReading text (IsTree tree)
  pub found : first_missing tree.imports findings ≡ None
  pub elaborates : elaboration (device_names devices) tree ≡ elaborated.IsElaborated core
  pub first : IsRefusedFirst (length devices) (with_findings (declared_context devices) findings)
      (device_names devices ++ import_names tree.imports) core.definitions (names_of_binders tree.defs) reason at names
