-- Definitions of accepted modules where they stand: what stands before them, and what that makes of context and names.
use Rattle.std.specs.Prelude.{◌≡◌, ℕ, List, [], ◌∷◌, ◌++◌, map, Option, Some, None, Result, Ok, Err, if◌then◌else◌}
use Rattle.std.specs.Option.{option_map, unwrap_or}
use Rattle.std.specs.Str.{bytes_eq}
use Rattle.cc_base.specs.declared.code.Code.{Code}
use Rattle.cc_base.specs.declared.code.Code.TheVariants.{E32, E33, E34}
use Rattle.cc_base.specs.declared.device.DeviceDecl.{DeviceDecl}
use Rattle.cc_core.specs.Contexts.{Context, entry_of}
use Rattle.cc_grammar.specs.Syntax.{ImportSyntax}
use Rattle.cc_mnf.specs.ElaboratedModules.{import_names, device_names}
use Rattle.cc_verdicts.specs.Readings.{imports_of}
use Rattle.cc_verdicts.specs.ModuleVerdicts.{Finding, CheckedDefinition, ModuleVerdict, IsAccepted, IsRefused}
use Rattle.cc_verdicts.specs.ModuleVerdicts.{declared_context, with_findings}
use Rattle.cc_verdicts.specs.PresentTexts.{Texts, text_of, findings_for}

-- the context with the signatures of definitions, in order
abbrev pub with_definitions : Context → List CheckedDefinition → Context
with_definitions context [] = context
with_definitions context (first ∷ rest) = with_definitions (entry_of first.accepted.signature ∷ context) rest

-- The context of a definition's right side: the devices, what is found for the imports, the definitions before it, and
-- itself where it is recursive.
abbrev pub context_behind : List DeviceDecl → List Finding → List CheckedDefinition → CheckedDefinition → Context
context_behind devices findings before one =
    if one.recursive
    then entry_of one.accepted.signature ∷ with_definitions (with_findings (declared_context devices) findings) before
    else with_definitions (with_findings (declared_context devices) findings) before

-- the names of its positions, in order
abbrev pub names_behind : List DeviceDecl → List ImportSyntax → List CheckedDefinition → CheckedDefinition
    → List (List ℕ)
names_behind devices imports before one =
    device_names devices ++ import_names imports ++ map (λ definition. definition.name) before
    ++ (if one.recursive then one.name ∷ [] else [])

-- The definition stands behind these in an accepted present module, where modules have these verdicts.
pub record StandsInPresentModule (devices : List DeviceDecl) (texts : Texts) (verdicts : List ℕ → ModuleVerdict)
    (imports : List ImportSyntax) (findings : List Finding) (before : List CheckedDefinition)
    (one : CheckedDefinition) :
    Type 0 where
  pub name : List ℕ
  pub text : List ℕ
  pub present : text_of texts name ≡ Some text
  pub imports_are : imports_of text ≡ Some imports
  pub findings_are : findings ≡ findings_for texts verdicts name text
  pub after : List CheckedDefinition
  pub accepted : verdicts name ≡ IsAccepted (before ++ one ∷ after)

-- A definition where it stands: the imports of its module, what is found for them, the definitions before it, and the
-- definition.
pub record Standing : Type 0 where
  pub imports : List ImportSyntax
  pub findings : List Finding
  pub before : List CheckedDefinition
  pub definition : CheckedDefinition

-- the context of its right side
abbrev pub standing_context : List DeviceDecl → Standing → Context
standing_context devices it = context_behind devices it.findings it.before it.definition

-- the names of the positions of that
abbrev pub standing_names : List DeviceDecl → Standing → List (List ℕ)
standing_names devices it = names_behind devices it.imports it.before it.definition

-- the first definition of the name, with those before it, if there is one
abbrev pub first_named : List ℕ → List CheckedDefinition → Option (List CheckedDefinition × CheckedDefinition)
first_named name [] = None
first_named name (first ∷ rest) =
    if bytes_eq first.name name
    then Some ([], first)
    else option_map (λ found. (first ∷ found.0, found.1)) (first_named name rest)

-- the definition with those before it, if there is one
abbrev pub standing_or : List ImportSyntax → List Finding → Option (List CheckedDefinition × CheckedDefinition)
    → Result Standing Code
standing_or imports findings (Some found) =
    Ok (record { imports = imports; findings = findings; before = found.0; definition = found.1 })
standing_or imports findings None = Err E33

-- the definition of a module with this verdict
abbrev pub standing_by : List ImportSyntax → List Finding → ModuleVerdict → List ℕ → Result Standing Code
standing_by imports findings (IsAccepted definitions) name =
    standing_or imports findings (first_named name definitions)
standing_by imports findings (IsRefused code at) name = Err E34

-- the definition of a module with this text, if it has one
abbrev pub standing_from : Texts → (List ℕ → ModuleVerdict) → List ℕ → List ℕ → Option (List ℕ)
    → Result Standing Code
standing_from texts verdicts module_name name (Some text) =
    standing_by (unwrap_or (imports_of text) []) (findings_for texts verdicts module_name text) (verdicts module_name)
    name
standing_from texts verdicts module_name name None = Err E32

-- The definition of the module where it stands, or why there is none, where modules have these verdicts: the first of
-- that the module is not present, that it is not accepted, and that it has no definition of the name.
abbrev pub standing_in : Texts → (List ℕ → ModuleVerdict) → List ℕ → List ℕ → Result Standing Code
standing_in texts verdicts module_name name =
    standing_from texts verdicts module_name name (text_of texts module_name)
