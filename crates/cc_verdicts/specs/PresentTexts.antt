-- The verdicts of the present texts: of modules that import from each other. Nothing else decides them: neither what
-- was present before, nor the order in which texts came.
use Rattle.std.specs.Prelude.{◌≡◌, ℕ, not, List, [], ◌∷◌, map, count_by, Option, Some, None, if◌then◌else◌}
use Rattle.std.specs.List.Sorted.{IsStrictlySortedBy}
use Rattle.std.specs.Map.{keys_of, lookup}
use Rattle.std.specs.Option.{unwrap_or, is_some}
use Rattle.std.specs.Str.{bytes_eq}
use Rattle.cc_base.specs.declared.device.DeviceDecl.{DeviceDecl}
use Rattle.cc_graph.specs.Graph.{ImportMap, reaches}
use Rattle.cc_base.specs.Names.{compare_names}
use Rattle.cc_grammar.specs.Syntax.{ImportSyntax}
use Rattle.cc_verdicts.specs.Readings.{imports_of}
use Rattle.cc_verdicts.specs.ModuleVerdicts.{Finding, FoundDefinition, NoModule, InCycle, RefusedModule, NoDefinition}
use Rattle.cc_verdicts.specs.ModuleVerdicts.{CheckedDefinition, ModuleVerdict, IsAccepted, IsRefused}
use Rattle.cc_verdicts.specs.ModuleVerdicts.{HasModuleVerdict}

-- the present modules by name, each with its text
abbrev pub Texts : Type 0
Texts = List (List ℕ × List ℕ)

-- their names differ, and stand in order
abbrev pub ArePresent : Texts → Type 0
ArePresent texts = IsStrictlySortedBy compare_names (keys_of texts)

-- a text has at most so many bytes
abbrev pub longest_text : ℕ
longest_text = 65536

-- at most so many modules are present
abbrev pub most_modules : ℕ
most_modules = 256

-- how many modules of other names are present
abbrev pub others_present : List ℕ → Texts → ℕ
others_present name texts = count_by (λ one. not (bytes_eq name one.0)) texts

-- the text of the module, if it is present
abbrev pub text_of : Texts → List ℕ → Option (List ℕ)
text_of texts name = lookup (bytes_eq name) texts

-- the graph with a module that imports these, if its text is one
abbrev pub with_module : List ℕ → Option (List ImportSyntax) → ImportMap → ImportMap
with_module name (Some imports) graph = (name, map (λ one. one.source) imports) ∷ graph
with_module name None graph = graph

-- the import graph: the present texts that are modules, each with the names of the modules that it imports from
unfoldable pub graph_of : Texts → ImportMap
graph_of [] = []
graph_of (first ∷ rest) = with_module first.0 (imports_of first.1) (graph_of rest)

-- the definition of the name, if there is one
abbrev pub definition_named : List ℕ → List CheckedDefinition → Option CheckedDefinition
definition_named name [] = None
definition_named name (first ∷ rest) = if bytes_eq first.name name then Some first else definition_named name rest

-- what is found where the definition is this one, if there is one
abbrev pub found_or_none : Option CheckedDefinition → Finding
found_or_none (Some definition) = FoundDefinition definition.accepted.signature
found_or_none None = NoDefinition

-- what is found in a module with this verdict
abbrev pub finding_in : ModuleVerdict → List ℕ → Finding
finding_in (IsAccepted definitions) name = found_or_none (definition_named name definitions)
finding_in (IsRefused code at) name = RefusedModule

-- What is found for an import of the module of the name, where modules have these verdicts. Of a module from which
-- imports lead back to this one the verdict is not asked, so nothing is asked in a circle.
unfoldable pub finding_for : Texts → (List ℕ → ModuleVerdict) → List ℕ → ImportSyntax → Finding
finding_for texts verdicts name one =
    if is_some (text_of texts one.source)
    then (if reaches (graph_of texts) one.source name then InCycle else finding_in (verdicts one.source) one.name)
    else NoModule

-- what is found for the imports that the text of the module has, in order
abbrev pub findings_for : Texts → (List ℕ → ModuleVerdict) → List ℕ → List ℕ → List Finding
findings_for texts verdicts name text = map (finding_for texts verdicts name) (unwrap_or (imports_of text) [])

-- Modules have these verdicts: each present one has that of its text, with what is found for its imports.
abbrev pub AreVerdicts : List DeviceDecl → Texts → (List ℕ → ModuleVerdict) → Type 0
AreVerdicts devices texts verdicts =
    (name text : List ℕ) → text_of texts name ≡ Some text
    → HasModuleVerdict devices text (findings_for texts verdicts name text) (verdicts name)
