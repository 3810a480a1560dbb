-- What is told of imports that find no definition, and what that is asked of.
use Rattle.std.specs.Prelude.{◌≡◌, ℕ, List, ◌∷◌, map, slice_get, Option, Some, None}
use Rattle.cc_base.specs.declared.code.Code.{Code}
use Rattle.cc_base.specs.declared.code.Diag.{Diag}
use Rattle.cc_base.specs.declared.place.Place.{Place}
use Rattle.cc_graph.specs.Graph.{ImportMap}
use Rattle.cc_graph.specs.Places.{name_at}
use Rattle.cc_grammar.specs.Syntax.{ImportSyntax}
use Rattle.cc_import_reasoning.specs.declared.reason.ImportCause.{ImportCause}
use Rattle.cc_import_reasoning.specs.declared.reason.ImportCause.TheVariants as causes
use Rattle.cc_import_reasoning.specs.declared.reason.MissingImport.{MissingImport}
use Rattle.cc_module_reasons.specs.ImportReasons.{ImportReason, NoModule, NoDefinition, RefusedModule, InCircle, IsMissing, IsMissingFirst}
use Rattle.cc_verdicts.specs.ModuleVerdicts as judged
use Rattle.cc_verdicts.specs.ModuleVerdicts.{Finding, ModuleVerdict, code_of, first_missing}
use Rattle.cc_verdicts.specs.PresentTexts.{Texts, text_of, graph_of, finding_for}

-- The modules are those of the present texts, with their imports, and the verdicts those of the texts, in order.
pub record AreOfTexts (texts : Texts) (all : List ℕ → ModuleVerdict) (graph : ImportMap)
    (verdicts : List (List ℕ × ModuleVerdict)) : Type 0 where
  pub graph_is : graph ≡ graph_of texts
  pub verdicts_are : verdicts ≡ map (λ one. (one.0, all one.0)) texts

-- the reason of an import of the module of the name that the cause stands for, where modules stand at these places
abbrev pub reason_of : ImportMap → List ℕ → ImportSyntax → ImportCause → ImportReason
reason_of graph name one causes.NoModule = NoModule one
reason_of graph name one causes.NoDefinition = NoDefinition one
reason_of graph name one (causes.RefusedModule diag) = RefusedModule one diag.code diag.place
reason_of graph name one (causes.InCircle places) = InCircle one (name ∷ map (name_at graph) places.items)

-- what is told of the refusal of a module; without one it is not refused, or not present
abbrev pub TellsRefusal : Texts → (List ℕ → ModuleVerdict) → List ℕ → Option Diag → Type 0
TellsRefusal texts all source (Some diag) = all source ≡ judged.IsRefused diag.code diag.place
TellsRefusal texts all source None =
    (text : List ℕ) (code : Code) (at : Place) → text_of texts source ≡ Some text → all source ≡ judged.IsRefused code at → ⊥

-- what is told of an import of the module of the name; without a cause it finds a definition
abbrev pub TellsOne : Texts → (List ℕ → ModuleVerdict) → ImportMap → List ℕ → ImportSyntax → Option ImportCause → Type 0
TellsOne texts all graph name one (Some cause) = IsMissing texts all name one (reason_of graph name one cause)
TellsOne texts all graph name one None = code_of (finding_for texts all name one) ≡ None

-- What is told of the imports of the module of the name: the first that finds no definition, and why; without one each finds
-- a definition.
abbrev pub TellsFirst : Texts → (List ℕ → ModuleVerdict) → ImportMap → List ℕ → List ImportSyntax → Option MissingImport → Type 0
TellsFirst texts all graph name imports (Some missing) =
    (one : ImportSyntax) × (slice_get imports missing.import ≡ Some one)
    × IsMissingFirst texts all name imports (reason_of graph name one missing.cause) one.at
TellsFirst texts all graph name imports None = first_missing imports (map (finding_for texts all name) imports) ≡ None
