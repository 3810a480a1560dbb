-- Why an import finds no definition.
use Rattle.std.specs.Prelude.{◌≡◌, ℕ, List, ◌∷◌, None}
use Rattle.std.specs.Str.{bytes_eq}
use Rattle.cc_base.specs.declared.code.Code.{Code}
use Rattle.cc_base.specs.declared.code.Code.TheVariants.{E05, E06, E07, E08}
use Rattle.cc_base.specs.declared.place.Place.{Place}
use Rattle.cc_graph.specs.Graph.{imported}
use Rattle.cc_grammar.specs.Syntax.{ImportSyntax, ModuleSyntax}
use Rattle.cc_mnf.specs.Scopes.{Name}
use Rattle.cc_reasons.specs.ShortestChains.{IsFirstShortestToEnd}
use Rattle.cc_verdicts.specs.ModuleVerdicts as judged
use Rattle.cc_verdicts.specs.ModuleVerdicts.{ModuleVerdict, InCycle, code_of}
use Rattle.cc_verdicts.specs.PresentTexts.{Texts, graph_of, finding_for}
use Rattle.cc_verdicts.specs.Readings.{HasReading, IsTree}

-- Why an import finds no definition: no module of the name is present; that module has none of the name; that module is
-- refused, with this code at this place; or imports lead in a circle, which goes through these modules from the importing
-- one back to it.
pub data ImportReason : Type 0 where
  NoModule : (missing : ImportSyntax) → ImportReason
  NoDefinition : (missing : ImportSyntax) → ImportReason
  RefusedModule : (missing : ImportSyntax) (code : Code) (at : Place) → ImportReason
  InCircle : (missing : ImportSyntax) (circle : List Name) → ImportReason

-- the code of a refusal for the reason
abbrev pub import_code : ImportReason → Code
import_code (NoModule missing) = E05
import_code (NoDefinition missing) = E06
import_code (RefusedModule missing code at) = E07
import_code (InCircle missing circle) = E08

-- An import of the module of the name finds no definition for this reason, where modules have these verdicts. The circle is
-- the first of the shortest ones that go through this import.
pub data IsMissing (texts : Texts) (verdicts : List ℕ → ModuleVerdict) (name : Name) (one : ImportSyntax) :
    ImportReason → Type 0 where
  no_module : finding_for texts verdicts name one ≡ judged.NoModule
      → IsMissing texts verdicts name one (NoModule one)
  no_definition : finding_for texts verdicts name one ≡ judged.NoDefinition
      → IsMissing texts verdicts name one (NoDefinition one)
  refused_module : {code : Code} {at : Place} → finding_for texts verdicts name one ≡ judged.RefusedModule
      → verdicts one.source ≡ judged.IsRefused code at
      → IsMissing texts verdicts name one (RefusedModule one code at)
  in_circle : {chain : List Name} → finding_for texts verdicts name one ≡ InCycle
      → IsFirstShortestToEnd (imported (graph_of texts)) (bytes_eq name) one.source chain
      → IsMissing texts verdicts name one (InCircle one (name ∷ chain))

-- Of imports in order, the first that finds no definition finds none for this reason, and stands at this place.
pub data IsMissingFirst (texts : Texts) (verdicts : List ℕ → ModuleVerdict) (name : Name) :
    List ImportSyntax → ImportReason → Place → Type 0 where
  missing_first : {one : ImportSyntax} {rest : List ImportSyntax} {reason : ImportReason}
      → IsMissing texts verdicts name one reason
      → IsMissingFirst texts verdicts name (one ∷ rest) reason one.at
  found_first : {one : ImportSyntax} {rest : List ImportSyntax} {reason : ImportReason} {at : Place}
      → code_of (finding_for texts verdicts name one) ≡ None → IsMissingFirst texts verdicts name rest reason at
      → IsMissingFirst texts verdicts name (one ∷ rest) reason at

-- The text of the module of the name is a module, and an import of it finds no definition for this reason, at this place.
pub record HasImportReason (texts : Texts) (verdicts : List ℕ → ModuleVerdict) (name text : List ℕ) (reason : ImportReason)
    (at : Place) : Type 0 where
  pub tree : ModuleSyntax
  pub reads : HasReading text (IsTree tree)
  pub first : IsMissingFirst texts verdicts name tree.imports reason at
