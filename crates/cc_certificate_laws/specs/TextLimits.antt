-- What the grammar's limits leave of a module's text once it is elaborated.
use Rattle.std.specs.Prelude.{◌≡◌, ℕ, ◌≤◌, List}
use Rattle.std.specs.List.{AllByRecursion}
use Rattle.cc_base.specs.Names.{IsName}
use Rattle.cc_grammar.specs.Syntax.{ModuleSyntax}
use Rattle.cc_mnf.specs.ElaboratedModules.{CoreDefinition, CoreModule, IsElaborated, elaboration}
use Rattle.cc_mnf.specs.Scopes.{Name}
use Rattle.cc_verdicts.specs.Readings.{IsTree, HasReading}
use Rattle.cc_certificate_text.specs.Heights.{note_height, term_height}
use Rattle.cc_certificate_laws.specs.DefinitionLaws.{HasWrittenLiterals}

-- The definition has a name; what is written for its type has at most the height 100 that the grammar allows a tree,
-- and its right side, in which operands are named, at most twice that; and its literals are those of the grammar.
pub record IsOfText (definition : CoreDefinition) : Type 0 where
  pub named : IsName definition.name
  pub note : note_height definition.note ≤ 100
  pub right : term_height definition.right ≤ 200
  pub literals : HasWrittenLiterals definition.right

-- Each definition of an elaborated text is so.
abbrev pub DefinitionsOfTextsAreLow : Type 0
DefinitionsOfTextsAreLow =
    (devices : List Name) (text : List ℕ) (tree : ModuleSyntax) (core : CoreModule) → HasReading text (IsTree tree)
    → elaboration devices tree ≡ IsElaborated core → AllByRecursion IsOfText core.definitions

-- The definitions that a text imports have names.
abbrev pub ImportsOfTextsAreNamed : Type 0
ImportsOfTextsAreNamed =
    (text : List ℕ) (tree : ModuleSyntax) → HasReading text (IsTree tree)
    → AllByRecursion (λ one. IsName one.name) tree.imports
