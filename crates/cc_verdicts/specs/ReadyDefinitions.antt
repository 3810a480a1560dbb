-- Definitions that are ready to be checked, one after another. What stands here serves proofs alone.
use Rattle.std.specs.Prelude.{List, [], ◌∷◌, IsTrue, if◌then◌else◌}
use Rattle.cc_core.specs.Contexts.{Context}
use Rattle.cc_core.specs.Holes.{HolesAreOfParameters}
use Rattle.cc_core.specs.Occurrences.{MeetsInNote, without_holes}
use Rattle.cc_core.specs.WellFormed.{Kind, TermKind, kinds_of, is_well_formed_note, is_well_formed_term}
use Rattle.cc_core.specs.WellFormed.{IsWellFormedContext}
use Rattle.cc_checking_laws.specs.FillingLaws.{AreGlobals}
use Rattle.cc_mnf.specs.ElaboratedModules.{CoreDefinition, is_right_side}

-- The definition is well formed where the names before it have these kinds, may be one, and has its holes in parameters.
pub record IsReady (kinds : List Kind) (definition : CoreDefinition) : Type 0 where
  pub note_formed : IsTrue (is_well_formed_note kinds [] definition.note)
  pub note_closed : MeetsInNote without_holes 0 definition.note
  pub right_formed :
      IsTrue (is_well_formed_term (if definition.recursive then TermKind ∷ kinds else kinds) [] definition.right)
  pub may_be_defined : IsTrue (is_right_side definition.recursive definition.right)
  pub holes : HolesAreOfParameters definition.right

-- each definition is so, after those before it
abbrev pub EachIsReady : List Kind → List CoreDefinition → Type 0
EachIsReady kinds [] = Unit {0}
EachIsReady kinds (first ∷ rest) = IsReady kinds first × EachIsReady (TermKind ∷ kinds) rest

-- the context is that of globals, and the definitions are ready in it
pub record AreReady (globals : Context) (definitions : List CoreDefinition) : Type 0 where
  pub formed : IsWellFormedContext globals
  pub globals_alone : AreGlobals globals
  pub each : EachIsReady (kinds_of globals) definitions
