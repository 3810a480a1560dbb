-- Why imports find no definition, by example: present texts, with the reason of one of them, beside a console out and a
-- counter hits.
use Rattle.std.specs.Prelude.{◌≡◌, ℕ, ◌+◌, List, [], ◌∷◌, codes, encode_utf8_all, Some}
use Rattle.cc_base.specs.declared.code.Code.TheVariants.{E03, E05, E07, E08, E10, E14}
use Rattle.cc_base.specs.declared.place.Place.{Place}
use Rattle.cc_grammar.specs.Syntax.{ImportSyntax}
use Rattle.cc_module_reasons.specs.ImportReasons.{ImportReason, NoModule, NoDefinition, RefusedModule, InCircle, HasImportReason}
use Rattle.cc_module_reasons.specs.ImportReasonTexts.{import_reason_lines}
use Rattle.cc_verdicts.specs.ModuleVerdicts.{ModuleVerdict}
use Rattle.cc_verdicts.specs.PresentTexts.{Texts, text_of, AreVerdicts}
use Rattle.cc_worked_texts.specs.TextVerdicts.{devices, place, lines}

-- Of the present module of the name an import finds no definition, for this reason, at this place.
abbrev pub Misses : Texts → List ℕ → ImportReason → Place → Type 0
Misses texts name reason at =
    (text : List ℕ) × (text_of texts name ≡ Some text)
    × ((verdicts : List ℕ → ModuleVerdict) → AreVerdicts devices texts verdicts
    → HasImportReason texts verdicts name text reason at)

-- names of modules and of definitions
abbrev pub a : List ℕ
a = codes "a"

abbrev pub b : List ℕ
b = codes "b"

abbrev pub c : List ℕ
c = codes "c"

abbrev pub d : List ℕ
d = codes "d"

abbrev pub m : List ℕ
m = codes "m"

abbrev pub n : List ℕ
n = codes "n"

abbrev pub x : List ℕ
x = codes "x"

-- the import of the definition x from the module of one letter, which stands in the first line in this column
abbrev pub import_of : List ℕ → ℕ → ImportSyntax
import_of source column = record {
  source = source;
  at = place 1 column;
  name = x;
  name_at = place 1 (column + 2);
}

-- No module of the name is present.
pub record AbsentModules : Type 0 where
  pub alone : Misses ((m, codes "import n.x") ∷ []) m (NoModule (import_of n 8)) (place 1 8)
  -- others are, and one of them has the definition
  pub among_others : Misses
      ((a, codes "def x = 1") ∷ (m, codes "import n.x") ∷ [])
      m (NoModule (import_of n 8)) (place 1 8)
  -- the import before it finds one
  pub second : Misses
      ((a, codes "def x = 1") ∷ (m, codes "import a.x import n.x") ∷ [])
      m (NoModule (import_of n 19)) (place 1 19)
  -- of two that find none the first is told
  pub first_of_two : Misses
      ((m, codes "import n.x import a.x") ∷ [])
      m (NoModule (import_of n 8)) (place 1 8)
  -- and of two that find none for other reasons
  pub first_of_kinds : Misses
      ((a, codes "def") ∷ (m, codes "import n.x import a.x import m.x") ∷ [])
      m (NoModule (import_of n 8)) (place 1 8)

-- The module has no definition of the name.
pub record AbsentDefinitions : Type 0 where
  pub of_another_name : Misses
      ((a, codes "def y = 1") ∷ (m, codes "import a.x") ∷ [])
      m (NoDefinition (import_of a 8)) (place 1 8)
  pub no_definitions : Misses
      ((a, []) ∷ (m, codes "import a.x") ∷ [])
      m (NoDefinition (import_of a 8)) (place 1 8)
  -- what a module imports is no definition of it
  pub imported_there : Misses
      ((a, codes "import b.x") ∷ (b, codes "def x = 1") ∷ (m, codes "import a.x") ∷ [])
      m (NoDefinition (import_of a 8)) (place 1 8)
  -- nor is one of the importing module
  pub defined_here : Misses
      ((a, codes "def y = 1") ∷ (m, codes "import a.x def x = 1") ∷ [])
      m (NoDefinition (import_of a 8)) (place 1 8)

-- The module is refused: the code and the place are those of its own refusal.
pub record RefusedModules : Type 0 where
  pub no_module_text : Misses
      ((a, codes "def") ∷ (m, codes "import a.x") ∷ [])
      m (RefusedModule (import_of a 8) E03 (place 1 4)) (place 1 8)
  pub unknown_name : Misses
      ((a, lines (codes "def y = 1" ∷ codes "def z = w" ∷ [])) ∷ (m, codes "import a.x") ∷ [])
      m (RefusedModule (import_of a 8) E10 (place 2 9)) (place 1 8)
  pub ill_typed : Misses
      ((a, codes "def y: Int = true") ∷ (m, codes "import a.x") ∷ [])
      m (RefusedModule (import_of a 8) E14 (place 1 14)) (place 1 8)
  -- it is refused although it has the definition
  pub behind_the_definition : Misses
      ((a, codes "def x = 1 def y = z") ∷ (m, codes "import a.x") ∷ [])
      m (RefusedModule (import_of a 8) E10 (place 1 19)) (place 1 8)
  -- Of a module that is refused for an import of its own the code is told of this, at its place, and not what is wrong
  -- farther on.
  pub two_deep : Misses
      ((a, codes "  import n.x") ∷ (m, codes "import a.x") ∷ [])
      m (RefusedModule (import_of a 8) E05 (place 1 10)) (place 1 8)
  pub three_deep : Misses
      ((a, codes " import b.x") ∷ (b, codes "  import c.x") ∷ (c, codes "def x = y") ∷ (m, codes "import a.x") ∷ [])
      m (RefusedModule (import_of a 8) E07 (place 1 9)) (place 1 8)
  pub within_three : Misses
      ((a, codes " import b.x") ∷ (b, codes "  import c.x") ∷ (c, codes "def x = y") ∷ (m, codes "import a.x") ∷ [])
      b (RefusedModule (import_of c 10) E10 (place 1 9)) (place 1 10)
  -- of two that are refused the first import is told, not the first module
  pub first_import : Misses
      ((a, codes "def") ∷ (b, codes "def x = y") ∷ (m, codes "import b.x import a.x") ∷ [])
      m (RefusedModule (import_of b 8) E10 (place 1 9)) (place 1 8)
  -- a module that leads into a circle, and is not in it
  pub into_a_circle : Misses
      ((a, codes "import b.x") ∷ (b, codes " import a.x") ∷ (m, codes "  import b.x") ∷ [])
      m (RefusedModule (import_of b 10) E08 (place 1 9)) (place 1 10)
  pub to_what_leads_into_one : Misses
      ((a, codes "import a.x") ∷ (b, codes " import a.x") ∷ (m, codes "  import b.x") ∷ [])
      m (RefusedModule (import_of b 10) E07 (place 1 9)) (place 1 10)

-- Imports lead in a circle: from the module through others back to it, in order.
pub record Circles : Type 0 where
  pub itself : Misses ((m, codes "import m.x") ∷ []) m (InCircle (import_of m 8) (m ∷ m ∷ [])) (place 1 8)
  pub of_two : Misses
      ((a, codes "import m.x") ∷ (m, codes "import a.x") ∷ [])
      m (InCircle (import_of a 8) (m ∷ a ∷ m ∷ [])) (place 1 8)
  -- the same, from the other one
  pub of_two_from_the_other : Misses
      ((a, codes "import m.x") ∷ (m, codes "import a.x") ∷ [])
      a (InCircle (import_of m 8) (a ∷ m ∷ a ∷ [])) (place 1 8)
  pub of_three : Misses
      ((a, codes "import b.x") ∷ (b, codes "import m.x") ∷ (m, codes "import a.x") ∷ [])
      m (InCircle (import_of a 8) (m ∷ a ∷ b ∷ m ∷ [])) (place 1 8)
  -- a shorter one, whose import stands behind that of the longer one
  pub shorter : Misses
      ((a, codes "import b.x import m.x") ∷ (b, codes "import m.x") ∷ (m, codes "import a.x") ∷ [])
      m (InCircle (import_of a 8) (m ∷ a ∷ m ∷ [])) (place 1 8)
  -- of two that are as long the one whose import stands first, whichever the order of names
  pub as_long : Misses
      ((a, codes "import c.x import b.x") ∷ (b, codes "import m.x") ∷ (c, codes "import m.x") ∷ (m, codes "import a.x") ∷ [])
      m (InCircle (import_of a 8) (m ∷ a ∷ c ∷ m ∷ [])) (place 1 8)
  -- a first way that leads nowhere, or not so soon
  pub nowhere : Misses
      ((a, codes "import n.x import c.x import b.x") ∷ (b, codes "import m.x") ∷ (c, codes "import d.x") ∷ (d, codes "import m.x")
      ∷ (m, codes "import a.x") ∷ [])
      m (InCircle (import_of a 8) (m ∷ a ∷ b ∷ m ∷ [])) (place 1 8)
  -- the circle is one through the first import that finds no definition, though another one's is shorter
  pub through_the_first : Misses
      ((a, codes "import b.x") ∷ (b, codes "import m.x") ∷ (m, codes "import a.x import m.x") ∷ [])
      m (InCircle (import_of a 8) (m ∷ a ∷ b ∷ m ∷ [])) (place 1 8)
  -- an import before it finds a definition
  pub behind_another : Misses
      ((a, codes "def x = 1") ∷ (m, codes "import a.x import m.x") ∷ [])
      m (InCircle (import_of m 19) (m ∷ m ∷ [])) (place 1 19)
  -- what a module of the circle is refused for besides says nothing
  pub refused_besides : Misses
      ((a, codes "import n.x import m.x") ∷ (m, codes "import a.x") ∷ [])
      m (InCircle (import_of a 8) (m ∷ a ∷ m ∷ [])) (place 1 8)

-- The lines in which reasons are told.
pub record ToldImports : Type 0 where
  pub no_module : import_reason_lines (NoModule (import_of n 8)) ≡ codes "import n.x" ∷ []
  pub no_definition : import_reason_lines (NoDefinition (import_of a 8)) ≡ codes "import a.x" ∷ []
  pub refused : import_reason_lines (RefusedModule (import_of a 8) E07 (place 12 9))
      ≡ codes "import a.x" ∷ codes "refused E07 12:9" ∷ []
  pub itself : import_reason_lines (InCircle (import_of m 8) (m ∷ m ∷ []))
      ≡ codes "import m.x" ∷ codes "circle m m" ∷ []
  pub of_three : import_reason_lines (InCircle (import_of a 8) (m ∷ a ∷ b ∷ m ∷ []))
      ≡ codes "import a.x" ∷ codes "circle m a b m" ∷ []
  -- names as they are spelled
  pub other_letters : import_reason_lines (InCircle (import_of (codes "één") 8) (codes "één" ∷ codes "één" ∷ []))
      ≡ encode_utf8_all (codes "import één.x") ∷ encode_utf8_all (codes "circle één één") ∷ []
