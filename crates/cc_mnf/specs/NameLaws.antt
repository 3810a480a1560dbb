-- The laws of the names of a module: they differ, and a module is refused for a second name exactly where one stands.
use Rattle.std.specs.Prelude.{◌≡◌, ◌⊎◌, ◌↔◌, List, [], ◌∷◌, ◌++◌, map, Contains}
use Rattle.std.specs.List.{IsDistinct}
use Rattle.std.specs.Str.{bytes_eq}
use Rattle.cc_base.specs.declared.code.Code.{Code}
use Rattle.cc_base.specs.declared.code.Code.TheVariants.{E09}
use Rattle.cc_base.specs.declared.place.Place.{Place}
use Rattle.cc_grammar.specs.Syntax.{ImportSyntax, DefSyntax, ModuleSyntax}
use Rattle.cc_mnf.specs.ElaboratedModules.{CoreDefinition, CoreModule, IsElaborated, IsRefused, elaboration}
use Rattle.cc_mnf.specs.ElaboratedModules.{import_names, names_of}
use Rattle.cc_mnf.specs.Scopes.{Name}

-- the names of devices, imports and definitions of an elaborated module differ, where those of the devices do
abbrev pub NamesDiffer : Type 0
NamesDiffer =
    (devices : List Name) (text : ModuleSyntax) (elaborated : CoreModule)
    → elaboration devices text ≡ IsElaborated elaborated → IsDistinct bytes_eq devices
    → IsDistinct bytes_eq (names_of devices elaborated.imports elaborated.definitions)

-- the text that has these imports and definitions
abbrev pub text_of : List ImportSyntax → List DefSyntax → ModuleSyntax
text_of imports definitions = record { imports = imports; defs = definitions }

-- the names of definitions in the text, in order
abbrev pub defined_names : List DefSyntax → List Name
defined_names definitions = map (λ one. one.name) definitions

-- the text is elaborated, whatever it becomes
abbrev pub CanBeElaborated : List Name → ModuleSyntax → Type 0
CanBeElaborated devices text = (elaborated : CoreModule) × (elaboration devices text ≡ IsElaborated elaborated)

-- An import of the text at the place whose name one of the devices or of the imports before it has, where these imports
-- are not refused.
pub record SecondImport (devices : List Name) (text : ModuleSyntax) (at : Place) : Type 0 where
  pub before : List ImportSyntax
  pub one : ImportSyntax
  pub after : List ImportSyntax
  pub stands : text.imports ≡ before ++ one ∷ after
  pub before_elaborated : CanBeElaborated devices (text_of before [])
  pub taken : Contains (devices ++ import_names before) one.name
  pub there : at ≡ one.name_at

-- A definition of the text at the place whose name one of the devices, of the imports or of the definitions before it
-- has, where the text before it is not refused.
pub record SecondDefinition (devices : List Name) (text : ModuleSyntax) (at : Place) : Type 0 where
  pub before : List DefSyntax
  pub one : DefSyntax
  pub after : List DefSyntax
  pub stands : text.defs ≡ before ++ one ∷ after
  pub before_elaborated : CanBeElaborated devices (text_of text.imports before)
  pub taken : Contains (devices ++ import_names text.imports ++ defined_names before) one.name
  pub there : at ≡ one.name_at

-- a module is refused with E09 at a place exactly where such an import or definition stands there
abbrev pub SecondNamesAreRefused : Type 0
SecondNamesAreRefused =
    (devices : List Name) (text : ModuleSyntax) (at : Place)
    → elaboration devices text ≡ IsRefused E09 at ↔ (SecondImport devices text at ⊎ SecondDefinition devices text at)

-- what is refused stays refused, whatever follows: imports, definitions
abbrev pub RefusalsStay : Type 0
RefusalsStay =
    (devices : List Name) (imports more : List ImportSyntax) (definitions others : List DefSyntax) (code : Code)
    (at : Place)
    → (elaboration devices (text_of imports []) ≡ IsRefused code at
    → elaboration devices (text_of (imports ++ more) others) ≡ IsRefused code at)
    × (elaboration devices (text_of imports definitions) ≡ IsRefused code at
    → elaboration devices (text_of imports (definitions ++ others)) ≡ IsRefused code at)

-- What follows changes nothing before: where a text is elaborated, so is the text up to any of its definitions, and the
-- definitions of the whole begin with those.
abbrev pub BeginningsAreElaborated : Type 0
BeginningsAreElaborated =
    (devices : List Name) (imports : List ImportSyntax) (definitions others : List DefSyntax) (whole : CoreModule)
    → elaboration devices (text_of imports (definitions ++ others)) ≡ IsElaborated whole
    → (part : CoreModule) × (rest : List CoreDefinition)
    × (elaboration devices (text_of imports definitions) ≡ IsElaborated part)
    × (whole.definitions ≡ part.definitions ++ rest)
