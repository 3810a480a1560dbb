-- What a cause tells is so: of a name that is given twice, and of a right side that is no value.
use Rattle.std.specs.Prelude.{◌≡◌, List, ◌∷◌, ◌++◌, map, Option, Some, Contains}
use Rattle.cc_base.specs.declared.place.Place.{Place}
use Rattle.cc_grammar.specs.Syntax.{DefSyntax, ModuleSyntax}
use Rattle.cc_mnf.specs.Operands.{start}
use Rattle.cc_mnf.specs.Scopes.{Name}
use Rattle.cc_elaboration_reasons.specs.ElaborationCauses.{ExpressionForm, form_of, Repeated, NotAValue, refused}
use Rattle.cc_elaboration_reasons.specs.ExplainedElaboration.{TakenName, device_name, import_name, definition_name}
use Rattle.cc_elaboration_reasons.specs.ExplainedElaboration.{names_in, first_refusal}

-- the names that a module gives, in order: those of devices, of imports and of definitions
abbrev pub names_given : List Name → ModuleSyntax → List TakenName
names_given devices text =
    map device_name devices ++ map import_name text.imports ++ map definition_name text.defs

-- The name stands among these twice: at the place, and before that where `first` says, for the first time.
pub record IsGivenTwice (names : List TakenName) (name : Name) (first : Option Place) (at : Place) : Type 0 where
  pub before : List TakenName
  pub between : List TakenName
  pub after : List TakenName
  pub stand :
      names
      ≡ before ++ record { name = name; at = first } ∷ (between ++ record { name = name; at = Some at } ∷ after)
  pub first_there : Contains (names_in before) name → ⊥

-- A module that is refused for a second name gives it twice, at these places.
abbrev pub RepeatedNamesAreGivenTwice : Type 0
RepeatedNamesAreGivenTwice =
    (devices : List Name) (text : ModuleSyntax) (name : Name) (first : Option Place) (at : Place)
    → first_refusal devices text ≡ refused (Repeated name first) at
    → IsGivenTwice (names_given devices text) name first at

-- One of the definitions has a right side of the form, which starts at the place.
pub record HasRightSide (definitions : List DefSyntax) (form : ExpressionForm) (at : Place) : Type 0 where
  pub before : List DefSyntax
  pub one : DefSyntax
  pub after : List DefSyntax
  pub stands : definitions ≡ before ++ one ∷ after
  pub of_form : form ≡ form_of one.right
  pub starts : at ≡ start one.right

-- A module that is refused for a right side that is no value has such a right side.
abbrev pub FormsAreOfRightSides : Type 0
FormsAreOfRightSides =
    (devices : List Name) (text : ModuleSyntax) (form : ExpressionForm) (at : Place)
    → first_refusal devices text ≡ refused (NotAValue form) at → HasRightSide text.defs form at
