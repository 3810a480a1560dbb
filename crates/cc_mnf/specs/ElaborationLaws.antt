-- The laws of the elaboration of a module.
use Rattle.std.specs.Prelude.{◌≡◌, Bool, true, List, [], ◌∷◌, ◌++◌, map, length, IsTrue, if◌then◌else◌}
use Rattle.std.specs.List.{range_with_len}
use Rattle.cc_base.specs.declared.code.Code.{Code}
use Rattle.cc_base.specs.declared.code.Code.TheVariants.{E09, E10, E11, E12, E19}
use Rattle.cc_base.specs.declared.place.Place.{Place}
use Rattle.cc_core.specs.Captured.{is_value}
use Rattle.cc_core.specs.Occurrences.{MeetsInNote, without_holes}
use Rattle.cc_core.specs.Shapes.{Shape}
use Rattle.cc_core.specs.Stores.{is_function}
use Rattle.cc_core.specs.Terms.{Own}
use Rattle.cc_core.specs.WellFormed.{Kind, TermKind, is_well_formed_note, is_well_formed_term}
use Rattle.cc_grammar.specs.Syntax.{DefSyntax, ModuleSyntax}
use Rattle.cc_mnf.specs.ElaboratedModules.{CoreDefinition, CoreModule, IsElaborated, IsRefused, elaboration, names_of}
use Rattle.cc_core.specs.Holes.{HolesAreOfParameters}
use Rattle.cc_mnf.specs.Holes.{parameter_holes}
use Rattle.cc_mnf.specs.Scopes.{Name}

-- The definition stands in the module, with these before it.
abbrev pub StandsAfter : CoreModule → List CoreDefinition → CoreDefinition → Type 0
StandsAfter elaborated before definition =
    (after : List CoreDefinition) × (elaborated.definitions ≡ before ++ definition ∷ after)

-- the kinds of names: each stands for a value
abbrev pub name_kinds : List Name → List Kind
name_kinds names = map (λ name. TermKind) names

-- the kinds of what a right side may name: these names, and its own where it is recursive, which is the newest
abbrev pub visible_kinds : Bool → List Name → List Kind
visible_kinds recursive names = if recursive then TermKind ∷ name_kinds names else name_kinds names

-- a definition after these names is well formed: what is written for its type, and its right side
pub record IsWellFormedAfter (names : List Name) (definition : CoreDefinition) : Type 0 where
  pub note_formed : IsTrue (is_well_formed_note (name_kinds names) [] definition.note)
  pub right_formed : IsTrue (is_well_formed_term (visible_kinds definition.recursive names) [] definition.right)

-- each definition of an elaborated module is well formed after the devices, the imports and the definitions before it
abbrev pub ElaboratedDefinitionsAreWellFormed : Type 0
ElaboratedDefinitionsAreWellFormed =
    (devices : List Name) (text : ModuleSyntax) (elaborated : CoreModule) (before : List CoreDefinition)
    (definition : CoreDefinition)
    → elaboration devices text ≡ IsElaborated elaborated → StandsAfter elaborated before definition
    → IsWellFormedAfter (names_of devices elaborated.imports before) definition

-- A definition may be one: its right side is a value. Where it is recursive, that is a function or a type function, and
-- a type that is written has its set written too.
pub record MayBeDefined (definition : CoreDefinition) : Type 0 where
  pub is_a_value : IsTrue (is_value definition.right)
  pub is_a_function : definition.recursive ≡ true → IsTrue (is_function definition.right)
  pub has_no_own_set : definition.recursive ≡ true → (shape : Shape) → definition.note ≡ Own shape → ⊥

-- each definition of an elaborated module may be one
abbrev pub RightSidesAreValues : Type 0
RightSidesAreValues =
    (devices : List Name) (text : ModuleSyntax) (elaborated : CoreModule) (before : List CoreDefinition)
    (definition : CoreDefinition)
    → elaboration devices text ≡ IsElaborated elaborated → StandsAfter elaborated before definition
    → MayBeDefined definition

-- what stands before the right side of a definition: its name, with its place, and whether it is recursive
pub record Heading : Type 0 where
  pub name : Name
  pub name_at : Place
  pub recursive : Bool

-- the heading of a definition in the text
abbrev pub heading_in_text : DefSyntax → Heading
heading_in_text definition =
    record { name = definition.name; name_at = definition.name_at; recursive = definition.own }

-- the heading of an elaborated definition
abbrev pub heading : CoreDefinition → Heading
heading definition =
    record { name = definition.name; name_at = definition.name_at; recursive = definition.recursive }

-- an elaborated module has the imports of the text, and a definition for each of the text, in order
abbrev pub DefinitionsAreElaboratedInOrder : Type 0
DefinitionsAreElaboratedInOrder =
    (devices : List Name) (text : ModuleSyntax) (elaborated : CoreModule)
    → elaboration devices text ≡ IsElaborated elaborated
    → (elaborated.imports ≡ text.imports) × (map heading elaborated.definitions ≡ map heading_in_text text.defs)

-- The holes of a definition: what is written for its type has none, each in its right side is the whole set of a
-- function's parameter, and they are numbered from 0 on in the order of the term, each once.
pub record HasHolesInOrder (definition : CoreDefinition) : Type 0 where
  pub none_written : MeetsInNote without_holes 0 definition.note
  pub of_parameters : HolesAreOfParameters definition.right
  pub in_order :
      parameter_holes definition.right ≡ range_with_len 0 (length (parameter_holes definition.right))

-- each definition of an elaborated module has such holes
abbrev pub HolesOfDefinitionsAreOfParameters : Type 0
HolesOfDefinitionsAreOfParameters =
    (devices : List Name) (text : ModuleSyntax) (elaborated : CoreModule) (before : List CoreDefinition)
    (definition : CoreDefinition)
    → elaboration devices text ≡ IsElaborated elaborated → StandsAfter elaborated before definition
    → HasHolesInOrder definition

-- The codes that a module may be refused with: a second name, an unknown name, an unknown type name, a right side that
-- is no value, and a set that is omitted where it has to be written.
abbrev pub IsCodeOfElaboration : Code → Type 0
IsCodeOfElaboration E09 = Unit {0}
IsCodeOfElaboration E10 = Unit {0}
IsCodeOfElaboration E11 = Unit {0}
IsCodeOfElaboration E12 = Unit {0}
IsCodeOfElaboration E19 = Unit {0}
IsCodeOfElaboration _ = ⊥

-- a module is refused with one of these codes
abbrev pub RefusalsHaveTheseCodes : Type 0
RefusalsHaveTheseCodes =
    (devices : List Name) (text : ModuleSyntax) (code : Code) (at : Place)
    → elaboration devices text ≡ IsRefused code at → IsCodeOfElaboration code
