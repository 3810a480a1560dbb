-- What holds of each definition holds wherever it stands in an elaborated module.
use Rattle.std.proofs.Common.{◌≡◌, ℕ, zero, Bool, true, false, List, [], ◌∷◌, ◌++◌, map, if◌then◌else◌, refl, sym, ap, ◌∙◌, subst, append_assoc, append-nil, Some, None}
use Rattle.std.specs.List.{list_any}
use Rattle.std.specs.Str.{bytes_eq}
use Rattle.cc_base.specs.declared.code.Code.TheVariants.{E09, E12}
use Rattle.cc_base.specs.declared.place.Place.{Place}
use Rattle.cc_core.specs.Captured.{is_value}
use Rattle.cc_core.specs.Stores.{is_function}
use Rattle.cc_core.specs.Terms.{Note, Absent, Written, Own, Term, FunctionTerm, TypeFunctionTerm}
use Rattle.cc_core.specs.Shapes.{Shape}
use Rattle.cc_core.specs.WellFormed.{TermKind}
use Rattle.cc_core.proofs.KindFacts.{IsKindedNote, IsKindedTerm, IsKindedNote-test, IsKindedTerm-test}
use Rattle.cc_grammar.specs.Syntax.{ImportSyntax, DefSyntax, ModuleSyntax, ExprSyntax}
use Rattle.cc_mnf.specs.Steps.{ElaborationOutcome, Refused, Found, Step, gives, refuses}
use Rattle.cc_mnf.specs.Scopes.{Name, outermost}
use Rattle.cc_mnf.specs.ElaboratedTypes.{optional_note, optional_type}
use Rattle.cc_mnf.specs.Elaboration.{elaborated}
use Rattle.cc_mnf.specs.Operands.{PlacedTerm, start}
use Rattle.cc_mnf.specs.ElaboratedModules.{CoreDefinition, CoreModule, IsElaborated, with_name, with_imports}
use Rattle.cc_mnf.specs.ElaboratedModules.{is_right_side, or_no_value, elaborated_definition, elaborated_definitions}
use Rattle.cc_mnf.specs.ElaboratedModules.{elaborated_module, elaboration_of, elaboration, import_names}
use Rattle.cc_mnf.specs.ElaboratedModules.{definition_names, names_of}
use Rattle.cc_mnf.specs.ElaborationLaws as law
use Rattle.cc_mnf.specs.ElaborationLaws.{StandsAfter, name_kinds, visible_kinds, IsWellFormedAfter, MayBeDefined, heading, heading_in_text}
use Rattle.cc_mnf.proofs.StepFacts.{Always, then_always, gives_always, refuses_always, always_weaker}
use Rattle.cc_mnf.proofs.BroughtFacts.{Comes, Brings, then_brings, gives_brings, refuses_brings, always_brings, both_brought, own_holes_bring}
use Rattle.cc_mnf.proofs.ScopeFacts.{HasNames, has_names}
use Rattle.cc_mnf.proofs.ElaboratedKinds.{kinded, type_kinded, optional_note_kinded, optional_type_kinded}

-- the property of each definition, told the names before it
abbrev pub HoldInOrder : (List Name → CoreDefinition → Type 0) → List Name → List CoreDefinition → Type 0
HoldInOrder Q names [] = Unit {0}
HoldInOrder Q names (first ∷ rest) = Q names first × HoldInOrder Q (names ++ first.name ∷ []) rest

with_name_chosen : (names : List Name) (name : Name) (at : Place) (b : Bool) (before : ℕ)
    → Brings (λ more after. more ≡ names ++ name ∷ []) (if b then refuses E09 at else gives (names ++ name ∷ [])) before
with_name_chosen names name at true before = refuses_brings E09 at
with_name_chosen names name at false before = gives_brings (names ++ name ∷ []) refl

pub with_name_brings : (names : List Name) (name : Name) (at : Place) (before : ℕ)
    → Brings (λ more after. more ≡ names ++ name ∷ []) (with_name names name at) before
with_name_brings names name at before = with_name_chosen names name at (list_any (bytes_eq name) names) before

pub with_imports_bring : (names : List Name) (imports : List ImportSyntax) (before : ℕ)
    → Brings (λ more after. more ≡ names ++ import_names imports) (with_imports names imports) before
with_imports_bring names [] before = gives_brings names (sym (append-nil names))
with_imports_bring names (first ∷ rest) before =
    then_brings (with_name_brings names first.name first.name_at before)
    (λ more middle e.
    subst (λ list. Brings (λ all after. all ≡ list) (with_imports more rest) middle)
    (ap (λ list. list ++ import_names rest) e ∙ append_assoc names (first.name ∷ []) (import_names rest))
    (with_imports_bring more rest middle))

-- an elaborated definition has the heading of that in the text
pub heading_kept : (names with_own : List Name) (definition : DefSyntax) (before : ℕ)
    → Brings (λ d after. heading d ≡ heading_in_text definition)
    (elaborated_definition names with_own definition) before
heading_kept names with_own definition before =
    then_brings {P = λ n after. Unit {0}} (anything _ before)
    (λ n middle h. then_brings {P = λ n after. Unit {0}} (anything _ middle)
    (λ t next k. then_brings {P = λ n after. Unit {0}} (anything _ next) (λ r last l. gives_brings _ refl)))
  where
    anything : {A : Type 0} (step : Step A) (before : ℕ) → Brings (λ v after. Unit {0}) step before
    anything step before = record { comes = nothing (step before) }
      where
        nothing : {A : Type 0} (o : ElaborationOutcome A) → Comes (λ v after. Unit {0}) o
        nothing (Refused code at) = tt
        nothing (Found v after) = tt

module _ (Q : List Name → CoreDefinition → Type 0)
    (each : (names : List Name) (definition : DefSyntax) → Brings (λ d after. Q names d)
    (elaborated_definition names (names ++ definition.name ∷ []) definition) zero) where
  definitions_hold : (names : List Name) (definitions : List DefSyntax) (before : ℕ)
      → Brings (λ list after. HoldInOrder Q names list) (elaborated_definitions names definitions) before
  definitions_hold names [] before = gives_brings [] tt
  definitions_hold names (first ∷ rest) before =
      then_brings (with_name_brings names first.name first.name_at before)
      (λ more middle e.
      then_brings {P = λ d after. Q names d × (heading d ≡ heading_in_text first)}
      (own_holes_bring (both_brought
      (subst (λ list. Brings (λ d after. Q names d) (elaborated_definition names list first) zero) (sym e)
      (each names first))
      (heading_kept names more first zero)))
      (λ one next h. then_brings (definitions_hold more rest next)
      (λ others last k. gives_brings (one ∷ others)
      (h.0, subst (λ list. HoldInOrder Q list others) (e ∙ ap (λ head. names ++ head.name ∷ []) (sym h.1)) k))))

  module_holds : (devices : List Name) (text : ModuleSyntax)
      → Brings (λ found after. HoldInOrder Q (devices ++ import_names found.imports) found.definitions)
      (elaborated_module devices text) zero
  module_holds devices text =
      then_brings (with_imports_bring devices text.imports zero)
      (λ names middle e. then_brings (definitions_hold names text.defs middle)
      (λ list last h. gives_brings (record { imports = text.imports; definitions = list })
      (subst (λ before. HoldInOrder Q before list) e h)))

  holds_where : (names : List Name) (before : List CoreDefinition) (d : CoreDefinition) (after : List CoreDefinition)
      → HoldInOrder Q names (before ++ d ∷ after) → Q (names ++ definition_names before) d
  holds_where names [] d after h = subst (λ list. Q list d) (sym (append-nil names)) h.0
  holds_where names (first ∷ rest) d after h =
      subst (λ list. Q list d) (append_assoc names (first.name ∷ []) (definition_names rest))
      (holds_where (names ++ first.name ∷ []) rest d after h.1)

-- what an elaborated module has
elaborated_has : (P : CoreModule → Type 0) (o : ElaborationOutcome CoreModule) (found : CoreModule)
    → Comes (λ m after. P m) o → elaboration_of o ≡ IsElaborated found → P found
elaborated_has P (Refused code at) found h e = cc
elaborated_has P (Found m after) found h e = subst P (elaborated_parts m found e) h
  where
    elaborated_parts : (m found : CoreModule) → IsElaborated m ≡ IsElaborated found → m ≡ found
    elaborated_parts m found e = cc

pub module_has : (P : CoreModule → Type 0) (devices : List Name) (text : ModuleSyntax) (found : CoreModule)
    → Brings (λ m after. P m) (elaborated_module devices text) zero → elaboration devices text ≡ IsElaborated found
    → P found
unfolding elaboration
module_has P devices text found h e = elaborated_has P (elaborated_module devices text zero) found h.comes e

-- a property of each definition holds wherever one stands
pub holds_of_each : (Q : List Name → CoreDefinition → Type 0)
    → ((names : List Name) (definition : DefSyntax)
    → Brings (λ d after. Q names d) (elaborated_definition names (names ++ definition.name ∷ []) definition) zero)
    → (devices : List Name) (text : ModuleSyntax) (found : CoreModule) (before : List CoreDefinition)
    (d : CoreDefinition)
    → elaboration devices text ≡ IsElaborated found → StandsAfter found before d
    → Q (names_of devices found.imports before) d
holds_of_each Q each devices text found before d e stands =
    holds_where Q each (devices ++ import_names found.imports) before d stands.0
    (subst (λ list. HoldInOrder Q (devices ++ import_names found.imports) list) stands.1
    (module_has (λ m. HoldInOrder Q (devices ++ import_names m.imports) m.definitions) devices text found
    (module_holds Q each devices text) e))

-- the right side that may be one
chosen_right : {P : PlacedTerm → Type 0} (recursive : Bool) (at : Place) (right : PlacedTerm) → P right → (b : Bool)
    → is_right_side recursive right.term ≡ b
    → Always (λ t. P t × (is_right_side recursive t.term ≡ true)) (if b then gives right else refuses E12 at)
chosen_right recursive at right h true e = gives_always right (h, e)
chosen_right recursive at right h false e = refuses_always E12 at tt

right_chosen : {P : PlacedTerm → Type 0} (recursive : Bool) (at : Place) (right : PlacedTerm) → P right
    → Always (λ t. P t × (is_right_side recursive t.term ≡ true)) (or_no_value recursive at right)
right_chosen recursive at right h =
    chosen_right recursive at right h (is_right_side recursive right.term) refl

-- what is written, and a right side, in the names before
written_kinded : (names : List Name) (recursive : Bool) (written : _)
    → Always (IsKindedNote (name_kinds names) [])
    (if recursive then optional_type (outermost names) written else optional_note (outermost names) written)
written_kinded names true written = optional_type_kinded (name_kinds names) (outermost names) (has_names names) written
written_kinded names false written = optional_note_kinded (name_kinds names) (outermost names) (has_names names) written

kinds_with_one : (names : List Name) (name : Name) → name_kinds (names ++ name ∷ []) ≡ TermKind ∷ name_kinds names
kinds_with_one [] name = refl
kinds_with_one (first ∷ rest) name = ap (λ kinds. TermKind ∷ kinds) (kinds_with_one rest name)

right_kinded : (names : List Name) (name : Name) (recursive : Bool) (at : Place) (right : ExprSyntax)
    → Always (λ t. IsKindedTerm (visible_kinds recursive names) [] t.term)
    (elaborated (outermost (if recursive then names ++ name ∷ [] else names)) at right)
right_kinded names name true at right =
    kinded (TermKind ∷ name_kinds names) (outermost (names ++ name ∷ []))
    (subst (λ kinds. HasNames kinds (names ++ name ∷ [])) (kinds_with_one names name)
    (has_names (names ++ name ∷ []))) at right
right_kinded names name false at right = kinded (name_kinds names) (outermost names) (has_names names) at right

-- the kinds of a definition's parts
pub definition_kinded : (names : List Name) (definition : DefSyntax)
    → Always (IsWellFormedAfter names) (elaborated_definition names (names ++ definition.name ∷ []) definition)
definition_kinded names definition =
    then_always (written_kinded names definition.own definition.written)
    (λ n h. then_always (right_kinded names definition.name definition.own (start definition.right) definition.right)
    (λ t k. then_always (right_chosen definition.own (start definition.right) t k)
    (λ r l. gives_always _
    (record {
      note_formed = IsKindedNote-test (name_kinds names) [] n h;
      right_formed = IsKindedTerm-test (visible_kinds definition.own names) [] r.term l.0;
    }))))

pub definitions_are_well_formed : law.ElaboratedDefinitionsAreWellFormed
definitions_are_well_formed devices text found before d e stands =
    holds_of_each IsWellFormedAfter (λ names definition. always_brings
    (definition_kinded names definition)) devices text
    found before d e stands

-- A function is a value.
function_is_value : (t : Term) → is_function t ≡ true → is_value t ≡ true
function_is_value (FunctionTerm takes c body) h = refl
function_is_value (TypeFunctionTerm bound body) h = refl
function_is_value _ h = cc

value_kept : (recursive : Bool) (t : Term) → is_right_side recursive t ≡ true → is_value t ≡ true
value_kept true t h = function_is_value t h
value_kept false t h = h

function_kept : (recursive : Bool) (t : Term) → is_right_side recursive t ≡ true → recursive ≡ true
    → is_function t ≡ true
function_kept true t h e = h
function_kept false t h e = cc

-- what is written for a recursive definition has its set written
abbrev HasNoOwnSet : Note → Type 0
HasNoOwnSet note = (shape : Shape) → note ≡ Own shape → ⊥

type_not_own : (names : List Name) (written : _) → Always HasNoOwnSet (optional_type (outermost names) written)
type_not_own names None = gives_always Absent (λ shape e. cc)
type_not_own names (Some written) =
    then_always (type_kinded (name_kinds names) (outermost names) (has_names names) written)
    (λ t h. gives_always (Written t.shape t.set) (λ shape e. cc))

note_not_own : (names : List Name) (recursive : Bool) (written : _)
    → Always (λ n. recursive ≡ true → HasNoOwnSet n)
    (if recursive then optional_type (outermost names) written else optional_note (outermost names) written)
note_not_own names true written = always_weaker (λ n h e. h) (type_not_own names written)
note_not_own names false written =
    always_weaker (λ n h e shape. cc) (optional_note_kinded (name_kinds names) (outermost names)
    (has_names names) written)

definition_may_be : (names : List Name) (definition : DefSyntax)
    → Always MayBeDefined (elaborated_definition names (names ++ definition.name ∷ []) definition)
definition_may_be names definition =
    then_always (note_not_own names definition.own definition.written)
    (λ n h. then_always (right_kinded names definition.name definition.own (start definition.right) definition.right)
    (λ t k. then_always (right_chosen {P = λ right. Unit {0}} definition.own (start definition.right) t tt)
    (λ r l. gives_always _
    (record {
      is_a_value = value_kept definition.own r.term l.1;
      is_a_function = function_kept definition.own r.term l.1;
      has_no_own_set = h;
    }))))

pub right_sides_are_values : law.RightSidesAreValues
right_sides_are_values devices text found before d e stands =
    holds_of_each (λ names one. MayBeDefined one)
    (λ names definition. always_brings (definition_may_be names definition)) devices text found before d e stands

headings_bring : (names : List Name) (definitions : List DefSyntax) (before : ℕ)
    → Brings (λ list after. map heading list ≡ map heading_in_text definitions)
    (elaborated_definitions names definitions) before
headings_bring names [] before = gives_brings [] refl
headings_bring names (first ∷ rest) before =
    then_brings (with_name_brings names first.name first.name_at before)
    (λ more middle e.
    then_brings {P = λ d after. heading d ≡ heading_in_text first}
    (own_holes_bring (heading_kept names more first zero))
    (λ one next h. then_brings (headings_bring more rest next)
    (λ others last k. gives_brings (one ∷ others) (λ i. h i ∷ k i))))

module_headings : (devices : List Name) (text : ModuleSyntax)
    → Brings (λ found after. (found.imports ≡ text.imports) ×
    (map heading found.definitions ≡ map heading_in_text text.defs))
    (elaborated_module devices text) zero
module_headings devices text =
    then_brings (with_imports_bring devices text.imports zero)
    (λ names middle e. then_brings (headings_bring names text.defs middle)
    (λ list last h. gives_brings (record { imports = text.imports; definitions = list }) (refl, h)))

pub definitions_are_in_order : law.DefinitionsAreElaboratedInOrder
definitions_are_in_order devices text found e =
    module_has (λ m. (m.imports ≡ text.imports) ×
    (map heading m.definitions ≡ map heading_in_text text.defs)) devices text
    found (module_headings devices text) e
