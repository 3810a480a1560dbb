-- The first refusal with its cause is that of elaboration.
use Rattle.std.proofs.Common.{◌≡◌, ℕ, zero, Bool, true, false, ◌||◌, if◌then◌else◌, List, [], ◌∷◌, ◌++◌, map, Option, Some, None, refl, sym, ap, subst, ◌∙◌, append_assoc}
use Rattle.std.specs.List.{list_any}
use Rattle.std.specs.Str.{bytes_eq}
use Rattle.cc_base.specs.declared.code.Code.{Code}
use Rattle.cc_base.specs.declared.code.Code.TheVariants.{E09, E12}
use Rattle.cc_base.specs.declared.place.Place.{Place}
use Rattle.cc_capture.specs.Sets.{Set, insert}
use Rattle.cc_core.specs.Shapes.{Shape}
use Rattle.cc_core.specs.Terms.{Note}
use Rattle.cc_grammar.specs.Syntax.{ElementSyntax, SetSyntax, AbsentSet, OmittedSet, WrittenSet, TypeSyntax, CapturingType, ShapeSyntax, BaseShape, AnyShape, NamedShape, ExitShape, BoxShape, ParenthesizedShape, FunctionShape, TypeFunctionShape, ExprSyntax, NameExpr, LiteralExpr, ParenthesizedExpr, ValExpr, FunExpr, TypeFunExpr, IfExpr, BoundaryExpr, OperatorExpr, BoxExpr, UnboxExpr, CallExpr, TypeCallExpr, AskExpr, TellExpr, ExitExpr, RepeatExpr, ImportSyntax, DefSyntax, ModuleSyntax}
use Rattle.cc_mnf.specs.ElaboratedModules.{CoreDefinition, CoreModule, Elaboration, IsElaborated, IsRefused, with_name, with_imports, is_right_side, or_no_value, definition_note, elaborated_definition, elaborated_definitions, elaborated_module, elaboration_of, elaboration}
use Rattle.cc_mnf.specs.ElaboratedTypes.{named_element, with_elements, elaborated_set, parameter_set, noted_set, elaborated_shape, elaborated_type, parameter_type, elaborated_note, optional_note, optional_type, optional_elements}
use Rattle.cc_mnf.specs.Elaboration.{elaborated}
use Rattle.cc_mnf.specs.NameLaws.{CanBeElaborated}
use Rattle.cc_mnf.specs.Operands.{PlacedTerm, NameAt, start, name_of, behind, operand_of}
use Rattle.cc_mnf.specs.Scopes.{Name, Scope, TermBinder, TypeBinder, outermost, under, term_variable, type_variable}
use Rattle.cc_mnf.specs.Steps.{ElaborationOutcome, Refused, Found, Step, goes_on, followed, gives, refuses, or_refused, new_hole, with_own_holes}
use Rattle.cc_elaboration_reasons.specs.ElaborationCauseLaws.{FirstRefusalIsOfElaboration, CausesAreOfRefusals, RefusalsHaveACause, CausesAreUnique, ElaboratedModulesHaveNoCause}
use Rattle.cc_elaboration_reasons.specs.ElaborationCauses.{StrictPlace, InRecursion, ElaborationCause, Repeated, code_of, ExplainedRefusal, refused, refused_without, ◌or_else◌, without_cause, refusal_of}
use Rattle.cc_elaboration_reasons.specs.ExplainedElaboration.{name_refusal, element_refusal, elements_refusal, set_refusal, strict_set_refusal, shape_refusal, strict_type_refusal, type_refusal, written_refusal, strict_written_refusal, unboxing_refusal, expression_refusal, note_refusal, value_refusal, definition_refusal, TakenName, device_name, import_name, definition_name, names_in, repetition_refusal, imports_refusal, definitions_refusal, first_refusal}

-- the code and the place of a step's refusal, if there is one
abbrev refusal_of_step : {A : Type 0} → ElaborationOutcome A → Option (Code × Place)
refusal_of_step (Refused code at) = Some (code, at)
refusal_of_step (Found value holes) = None

-- a step, and then what its value leads to
then_is : {A B : Type 0} (next : A → Step B) (o : ElaborationOutcome A) (first rest : Option ExplainedRefusal) → without_cause first ≡ refusal_of_step o
    → ((value : A) (holes : ℕ) → without_cause rest ≡ refusal_of_step (next value holes)) → without_cause (first or_else rest) ≡ refusal_of_step (goes_on next o)
then_is next (Refused code at) (Some first) rest is later = is
then_is next (Refused code at) None rest is later = cc
then_is next (Found value holes) (Some first) rest is later = cc
then_is next (Found value holes) None rest is later = later value holes

-- the last step that may be refused
last_is : {A B : Type 0} (next : A → Step B) (o : ElaborationOutcome A) (first : Option ExplainedRefusal) → without_cause first ≡ refusal_of_step o
    → ((value : A) (holes : ℕ) → None ≡ refusal_of_step (next value holes)) → without_cause first ≡ refusal_of_step (goes_on next o)
last_is next (Refused code at) first is later = is
last_is next (Found value holes) first is later = is ∙ later value holes

without_is : {A : Type 0} (cause : ElaborationCause) (at : Place) (o : Option A) (holes : ℕ) → without_cause (refused_without cause at o) ≡ refusal_of_step (or_refused (code_of cause) at o holes)
unfolding gives refuses
without_is cause at (Some value) holes = refl
without_is cause at None holes = refl

element_is : (scope : Scope) (at : Place) (name : Option Name) (holes : ℕ) → without_cause (element_refusal scope at name) ≡ refusal_of_step (named_element scope at name holes)
unfolding followed gives
element_is scope at None holes = refl
element_is scope at (Some name) holes = last_is _ _ _ (without_is _ at (term_variable scope name) holes) (λ value m. refl)

elements_is : (scope : Scope) (list : List ElementSyntax) (set : Set) (holes : ℕ) → without_cause (elements_refusal scope list) ≡ refusal_of_step (with_elements scope set list holes)
unfolding with_elements followed gives
elements_is scope [] set holes = refl
elements_is scope (first ∷ rest) set holes =
    then_is _ _ _ _ (element_is scope first.at first.name holes) (λ element m. elements_is scope rest (insert element set) m)

strict_set_is : (around : StrictPlace) (scope : Scope) (set : SetSyntax) (holes : ℕ) → without_cause (strict_set_refusal around scope set) ≡ refusal_of_step (elaborated_set scope set holes)
unfolding gives refuses
strict_set_is around scope AbsentSet holes = refl
strict_set_is around scope (OmittedSet at) holes = refl
strict_set_is around scope (WrittenSet elements) holes = elements_is scope elements _ holes

parameter_set_is : (scope : Scope) (set : SetSyntax) (holes : ℕ) → without_cause (set_refusal scope set) ≡ refusal_of_step (parameter_set scope set holes)
unfolding followed gives new_hole
parameter_set_is scope AbsentSet holes = refl
parameter_set_is scope (OmittedSet at) holes = refl
parameter_set_is scope (WrittenSet elements) holes = elements_is scope elements _ holes

noted_set_is : (scope : Scope) (shape : Shape) (set : SetSyntax) (holes : ℕ) → without_cause (set_refusal scope set) ≡ refusal_of_step (noted_set scope shape set holes)
unfolding followed gives
noted_set_is scope shape AbsentSet holes = refl
noted_set_is scope shape (OmittedSet at) holes = refl
noted_set_is scope shape (WrittenSet elements) holes = last_is _ _ _ (elements_is scope elements _ holes) (λ value m. refl)

mutual
  unfolding elaborated_shape elaborated_type followed gives

  shape_is : (shape : ShapeSyntax) (scope : Scope) (holes : ℕ) → without_cause (shape_refusal scope shape) ≡ refusal_of_step (elaborated_shape scope shape holes)
  shape_is (BaseShape at base) scope holes = refl
  shape_is (AnyShape at) scope holes = refl
  shape_is (NamedShape at name) scope holes = last_is _ _ _ (without_is _ at (type_variable scope name) holes) (λ value m. refl)
  shape_is (ExitShape at inner) scope holes = last_is _ _ _ (shape_is inner scope holes) (λ value m. refl)
  shape_is (BoxShape at inner) scope holes = last_is _ _ _ (strict_type_is inner _ scope holes) (λ value m. refl)
  shape_is (ParenthesizedShape at inner) scope holes = shape_is inner scope holes
  shape_is (FunctionShape at parameter from to) scope holes =
      then_is _ _ _ _ (strict_type_is from _ scope holes) (λ takes m. last_is _ _ _ (strict_type_is to _ (under (TermBinder parameter) scope) m) (λ value k. refl))
  shape_is (TypeFunctionShape at parameter below to) scope holes =
      then_is _ _ _ _ (shape_is below scope holes) (λ bound m. last_is _ _ _ (strict_type_is to _ (under (TypeBinder parameter) scope) m) (λ value k. refl))

  strict_type_is : (type : TypeSyntax) (around : StrictPlace) (scope : Scope) (holes : ℕ) → without_cause (strict_type_refusal around scope type) ≡ refusal_of_step (elaborated_type scope type holes)
  strict_type_is (CapturingType at inner captures) around scope holes =
      then_is _ _ _ _ (shape_is inner scope holes) (λ shape m. last_is _ _ _ (strict_set_is around scope captures m) (λ value k. refl))

parameter_type_is : (scope : Scope) (type : TypeSyntax) (holes : ℕ) → without_cause (type_refusal scope type) ≡ refusal_of_step (parameter_type scope type holes)
unfolding followed gives
parameter_type_is scope (CapturingType at inner captures) holes =
    then_is _ _ _ _ (shape_is inner scope holes) (λ shape m. last_is _ _ _ (parameter_set_is scope captures m) (λ value k. refl))

noted_type_is : (scope : Scope) (type : TypeSyntax) (holes : ℕ) → without_cause (type_refusal scope type) ≡ refusal_of_step (elaborated_note scope type holes)
unfolding followed gives
noted_type_is scope (CapturingType at inner captures) holes =
    then_is _ _ _ _ (shape_is inner scope holes) (λ shape m. noted_set_is scope shape captures m)

written_is : (scope : Scope) (written : Option TypeSyntax) (holes : ℕ) → without_cause (written_refusal scope written) ≡ refusal_of_step (optional_note scope written holes)
unfolding followed gives
written_is scope None holes = refl
written_is scope (Some written) holes = noted_type_is scope written holes

strict_written_is : (around : StrictPlace) (scope : Scope) (written : Option TypeSyntax) (holes : ℕ) → without_cause (strict_written_refusal around scope written) ≡ refusal_of_step (optional_type scope written holes)
unfolding followed gives
strict_written_is around scope None holes = refl
strict_written_is around scope (Some written) holes = last_is _ _ _ (strict_type_is written around scope holes) (λ value m. refl)

unboxing_is : (scope : Scope) (written : Option (List ElementSyntax)) (holes : ℕ) → without_cause (unboxing_refusal scope written) ≡ refusal_of_step (optional_elements scope written holes)
unfolding followed gives
unboxing_is scope None holes = refl
unboxing_is scope (Some elements) holes = last_is _ _ _ (elements_is scope elements _ holes) (λ value m. refl)

-- an expression that is a name is refused as that
named_refusal : (x : ExprSyntax) (scope : Scope) (name : NameAt) → name_of x ≡ Some name → expression_refusal scope x ≡ name_refusal scope name.at name.name
named_refusal (NameExpr at own) scope name e = let same : ◌≡◌ {A = NameAt} (record { at = at; name = own }) name = cc in ap (λ it. name_refusal scope it.at it.name) same
named_refusal (ParenthesizedExpr at inner) scope name e = named_refusal inner scope name e
named_refusal _ scope name e = cc

operand_is : (x : ExprSyntax) (scope : Scope) (o : Option NameAt) → name_of x ≡ o → (step : Step PlacedTerm) (holes : ℕ) → without_cause (expression_refusal scope x) ≡ refusal_of_step (step holes)
    → without_cause (expression_refusal scope x) ≡ refusal_of_step (operand_of scope x o step holes)
unfolding followed gives
operand_is x scope (Some name) e step holes is =
    ap without_cause (named_refusal x scope name e) ∙ last_is _ _ _ (without_is _ name.at (term_variable scope name.name) holes) (λ value m. refl)
operand_is x scope None e step holes is = last_is _ _ _ is (λ value m. refl)

expression_is : (x : ExprSyntax) (scope : Scope) (at : Place) (holes : ℕ) → without_cause (expression_refusal scope x) ≡ refusal_of_step (elaborated scope at x holes)
unfolding elaborated followed gives
expression_is (NameExpr own name) scope at holes = last_is _ _ _ (without_is _ own (term_variable scope name) holes) (λ value m. refl)
expression_is (LiteralExpr own literal) scope at holes = refl
expression_is (ParenthesizedExpr own inner) scope at holes = expression_is inner scope at holes
expression_is (ValExpr own name written right body) scope at holes =
    then_is _ _ _ _ (written_is scope written holes) (λ note m. then_is _ _ _ _ (expression_is right scope (start right) m)
    (λ value k. last_is _ _ _ (expression_is body (under (TermBinder name) scope) (start body) k) (λ rest l. refl)))
expression_is (FunExpr own parameter from body) scope at holes =
    then_is _ _ _ _ (parameter_type_is scope from holes) (λ takes m. last_is _ _ _ (expression_is body (under (TermBinder parameter) scope) (start body) m) (λ part k. refl))
expression_is (TypeFunExpr own parameter below body) scope at holes =
    then_is _ _ _ _ (shape_is below scope holes) (λ bound m. last_is _ _ _ (expression_is body (under (TypeBinder parameter) scope) (start body) m) (λ part k. refl))
expression_is (IfExpr own type test positive negative) scope at holes =
    then_is _ _ _ _ (noted_type_is (behind (name_of test) scope) type holes) (λ note m.
    then_is _ _ _ _ (operand_is test scope (name_of test) refl (elaborated scope (start test) test) m (expression_is test scope (start test) m)) (λ condition k.
    then_is _ _ _ _ (expression_is positive (behind (name_of test) scope) (start positive) k) (λ one l.
    last_is _ _ _ (expression_is negative (behind (name_of test) scope) (start negative) l) (λ other i. refl))))
expression_is (BoundaryExpr own type exit body) scope at holes =
    then_is _ _ _ _ (shape_is type scope holes) (λ shape m. last_is _ _ _ (expression_is body (under (TermBinder exit) scope) (start body) m) (λ part k. refl))
expression_is (OperatorExpr own operator x y) scope at holes =
    then_is _ _ _ _ (operand_is x scope (name_of x) refl (elaborated scope (start x) x) holes (expression_is x scope (start x) holes)) (λ left m.
    last_is _ _ _ (operand_is y (behind (name_of x) scope) (name_of y) refl (elaborated (behind (name_of x) scope) (start y) y) m (expression_is y (behind (name_of x) scope) (start y) m)) (λ right k. refl))
expression_is (BoxExpr own x) scope at holes =
    last_is _ _ _ (operand_is x scope (name_of x) refl (elaborated scope (start x) x) holes (expression_is x scope (start x) holes)) (λ content m. refl)
expression_is (UnboxExpr own captures x) scope at holes =
    then_is _ _ _ _ (unboxing_is (behind (name_of x) scope) captures holes) (λ set m.
    last_is _ _ _ (operand_is x scope (name_of x) refl (elaborated scope (start x) x) m (expression_is x scope (start x) m)) (λ content k. refl))
expression_is (CallExpr own x y) scope at holes =
    then_is _ _ _ _ (operand_is x scope (name_of x) refl (elaborated scope (start x) x) holes (expression_is x scope (start x) holes)) (λ left m.
    last_is _ _ _ (operand_is y (behind (name_of x) scope) (name_of y) refl (elaborated (behind (name_of x) scope) (start y) y) m (expression_is y (behind (name_of x) scope) (start y) m)) (λ right k. refl))
expression_is (TypeCallExpr own x argument) scope at holes =
    then_is _ _ _ _ (operand_is x scope (name_of x) refl (elaborated scope (start x) x) holes (expression_is x scope (start x) holes)) (λ function m.
    last_is _ _ _ (shape_is argument (behind (name_of x) scope) m) (λ shape k. refl))
expression_is (AskExpr own operation x) scope at holes =
    last_is _ _ _ (operand_is x scope (name_of x) refl (elaborated scope (start x) x) holes (expression_is x scope (start x) holes)) (λ receiver m. refl)
expression_is (TellExpr own operation x y) scope at holes =
    then_is _ _ _ _ (operand_is x scope (name_of x) refl (elaborated scope (start x) x) holes (expression_is x scope (start x) holes)) (λ left m.
    last_is _ _ _ (operand_is y (behind (name_of x) scope) (name_of y) refl (elaborated (behind (name_of x) scope) (start y) y) m (expression_is y (behind (name_of x) scope) (start y) m)) (λ right k. refl))
expression_is (ExitExpr own type x y) scope at holes =
    then_is _ _ _ _ (strict_type_is type _ (behind (name_of y) (behind (name_of x) scope)) holes) (λ takes i.
    then_is _ _ _ _ (operand_is x scope (name_of x) refl (elaborated scope (start x) x) i (expression_is x scope (start x) i)) (λ left m.
    last_is _ _ _ (operand_is y (behind (name_of x) scope) (name_of y) refl (elaborated (behind (name_of x) scope) (start y) y) m (expression_is y (behind (name_of x) scope) (start y) m)) (λ right k. refl)))
expression_is (RepeatExpr own x y) scope at holes =
    then_is _ _ _ _ (operand_is x scope (name_of x) refl (elaborated scope (start x) x) holes (expression_is x scope (start x) holes)) (λ left m.
    last_is _ _ _ (operand_is y (behind (name_of x) scope) (name_of y) refl (elaborated (behind (name_of x) scope) (start y) y) m (expression_is y (behind (name_of x) scope) (start y) m)) (λ right k. refl))

-- DEFINITIONS

note_is : (names : List Name) (definition : DefSyntax) (holes : ℕ) → without_cause (note_refusal names definition) ≡ refusal_of_step (definition_note names definition holes)
note_is names definition holes = by definition.own
  where
    by : (own : Bool) → without_cause (if own then strict_written_refusal InRecursion (outermost names) definition.written else written_refusal (outermost names) definition.written)
        ≡ refusal_of_step ((if own then optional_type (outermost names) definition.written else optional_note (outermost names) definition.written) holes)
    by true = strict_written_is _ (outermost names) definition.written holes
    by false = written_is (outermost names) definition.written holes

-- a definition, where its right side is a value
abbrev defined : DefSyntax → Note → PlacedTerm → Step CoreDefinition
defined definition note right = gives (record {
  name = definition.name;
  name_at = definition.name_at;
  note = note;
  recursive = definition.own;
  right = right.term;
  places = right.places;
})

-- what elaboration does behind the note of a definition
abbrev behind_term : DefSyntax → Note → PlacedTerm → Step CoreDefinition
behind_term definition note term = followed (or_no_value definition.own (start definition.right) term) (λ right. defined definition note right)

module _ (definition : DefSyntax) where
  value_is : (note : Note) (term : PlacedTerm) (holes : ℕ)
      → without_cause (value_refusal definition (behind_term definition note term holes)) ≡ refusal_of_step (behind_term definition note term holes)
  unfolding followed gives refuses
  value_is note term holes = by (is_right_side definition.own term.term)
    where
      by : (b : Bool) → without_cause (value_refusal definition (goes_on (λ right. defined definition note right) ((if b then gives term else refuses E12 (start definition.right)) holes)))
          ≡ refusal_of_step (goes_on (λ right. defined definition note right) ((if b then gives term else refuses E12 (start definition.right)) holes))
      by true = refl
      by false = refl

  term_is : (note : Note) (o : ElaborationOutcome PlacedTerm) (first : Option ExplainedRefusal) → without_cause first ≡ refusal_of_step o
      → without_cause (first or_else value_refusal definition (goes_on (behind_term definition note) o)) ≡ refusal_of_step (goes_on (behind_term definition note) o)
  term_is note (Refused code at) (Some first) is = is
  term_is note (Refused code at) None is = cc
  term_is note (Found term holes) (Some first) is = cc
  term_is note (Found term holes) None is = value_is note term holes

  noted_is : (step : Step PlacedTerm) (o : ElaborationOutcome Note) (first second : Option ExplainedRefusal) → without_cause first ≡ refusal_of_step o
      → ((holes : ℕ) → without_cause second ≡ refusal_of_step (step holes))
      → without_cause (first or_else second or_else value_refusal definition (goes_on (λ note. followed step (behind_term definition note)) o)) ≡ refusal_of_step (goes_on (λ note. followed step (behind_term definition note)) o)
  unfolding followed
  noted_is step (Refused code at) (Some first) second is later = is
  noted_is step (Refused code at) None second is later = cc
  noted_is step (Found note holes) (Some first) second is later = cc
  noted_is step (Found note holes) None second is later = term_is note (step holes) second (later holes)

definition_is : (names with_own : List Name) (definition : DefSyntax)
    → without_cause (definition_refusal names with_own definition) ≡ refusal_of_step (elaborated_definition names with_own definition zero)
unfolding followed gives
definition_is names with_own definition =
    noted_is definition _ _ _ _ (note_is names definition zero)
    (λ holes. expression_is definition.right (outermost (if definition.own then with_own else names)) (start definition.right) holes)

own_holes_is : {A : Type 0} (step : Step A) (first : Option ExplainedRefusal) (holes : ℕ) → without_cause first ≡ refusal_of_step (step zero) → without_cause first ≡ refusal_of_step (with_own_holes step holes)
unfolding with_own_holes
own_holes_is step first holes is = last_is _ _ _ is (λ value m. refl)

-- NAMES

-- the code and the place of a second name, if it is one
abbrev second : Place → Bool → Option (Code × Place)
second at b = if b then Some (E09, at) else None

repetition_is : (taken : List TakenName) (name : Name) (at : Place) → without_cause (repetition_refusal taken name at) ≡ second at (list_any (bytes_eq name) (names_in taken))
repetition_is [] name at = refl
repetition_is (first ∷ rest) name at = by (bytes_eq name first.name) (repetition_is rest name at)
  where
    by : (b : Bool) → without_cause (repetition_refusal rest name at) ≡ second at (list_any (bytes_eq name) (names_in rest))
        → without_cause (if b then refused (Repeated name first.at) at else repetition_refusal rest name at) ≡ second at (b || list_any (bytes_eq name) (names_in rest))
    by true is = refl
    by false is = is

repetition_then : {B : Type 0} (taken : List TakenName) (name : Name) (at : Place) (next : List Name → Step B) (rest : Option ExplainedRefusal) (holes : ℕ)
    → without_cause rest ≡ refusal_of_step (next (names_in taken ++ name ∷ []) holes)
    → without_cause (repetition_refusal taken name at or_else rest) ≡ refusal_of_step (goes_on next (with_name (names_in taken) name at holes))
unfolding gives refuses
repetition_then taken name at next rest holes later =
    by (list_any (bytes_eq name) (names_in taken)) (repetition_refusal taken name at) (repetition_is taken name at)
  where
    by : (b : Bool) (first : Option ExplainedRefusal) → without_cause first ≡ second at b
        → without_cause (first or_else rest) ≡ refusal_of_step (goes_on next ((if b then refuses E09 at else gives (names_in taken ++ name ∷ [])) holes))
    by true (Some first) is = is
    by true None is = cc
    by false (Some first) is = cc
    by false None is = later

names_more : (taken : List TakenName) (one : TakenName) → names_in (taken ++ one ∷ []) ≡ names_in taken ++ one.name ∷ []
names_more [] one = refl
names_more (first ∷ rest) one = ap (λ it. first.name ∷ it) (names_more rest one)

names_of_devices : (devices : List Name) → names_in (map device_name devices) ≡ devices
names_of_devices [] = refl
names_of_devices (first ∷ rest) = ap (λ it. first ∷ it) (names_of_devices rest)

taken_alone : (taken : List TakenName) → taken ++ [] ≡ taken
taken_alone [] = refl
taken_alone (first ∷ rest) = ap (λ it. first ∷ it) (taken_alone rest)

goes_on_twice : {A B C : Type 0} (one : A → Step B) (other : B → Step C) (o : ElaborationOutcome A) → goes_on (λ value holes. goes_on other (one value holes)) o ≡ goes_on other (goes_on one o)
goes_on_twice one other (Refused code at) = refl
goes_on_twice one other (Found value holes) = refl

or_else_twice : (one other last : Option ExplainedRefusal) → ((one or_else other) or_else last) ≡ (one or_else (other or_else last))
or_else_twice (Some one) other last = refl
or_else_twice None other last = refl

imports_then : {B : Type 0} (imports : List ImportSyntax) (taken : List TakenName) (next : List Name → Step B) (rest : Option ExplainedRefusal) (holes : ℕ)
    → ((m : ℕ) → without_cause rest ≡ refusal_of_step (next (names_in (taken ++ map import_name imports)) m))
    → without_cause (imports_refusal taken imports or_else rest) ≡ refusal_of_step (goes_on next (with_imports (names_in taken) imports holes))
unfolding followed gives
imports_then [] taken next rest holes later = subst (λ it. without_cause rest ≡ refusal_of_step (next (names_in it) holes)) (taken_alone taken) (later holes)
imports_then (first ∷ imports) taken next rest holes later =
    ap without_cause (or_else_twice (repetition_refusal taken first.name first.name_at) (imports_refusal (taken ++ import_name first ∷ []) imports) rest)
    ∙ repetition_then taken first.name first.name_at (λ more m. goes_on next (with_imports more imports m)) _ holes
    (subst (λ names. without_cause (imports_refusal (taken ++ import_name first ∷ []) imports or_else rest) ≡ refusal_of_step (goes_on next (with_imports names imports holes)))
    (names_more taken (import_name first))
    (imports_then imports (taken ++ import_name first ∷ []) next rest holes
    (λ m. subst (λ it. without_cause rest ≡ refusal_of_step (next (names_in it) m)) (sym (append_assoc taken (import_name first ∷ []) (map import_name imports))) (later m))))
    ∙ ap refusal_of_step (goes_on_twice (λ more. with_imports more imports) next (with_name (names_in taken) first.name first.name_at holes))

definitions_is : (definitions : List DefSyntax) (taken : List TakenName) (holes : ℕ)
    → without_cause (definitions_refusal taken definitions) ≡ refusal_of_step (elaborated_definitions (names_in taken) definitions holes)
unfolding followed gives
definitions_is [] taken holes = refl
definitions_is (first ∷ rest) taken holes =
    repetition_then taken first.name first.name_at _ _ holes
    (subst (λ names. without_cause (definition_refusal (names_in taken) (names_in (taken ++ definition_name first ∷ [])) first or_else definitions_refusal (taken ++ definition_name first ∷ []) rest)
    ≡ refusal_of_step (goes_on (λ one. followed (elaborated_definitions names rest) (λ others. gives (one ∷ others))) (with_own_holes (elaborated_definition (names_in taken) names first) holes)))
    (names_more taken (definition_name first))
    (then_is _ _ _ _ (own_holes_is _ _ holes (definition_is (names_in taken) (names_in (taken ++ definition_name first ∷ [])) first))
    (λ one m. last_is _ _ _ (definitions_is rest (taken ++ definition_name first ∷ []) m) (λ others k. refl))))

-- MODULES

module_is : (devices : List Name) (text : ModuleSyntax) → without_cause (first_refusal devices text) ≡ refusal_of_step (elaborated_module devices text zero)
unfolding followed gives
module_is devices text =
    subst (λ names. without_cause (first_refusal devices text)
    ≡ refusal_of_step (goes_on (λ names. followed (elaborated_definitions names text.defs) (λ definitions. gives (record { imports = text.imports; definitions = definitions }))) (with_imports names text.imports zero)))
    (names_of_devices devices)
    (imports_then text.imports (map device_name devices) _ _ zero
    (λ m. last_is _ _ _ (definitions_is text.defs (map device_name devices ++ map import_name text.imports) m) (λ definitions k. refl)))

of_outcome : (o : ElaborationOutcome CoreModule) → refusal_of_step o ≡ refusal_of (elaboration_of o)
of_outcome (Refused code at) = refl
of_outcome (Found value holes) = refl

pub first_refusal_is_of_elaboration : FirstRefusalIsOfElaboration
unfolding elaboration
first_refusal_is_of_elaboration devices text = module_is devices text ∙ of_outcome (elaborated_module devices text zero)

same_refusal : (o : Elaboration) (code : Code) (at : Place) → Some (code, at) ≡ refusal_of o → o ≡ IsRefused code at
same_refusal (IsElaborated core) code at e = cc
same_refusal (IsRefused other place) code at e =
    let same : ◌≡◌ {A = Code × Place} (code, at) (other, place) = cc in sym (ap (λ it. IsRefused it.0 it.1) same)

pub causes_are_of_refusals : CausesAreOfRefusals
causes_are_of_refusals devices text cause at e =
    same_refusal (elaboration devices text) (code_of cause) at (sym (ap without_cause e) ∙ first_refusal_is_of_elaboration devices text)

pub refusals_have_a_cause : RefusalsHaveACause
refusals_have_a_cause devices text code at e = by (first_refusal devices text) refl (first_refusal_is_of_elaboration devices text ∙ ap refusal_of e)
  where
    by : (o : Option ExplainedRefusal) → first_refusal devices text ≡ o → without_cause o ≡ Some (code, at) → (cause : ElaborationCause) × (code ≡ code_of cause) × (first_refusal devices text ≡ refused cause at)
    by (Some one) is same =
        let both : ◌≡◌ {A = Code × Place} (code_of one.cause, one.at) (code, at) = cc in
        (one.cause, sym (ap (λ it. it.0) both), is ∙ ap (λ place. refused one.cause place) (ap (λ it. it.1) both))
    by None is same = cc

same_parts : (one other : ExplainedRefusal) → Some one ≡ Some other → one ≡ other
same_parts one other e = cc

pub causes_are_unique : CausesAreUnique
causes_are_unique devices text one other at place e f =
    let same : ◌≡◌ {A = ExplainedRefusal} (record { cause = one; at = at }) (record { cause = other; at = place }) = same_parts _ _ (sym e ∙ f) in
    (ap (λ it. it.cause) same, ap (λ it. it.at) same)

none_is_some : (refusal : Code × Place) → None ≡ Some refusal → ⊥
none_is_some refusal e = cc

pub elaborated_modules_have_no_cause : ElaboratedModulesHaveNoCause
elaborated_modules_have_no_cause devices text = (to (elaboration devices text) refl, back)
  where
    to : (o : Elaboration) → elaboration devices text ≡ o → first_refusal devices text ≡ None → CanBeElaborated devices text
    to (IsElaborated core) is e = (core, is)
    to (IsRefused code at) is e =
        absurd (none_is_some (code, at) (sym (ap without_cause e) ∙ first_refusal_is_of_elaboration devices text ∙ ap refusal_of is))

    none : (o : Option ExplainedRefusal) → without_cause o ≡ None → o ≡ None
    none (Some one) e = cc
    none None e = refl

    back : CanBeElaborated devices text → first_refusal devices text ≡ None
    back (core, is) = none (first_refusal devices text) (first_refusal_is_of_elaboration devices text ∙ ap refusal_of is)
