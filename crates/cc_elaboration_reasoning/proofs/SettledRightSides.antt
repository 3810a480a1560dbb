-- Where no name and no set is refused, elaboration gives a term, and the text tells whether that is a value or a function.
use Rattle.std.proofs.Common.{◌≡◌, ℕ, zero, Bool, true, false, if◌then◌else◌, List, [], ◌∷◌, ◌++◌, Option, Some, None, is_some, refl, ap}
use Rattle.cc_base.specs.declared.code.Code.TheVariants.{E12}
use Rattle.cc_base.specs.declared.place.Place.{Place}
use Rattle.cc_base.specs.declared.code.Code.{Code}
use Rattle.cc_capture.specs.Sets.{Set, insert}
use Rattle.cc_core.specs.Captured.{is_value}
use Rattle.cc_core.specs.Places.{Spots}
use Rattle.cc_core.specs.Shapes.{Shape}
use Rattle.cc_core.specs.Stores.{is_function}
use Rattle.cc_core.specs.Terms.{Note, BoxTerm}
use Rattle.cc_grammar.specs.Syntax.{ElementSyntax, SetSyntax, AbsentSet, OmittedSet, WrittenSet, TypeSyntax, CapturingType, ShapeSyntax, BaseShape, AnyShape, NamedShape, ExitShape, BoxShape, ParenthesizedShape, FunctionShape, TypeFunctionShape, ExprSyntax, NameExpr, LiteralExpr, ParenthesizedExpr, ValExpr, FunExpr, TypeFunExpr, IfExpr, BoundaryExpr, OperatorExpr, BoxExpr, UnboxExpr, CallExpr, TypeCallExpr, AskExpr, TellExpr, ExitExpr, RepeatExpr, DefSyntax}
use Rattle.cc_mnf.specs.ElaboratedModules.{CoreDefinition, is_right_side, or_no_value, definition_note}
use Rattle.cc_mnf.specs.ElaboratedTypes.{named_element, with_elements, elaborated_set, parameter_set, noted_set, elaborated_shape, elaborated_type, parameter_type, elaborated_note, optional_note, optional_type, optional_elements}
use Rattle.cc_mnf.specs.Elaboration.{elaborated}
use Rattle.cc_mnf.specs.Operands.{PlacedTerm, Operand, IsVariable, IsNamed, NameAt, start, name_of, behind, operand_of, named, with_operand}
use Rattle.cc_mnf.specs.Scopes.{Name, Scope, TermBinder, TypeBinder, outermost, under, term_variable, type_variable}
use Rattle.cc_mnf.specs.Steps.{ElaborationOutcome, Refused, Found, Step, goes_on, followed, gives, refuses, or_refused, new_hole}
use Rattle.cc_elaboration_reasons.specs.ElaborationCauses.{StrictPlace, InRecursion, ElaborationCause, NotAValue, form_of, ExplainedRefusal, refused, refused_without, ◌or_else◌}
use Rattle.cc_elaboration_reasons.specs.ExplainedElaboration.{name_refusal, element_refusal, elements_refusal, set_refusal, strict_set_refusal, shape_refusal, strict_type_refusal, type_refusal, written_refusal, strict_written_refusal, unboxing_refusal, expression_refusal, note_refusal, value_refusal, definition_refusal}
use Rattle.cc_elaboration_reasoning.specs.FoundRefusals.{definition_found}
use Rattle.cc_elaboration_reasoning.specs.RightSides.{becomes_value, becomes_function, becomes_right_side, right_side_refusal}

-- SETTLED STEPS

abbrev Gives : {A : Type 0} → (A → Type 0) → ElaborationOutcome A → Type 0
Gives P (Refused code at) = ⊥
Gives P (Found value holes) = P value

-- where there is no refusal, the step gives a value of which this holds
record Settles {A : Type 0} (P : A → Type 0) (first : Option ExplainedRefusal) (o : ElaborationOutcome A) : Type 0 where
  found : first ≡ None → Gives P o

abbrev Any : {A : Type 0} → A → Type 0
Any value = Unit {0}

some_is_none : (one : ExplainedRefusal) → Some one ≡ None → ⊥
some_is_none one e = cc

then_settles : {A B : Type 0} {P : A → Type 0} {Q : B → Type 0} (next : A → Step B) (o : ElaborationOutcome A) (first rest : Option ExplainedRefusal) → Settles P first o
    → ((value : A) (holes : ℕ) → P value → Settles Q rest (next value holes)) → Settles Q (first or_else rest) (goes_on next o)
then_settles next o (Some one) rest is later = record { found = λ e. absurd (some_is_none one e) }
then_settles next (Refused code at) None rest is later = absurd (is.found refl)
then_settles next (Found value holes) None rest is later = later value holes (is.found refl)

last_settles : {A B : Type 0} {P : A → Type 0} {Q : B → Type 0} (next : A → Step B) (o : ElaborationOutcome A) (first : Option ExplainedRefusal) → Settles P first o
    → ((value : A) (holes : ℕ) → P value → Gives Q (next value holes)) → Settles Q first (goes_on next o)
last_settles next o (Some one) is later = record { found = λ e. absurd (some_is_none one e) }
last_settles next (Refused code at) None is later = absurd (is.found refl)
last_settles next (Found value holes) None is later = record { found = λ e. later value holes (is.found refl) }

given : {A : Type 0} {P : A → Type 0} (first : Option ExplainedRefusal) (value : A) (holes : ℕ) → P value → Settles P first (gives value holes)
unfolding gives
given first value holes h = record { found = λ e. h }

-- SETS, SHAPES AND TYPES

without_settles : {A : Type 0} (cause : ElaborationCause) (code : Code) (at : Place) (o : Option A) (holes : ℕ) → Settles Any (refused_without cause at o) (or_refused code at o holes)
unfolding gives refuses
without_settles cause code at (Some value) holes = record { found = λ e. tt }
without_settles cause code at None holes = record { found = λ e. cc }

element_settles : (scope : Scope) (at : Place) (name : Option Name) (holes : ℕ) → Settles Any (element_refusal scope at name) (named_element scope at name holes)
unfolding followed gives
element_settles scope at None holes = record { found = λ e. tt }
element_settles scope at (Some name) holes = last_settles _ _ _ (without_settles _ _ at (term_variable scope name) holes) (λ value m h. tt)

elements_settle : (scope : Scope) (list : List ElementSyntax) (set : Set) (holes : ℕ) → Settles Any (elements_refusal scope list) (with_elements scope set list holes)
unfolding with_elements followed gives
elements_settle scope [] set holes = record { found = λ e. tt }
elements_settle scope (first ∷ rest) set holes =
    then_settles _ _ _ _ (element_settles scope first.at first.name holes) (λ element m h. elements_settle scope rest (insert element set) m)

strict_set_settles : (around : StrictPlace) (scope : Scope) (set : SetSyntax) (holes : ℕ) → Settles Any (strict_set_refusal around scope set) (elaborated_set scope set holes)
unfolding gives refuses
strict_set_settles around scope AbsentSet holes = record { found = λ e. tt }
strict_set_settles around scope (OmittedSet at) holes = record { found = λ e. cc }
strict_set_settles around scope (WrittenSet elements) holes = elements_settle scope elements _ holes

parameter_set_settles : (scope : Scope) (set : SetSyntax) (holes : ℕ) → Settles Any (set_refusal scope set) (parameter_set scope set holes)
unfolding followed gives new_hole
parameter_set_settles scope AbsentSet holes = record { found = λ e. tt }
parameter_set_settles scope (OmittedSet at) holes = record { found = λ e. tt }
parameter_set_settles scope (WrittenSet elements) holes = elements_settle scope elements _ holes

noted_set_settles : (scope : Scope) (shape : Shape) (set : SetSyntax) (holes : ℕ) → Settles Any (set_refusal scope set) (noted_set scope shape set holes)
unfolding followed gives
noted_set_settles scope shape AbsentSet holes = record { found = λ e. tt }
noted_set_settles scope shape (OmittedSet at) holes = record { found = λ e. tt }
noted_set_settles scope shape (WrittenSet elements) holes = last_settles _ _ _ (elements_settle scope elements _ holes) (λ value m h. tt)

mutual
  unfolding elaborated_shape elaborated_type followed gives

  shape_settles : (shape : ShapeSyntax) (scope : Scope) (holes : ℕ) → Settles Any (shape_refusal scope shape) (elaborated_shape scope shape holes)
  shape_settles (BaseShape at base) scope holes = record { found = λ e. tt }
  shape_settles (AnyShape at) scope holes = record { found = λ e. tt }
  shape_settles (NamedShape at name) scope holes = last_settles _ _ _ (without_settles _ _ at (type_variable scope name) holes) (λ value m h. tt)
  shape_settles (ExitShape at inner) scope holes = last_settles _ _ _ (shape_settles inner scope holes) (λ value m h. tt)
  shape_settles (BoxShape at inner) scope holes = last_settles _ _ _ (strict_type_settles inner _ scope holes) (λ value m h. tt)
  shape_settles (ParenthesizedShape at inner) scope holes = shape_settles inner scope holes
  shape_settles (FunctionShape at parameter from to) scope holes =
      then_settles _ _ _ _ (strict_type_settles from _ scope holes) (λ takes m h. last_settles _ _ _ (strict_type_settles to _ (under (TermBinder parameter) scope) m) (λ value k i. tt))
  shape_settles (TypeFunctionShape at parameter below to) scope holes =
      then_settles _ _ _ _ (shape_settles below scope holes) (λ bound m h. last_settles _ _ _ (strict_type_settles to _ (under (TypeBinder parameter) scope) m) (λ value k i. tt))

  strict_type_settles : (type : TypeSyntax) (around : StrictPlace) (scope : Scope) (holes : ℕ) → Settles Any (strict_type_refusal around scope type) (elaborated_type scope type holes)
  strict_type_settles (CapturingType at inner captures) around scope holes =
      then_settles _ _ _ _ (shape_settles inner scope holes) (λ shape m h. last_settles _ _ _ (strict_set_settles around scope captures m) (λ value k i. tt))

parameter_type_settles : (scope : Scope) (type : TypeSyntax) (holes : ℕ) → Settles Any (type_refusal scope type) (parameter_type scope type holes)
unfolding followed gives
parameter_type_settles scope (CapturingType at inner captures) holes =
    then_settles _ _ _ _ (shape_settles inner scope holes) (λ shape m h. last_settles _ _ _ (parameter_set_settles scope captures m) (λ value k i. tt))

noted_type_settles : (scope : Scope) (type : TypeSyntax) (holes : ℕ) → Settles Any (type_refusal scope type) (elaborated_note scope type holes)
unfolding followed gives
noted_type_settles scope (CapturingType at inner captures) holes =
    then_settles _ _ _ _ (shape_settles inner scope holes) (λ shape m h. noted_set_settles scope shape captures m)

written_settles : (scope : Scope) (written : Option TypeSyntax) (holes : ℕ) → Settles Any (written_refusal scope written) (optional_note scope written holes)
unfolding followed gives
written_settles scope None holes = record { found = λ e. tt }
written_settles scope (Some written) holes = noted_type_settles scope written holes

strict_written_settles : (around : StrictPlace) (scope : Scope) (written : Option TypeSyntax) (holes : ℕ) → Settles Any (strict_written_refusal around scope written) (optional_type scope written holes)
unfolding followed gives
strict_written_settles around scope None holes = record { found = λ e. tt }
strict_written_settles around scope (Some written) holes = last_settles _ _ _ (strict_type_settles written around scope holes) (λ value m h. tt)

unboxing_settles : (scope : Scope) (written : Option (List ElementSyntax)) (holes : ℕ) → Settles Any (unboxing_refusal scope written) (optional_elements scope written holes)
unfolding followed gives
unboxing_settles scope None holes = record { found = λ e. tt }
unboxing_settles scope (Some elements) holes = last_settles _ _ _ (elements_settle scope elements _ holes) (λ value m h. tt)

-- EXPRESSIONS

-- the term is a value, and a function, exactly where these say so
record Becomes (value function : Bool) (right : PlacedTerm) : Type 0 where
  values : is_value right.term ≡ value
  functions : is_function right.term ≡ function

-- it is as the expression says
abbrev BecomesAs : ExprSyntax → PlacedTerm → Type 0
BecomesAs x right = Becomes (becomes_value x) (becomes_function x) right

-- a construct under the `let` of an operand is neither, where it is neither itself
named_neither : (at : Place) (o : Operand) (construct : PlacedTerm) → Becomes false false construct → Becomes false false (named at o construct)
named_neither at (IsVariable variable) construct is = is
named_neither at (IsNamed term from) construct is = record { values = refl; functions = refl }

neither : (term : PlacedTerm) → is_value term.term ≡ false → is_function term.term ≡ false → Becomes false false term
neither term one other = record { values = one; functions = other }

-- the operand is a variable exactly where the expression is a name
abbrev is_variable : Operand → Bool
is_variable (IsVariable variable) = true
is_variable (IsNamed term at) = false

boxed : (at : Place) (o : Operand) (b : Bool) (spots : Spots) → is_variable o ≡ b → Becomes b false (with_operand o BoxTerm spots)
boxed at (IsVariable variable) true spots e = record { values = refl; functions = refl }
boxed at (IsVariable variable) false spots e = cc
boxed at (IsNamed term from) true spots e = cc
boxed at (IsNamed term from) false spots e = record { values = refl; functions = refl }

-- an expression that is a name is refused as that
named_refusal : (x : ExprSyntax) (scope : Scope) (name : NameAt) → name_of x ≡ Some name → expression_refusal scope x ≡ name_refusal scope name.at name.name
named_refusal (NameExpr at own) scope name e = let same : ◌≡◌ {A = NameAt} (record { at = at; name = own }) name = cc in ap (λ it. name_refusal scope it.at it.name) same
named_refusal (ParenthesizedExpr at inner) scope name e = named_refusal inner scope name e
named_refusal _ scope name e = cc

operand_settles : {P : PlacedTerm → Type 0} (x : ExprSyntax) (scope : Scope) (o : Option NameAt) → name_of x ≡ o → (step : Step PlacedTerm) (holes : ℕ) → Settles P (expression_refusal scope x) (step holes)
    → Settles (λ it. is_variable it ≡ is_some o) (expression_refusal scope x) (operand_of scope x o step holes)
unfolding followed gives
operand_settles x scope (Some name) e step holes is =
    rw (named_refusal x scope name e) (last_settles _ _ _ (without_settles _ _ name.at (term_variable scope name.name) holes) (λ value m h. refl))
operand_settles x scope None e step holes is = last_settles _ _ _ is (λ value m h. refl)

expression_settles : (x : ExprSyntax) (scope : Scope) (at : Place) (holes : ℕ) → Settles (BecomesAs x) (expression_refusal scope x) (elaborated scope at x holes)
unfolding elaborated followed gives
expression_settles (NameExpr own name) scope at holes = last_settles _ _ _ (without_settles _ _ own (term_variable scope name) holes) (λ value m h. neither _ refl refl)
expression_settles (LiteralExpr own literal) scope at holes = record { found = λ e. record { values = refl; functions = refl } }
expression_settles (ParenthesizedExpr own inner) scope at holes = expression_settles inner scope at holes
expression_settles (ValExpr own name written right body) scope at holes =
    then_settles _ _ _ _ (written_settles scope written holes) (λ note m h. then_settles _ _ _ _ (expression_settles right scope (start right) m)
    (λ value k i. last_settles _ _ _ (expression_settles body (under (TermBinder name) scope) (start body) k) (λ rest l j. neither _ refl refl)))
expression_settles (FunExpr own parameter from body) scope at holes =
    then_settles _ _ _ _ (parameter_type_settles scope from holes) (λ takes m h. last_settles _ _ _ (expression_settles body (under (TermBinder parameter) scope) (start body) m)
    (λ part k i. record { values = refl; functions = refl }))
expression_settles (TypeFunExpr own parameter below body) scope at holes =
    then_settles _ _ _ _ (shape_settles below scope holes) (λ bound m h. last_settles _ _ _ (expression_settles body (under (TypeBinder parameter) scope) (start body) m)
    (λ part k i. record { values = refl; functions = refl }))
expression_settles (IfExpr own type test positive negative) scope at holes =
    then_settles _ _ _ _ (noted_type_settles (behind (name_of test) scope) type holes) (λ note m h.
    then_settles _ _ _ _ (operand_settles test scope (name_of test) refl (elaborated scope (start test) test) m (expression_settles test scope (start test) m)) (λ condition k i.
    then_settles _ _ _ _ (expression_settles positive (behind (name_of test) scope) (start positive) k) (λ one l j.
    last_settles _ _ _ (expression_settles negative (behind (name_of test) scope) (start negative) l) (λ other n g. named_neither _ condition _ (neither _ refl refl)))))
expression_settles (BoundaryExpr own type exit body) scope at holes =
    then_settles _ _ _ _ (shape_settles type scope holes) (λ shape m h. last_settles _ _ _ (expression_settles body (under (TermBinder exit) scope) (start body) m) (λ part k i. neither _ refl refl))
expression_settles (OperatorExpr own operator x y) scope at holes =
    then_settles _ _ _ _ (operand_settles x scope (name_of x) refl (elaborated scope (start x) x) holes (expression_settles x scope (start x) holes)) (λ left m h.
    last_settles _ _ _ (operand_settles y (behind (name_of x) scope) (name_of y) refl (elaborated (behind (name_of x) scope) (start y) y) m (expression_settles y (behind (name_of x) scope) (start y) m))
    (λ right k i. named_neither _ left _ (named_neither _ right _ (neither _ refl refl))))
expression_settles (BoxExpr own x) scope at holes =
    last_settles _ _ _ (operand_settles x scope (name_of x) refl (elaborated scope (start x) x) holes (expression_settles x scope (start x) holes)) (λ content m h. boxed at content (is_some (name_of x)) _ h)
expression_settles (UnboxExpr own captures x) scope at holes =
    then_settles _ _ _ _ (unboxing_settles (behind (name_of x) scope) captures holes) (λ set m h.
    last_settles _ _ _ (operand_settles x scope (name_of x) refl (elaborated scope (start x) x) m (expression_settles x scope (start x) m)) (λ content k i. named_neither _ content _ (neither _ refl refl)))
expression_settles (CallExpr own x y) scope at holes =
    then_settles _ _ _ _ (operand_settles x scope (name_of x) refl (elaborated scope (start x) x) holes (expression_settles x scope (start x) holes)) (λ left m h.
    last_settles _ _ _ (operand_settles y (behind (name_of x) scope) (name_of y) refl (elaborated (behind (name_of x) scope) (start y) y) m (expression_settles y (behind (name_of x) scope) (start y) m))
    (λ right k i. named_neither _ left _ (named_neither _ right _ (neither _ refl refl))))
expression_settles (TypeCallExpr own x argument) scope at holes =
    then_settles _ _ _ _ (operand_settles x scope (name_of x) refl (elaborated scope (start x) x) holes (expression_settles x scope (start x) holes)) (λ function m h.
    last_settles _ _ _ (shape_settles argument (behind (name_of x) scope) m) (λ shape k i. named_neither _ function _ (neither _ refl refl)))
expression_settles (AskExpr own operation x) scope at holes =
    last_settles _ _ _ (operand_settles x scope (name_of x) refl (elaborated scope (start x) x) holes (expression_settles x scope (start x) holes)) (λ receiver m h. named_neither _ receiver _ (neither _ refl refl))
expression_settles (TellExpr own operation x y) scope at holes =
    then_settles _ _ _ _ (operand_settles x scope (name_of x) refl (elaborated scope (start x) x) holes (expression_settles x scope (start x) holes)) (λ left m h.
    last_settles _ _ _ (operand_settles y (behind (name_of x) scope) (name_of y) refl (elaborated (behind (name_of x) scope) (start y) y) m (expression_settles y (behind (name_of x) scope) (start y) m))
    (λ right k i. named_neither _ left _ (named_neither _ right _ (neither _ refl refl))))
expression_settles (ExitExpr own type x y) scope at holes =
    then_settles _ _ _ _ (strict_type_settles type _ (behind (name_of y) (behind (name_of x) scope)) holes) (λ takes i j.
    then_settles _ _ _ _ (operand_settles x scope (name_of x) refl (elaborated scope (start x) x) i (expression_settles x scope (start x) i)) (λ left m h.
    last_settles _ _ _ (operand_settles y (behind (name_of x) scope) (name_of y) refl (elaborated (behind (name_of x) scope) (start y) y) m (expression_settles y (behind (name_of x) scope) (start y) m))
    (λ right k g. named_neither _ left _ (named_neither _ right _ (neither _ refl refl)))))
expression_settles (RepeatExpr own x y) scope at holes =
    then_settles _ _ _ _ (operand_settles x scope (name_of x) refl (elaborated scope (start x) x) holes (expression_settles x scope (start x) holes)) (λ left m h.
    last_settles _ _ _ (operand_settles y (behind (name_of x) scope) (name_of y) refl (elaborated (behind (name_of x) scope) (start y) y) m (expression_settles y (behind (name_of x) scope) (start y) m))
    (λ right k i. named_neither _ left _ (named_neither _ right _ (neither _ refl refl))))

-- DEFINITIONS

note_settles : (names : List Name) (definition : DefSyntax) (holes : ℕ) → Settles Any (note_refusal names definition) (definition_note names definition holes)
note_settles names definition holes = by definition.own
  where
    by : (own : Bool) → Settles Any (if own then strict_written_refusal InRecursion (outermost names) definition.written else written_refusal (outermost names) definition.written)
        ((if own then optional_type (outermost names) definition.written else optional_note (outermost names) definition.written) holes)
    by true = strict_written_settles _ (outermost names) definition.written holes
    by false = written_settles (outermost names) definition.written holes

-- a definition, where its right side is a value
abbrev defined : DefSyntax → Note → PlacedTerm → Step CoreDefinition
defined definition note right = gives (record {
  name = definition.name;
  name_at = definition.name_at;
  note = note;
  recursive = definition.own;
  right = right.term;
  places = right.places;
})

-- what elaboration does behind the note of a definition
abbrev behind_term : DefSyntax → Note → PlacedTerm → Step CoreDefinition
behind_term definition note term = followed (or_no_value definition.own (start definition.right) term) (λ right. defined definition note right)

same_right_side : (own : Bool) (x : ExprSyntax) (term : PlacedTerm) → BecomesAs x term → is_right_side own term.term ≡ becomes_right_side own x
same_right_side true x term is = is.functions
same_right_side false x term is = is.values

module _ (definition : DefSyntax) where
  value_is : (note : Note) (term : PlacedTerm) (holes : ℕ) → BecomesAs definition.right term → right_side_refusal definition ≡ value_refusal definition (behind_term definition note term holes)
  unfolding followed gives refuses
  value_is note term holes is = by (is_right_side definition.own term.term) (becomes_right_side definition.own definition.right) (same_right_side definition.own definition.right term is)
    where
      by : (b : Bool) (c : Bool) → b ≡ c
          → (if c then None else refused (NotAValue (form_of definition.right)) (start definition.right))
          ≡ value_refusal definition (goes_on (λ right. defined definition note right) ((if b then gives term else refuses E12 (start definition.right)) holes))
      by true true e = refl
      by true false e = cc
      by false true e = cc
      by false false e = refl

  term_is : (note : Note) (o : ElaborationOutcome PlacedTerm) (first : Option ExplainedRefusal) → Settles (BecomesAs definition.right) first o
      → (first or_else right_side_refusal definition) ≡ (first or_else value_refusal definition (goes_on (behind_term definition note) o))
  term_is note o (Some one) is = refl
  term_is note (Refused code at) None is = absurd (is.found refl)
  term_is note (Found term holes) None is = value_is note term holes (is.found refl)

  noted_is : (step : Step PlacedTerm) (o : ElaborationOutcome Note) (first second : Option ExplainedRefusal) → Settles Any first o
      → ((holes : ℕ) → Settles (BecomesAs definition.right) second (step holes))
      → (first or_else second or_else right_side_refusal definition) ≡ (first or_else second or_else value_refusal definition (goes_on (λ note. followed step (behind_term definition note)) o))
  unfolding followed
  noted_is step o (Some one) second is later = refl
  noted_is step (Refused code at) None second is later = absurd (is.found refl)
  noted_is step (Found note holes) None second is later = term_is note (step holes) second (later holes)

-- what is refused in a definition is found without elaborating it
pub definition_is : (names : List Name) (definition : DefSyntax) → definition_found names definition ≡ definition_refusal names (names ++ definition.name ∷ []) definition
unfolding followed gives
definition_is names definition =
    noted_is definition _ _ _ _ (note_settles names definition zero)
    (λ holes. expression_settles definition.right (outermost (if definition.own then names ++ definition.name ∷ [] else names)) (start definition.right) holes)
