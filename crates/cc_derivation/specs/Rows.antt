-- What stands at a node of a derivation, seen from the node alone: what is wanted at its place, whether its rule is one
-- for that, at which places its premises stand, and whether the node is an instance of its rule.
use Rattle.std.specs.Prelude.{ℕ, zero, nat_eq, Bool, true, false, not, ◌&&◌, List, [], ◌∷◌, length, map, Option, Some}
use Rattle.std.specs.Prelude.{None, if◌then◌else◌}
use Rattle.cc_base.specs.declared.literal.Base.{Base}
use Rattle.cc_base.specs.declared.literal.Base.TheVariants as bases
use Rattle.cc_base.specs.declared.literal.Op.{Op}
use Rattle.cc_capture.specs.declared.var.Var.{Var}
use Rattle.cc_capture.specs.declared.var.Var.TheVariants.{Bound, Free}
use Rattle.cc_capture.specs.declared.var.Elem.{Elem}
use Rattle.cc_capture.specs.declared.var.Elem.TheVariants.{Var as Variable, Cap, Hole}
use Rattle.cc_capture.specs.Variables.{same_variable}
use Rattle.cc_capture.specs.Sets.{Set, contains, empty, same_set}
use Rattle.cc_core.specs.Shapes.{Shape, BaseShape, AnyShape, TypeVariable, FunctionShape, TypeFunctionShape, BoxShape}
use Rattle.cc_core.specs.Shapes.{ExitShape, CapturingType, capturing}
use Rattle.cc_core.specs.Terms.{Note, Absent, Written, Own, Term, VariableTerm, LiteralTerm, FunctionTerm}
use Rattle.cc_core.specs.Terms.{TypeFunctionTerm, BoxTerm, Application, TypeApplication, Unboxing, Let, Primitive}
use Rattle.cc_core.specs.Terms.{Conditional, Repetition, Operation, Boundary, Leave}
use Rattle.cc_core.specs.Contexts.{Bind, TermEntry, TypeEntry, Context, lookup, entry_of}
use Rattle.cc_core.specs.Substitution.{single, opened_type, opened_term, closed, closed_set, replaced_type}
use Rattle.cc_core.specs.Substitution.{replaced_type_by_shape}
use Rattle.cc_core.specs.Equality.{same_shape, same_type}
use Rattle.cc_core.specs.WellFormed.{kinds_of, is_well_formed_set, is_well_formed_shape, is_well_formed_type}
use Rattle.cc_core.specs.Questions.{Question, occurs_in_type}
use Rattle.cc_core.specs.Captured.{captured_variables, variable_set}
use Rattle.cc_core.specs.Typing.{base_of, base_given, base_operated, base_taken, base_answered}
use Rattle.cc_core.specs.Derivations.{Rule, ByElement, ByVariable, BySet, ByReflexivity, ByTransitivity, ByTypeVariable}
use Rattle.cc_core.specs.Derivations.{ByTop, ByFunction, ByTypeFunction, ByBox, ByCapturing, t-var, t-lit, t-abs, t-tabs}
use Rattle.cc_core.specs.Derivations.{t-app, t-tapp, t-box, t-unbox, t-let, t-prim, t-if, t-repeat, t-op, t-boundary}
use Rattle.cc_core.specs.Derivations.{t-exit, t-sub, Claim, SetBelow, ShapeBelow, TypeBelow, OfType}

-- The place of a node: its context, with the term whose type is wanted there, or with the kind of comparison that is
-- wanted. A node may also stand nowhere, where nothing can be said of what is wanted.
pub data Place : Type 0 where
  Nowhere : Place
  TypeOf : (context : Context) (term : Term) → Place
  SetsBelow : (context : Context) → Place
  ShapesBelow : (context : Context) → Place
  TypesBelow : (context : Context) → Place

-- What a rule says of a node that it is for: the places of the premises, given what they claim, and whether the node is
-- an instance of the rule where they claim this.
pub record Row : Type 0 where
  pub places : List Claim → List Place
  pub is_instance : List Claim → Bool

-- places that do not depend on what the premises claim
abbrev pub row : List Place → (List Claim → Bool) → Row
row places is_instance = record { places = λ claims. places; is_instance = is_instance }

-- whether two claims are one
abbrev pub same_claim : Claim → Claim → Bool
same_claim (SetBelow left right) (SetBelow left' right') = same_set left left' && same_set right right'
same_claim (ShapeBelow left right) (ShapeBelow left' right') = same_shape left left' && same_shape right right'
same_claim (TypeBelow left right) (TypeBelow left' right') = same_type left left' && same_type right right'
same_claim (OfType type) (OfType other) = same_type type other
same_claim _ _ = false

-- whether the claims are those that are wanted, in order
abbrev pub same_claims : List Claim → List Claim → Bool
same_claims [] [] = true
same_claims (claim ∷ claims) (wanted ∷ others) = same_claim claim wanted && same_claims claims others
same_claims _ _ = false

-- the set of an element is below a set that has it
abbrev pub is_element : List Elem → Set → Bool
is_element (e ∷ []) right = contains e right
is_element _ right = false

-- the set of a variable is below a set that its declared set is below
abbrev pub is_declared : Option Bind → Set → List Claim → Bool
is_declared (Some (TermEntry shape declared)) right claims = same_claims claims (SetBelow declared right ∷ [])
is_declared _ right claims = false

-- what stands at a variable, where it is a position
abbrev pub entry_at : Context → Var → Option Bind
entry_at context (Free position) = lookup context position
entry_at context (Bound index) = None

-- that rule is for one variable alone on the left
abbrev pub variable_row : Context → List Elem → Set → Option Row
variable_row context (Variable v ∷ []) right =
    Some (row (SetsBelow context ∷ []) (is_declared (entry_at context v) right))
variable_row context _ right = None

-- a comparison of sets
abbrev pub set_row : Context → Rule → Set → Set → Option Row
set_row context ByElement left right = Some (row [] (λ claims. is_element left.list right))
set_row context ByVariable left right = variable_row context left.list right
-- one premise for each element, in order
set_row context BySet left right =
    Some (row (map (λ e. SetsBelow context) left.list)
    (λ claims. same_claims claims (map (λ e. SetBelow (single e) right) left.list)))
set_row context _ left right = None

-- two shapes are below each other by way of a third
abbrev pub is_chain : Shape → Shape → List Claim → Bool
is_chain left right (ShapeBelow first middle ∷ ShapeBelow middle' last ∷ []) =
    same_shape first left && (same_shape middle middle' && same_shape last right)
is_chain left right _ = false

-- a type variable is below its bound
abbrev pub is_bound : Option Bind → Shape → Bool
is_bound (Some (TypeEntry bound)) right = same_shape bound right
is_bound _ right = false

-- the same of the shape on the left
abbrev pub is_bounded : Context → Shape → Shape → Bool
is_bounded context (TypeVariable v) right = is_bound (entry_at context v) right
is_bounded context _ right = false

-- the greatest shape
abbrev pub is_greatest : Shape → Bool
is_greatest AnyShape = true
is_greatest _ = false

-- what functions take compares the other way round, and what they give under the parameter of the right one
abbrev pub functions_row : Context → Shape → Shape → Option Row
functions_row context (FunctionShape takes c gives e) (FunctionShape takes' c' gives' e') =
    Some (row (TypesBelow context ∷ TypesBelow (TermEntry takes' c' ∷ context) ∷ [])
    (λ claims. same_claims claims (
    TypeBelow (capturing takes' c') (capturing takes c)
    ∷ TypeBelow (opened_type (length context) (capturing gives e)) (opened_type (length context) (capturing gives' e'))
    ∷ [])))
functions_row context _ _ = None

-- type functions have one and the same bound
abbrev pub type_functions_row : Context → Shape → Shape → Option Row
type_functions_row context (TypeFunctionShape bound gives e) (TypeFunctionShape bound' gives' e') =
    if same_shape bound bound'
    then Some (row (ShapesBelow context ∷ TypesBelow (TypeEntry bound ∷ context) ∷ [])
    (λ claims. same_claims claims (
    ShapeBelow bound bound
    ∷ TypeBelow (opened_type (length context) (capturing gives e)) (opened_type (length context) (capturing gives' e'))
    ∷ [])))
    else None
type_functions_row context _ _ = None

-- boxes compare by their contents
abbrev pub boxes_row : Context → Shape → Shape → Option Row
boxes_row context (BoxShape content c) (BoxShape content' c') =
    Some (row (TypesBelow context ∷ [])
    (λ claims. same_claims claims (TypeBelow (capturing content c) (capturing content' c') ∷ [])))
boxes_row context _ _ = None

-- a comparison of shapes
abbrev pub shape_row : Context → Rule → Shape → Shape → Option Row
shape_row context ByReflexivity left right = Some (row [] (λ claims. same_shape left right))
shape_row context ByTransitivity left right =
    Some (row (ShapesBelow context ∷ ShapesBelow context ∷ []) (is_chain left right))
shape_row context ByTypeVariable left right = Some (row [] (λ claims. is_bounded context left right))
shape_row context ByTop left right = Some (row [] (λ claims. is_greatest right))
shape_row context ByFunction left right = functions_row context left right
shape_row context ByTypeFunction left right = type_functions_row context left right
shape_row context ByBox left right = boxes_row context left right
shape_row context _ left right = None

-- a comparison of types
abbrev pub type_row : Context → Rule → CapturingType → CapturingType → Option Row
type_row context ByCapturing left right =
    Some (row (SetsBelow context ∷ ShapesBelow context ∷ [])
    (λ claims. same_claims claims (SetBelow left.set right.set ∷ ShapeBelow left.shape right.shape ∷ [])))
type_row context _ left right = None

-- the value, where the test holds
abbrev pub provided : {A : Type 0} → Bool → A → Option A
provided test value = if test then Some value else None

-- a base shape with the empty set
abbrev pub base_type : Base → CapturingType
base_type base = capturing (BaseShape base) empty

-- whether the shape is the base shape
abbrev pub is_base : Shape → Base → Bool
is_base shape base = same_shape shape (BaseShape base)

-- whether the universal capability is not in the set
abbrev pub has_no_cap : Set → Bool
has_no_cap set = not (contains Cap set)

-- whether what is written for a type, if anything is, is that type
abbrev pub is_note_of : Note → CapturingType → Bool
is_note_of Absent type = true
is_note_of (Written shape set) type = same_shape shape type.shape && same_set set type.set
is_note_of (Own shape) type = false

-- what a rule gives where its premises claim types: one,
abbrev pub of_one : (CapturingType → Option CapturingType) → List Claim → Option CapturingType
of_one given (OfType first ∷ []) = given first
of_one given _ = None

-- two,
abbrev pub of_two : (CapturingType → CapturingType → Option CapturingType) → List Claim → Option CapturingType
of_two given (OfType first ∷ OfType second ∷ []) = given first second
of_two given _ = None

-- or three
abbrev pub of_three : (CapturingType → CapturingType → CapturingType → Option CapturingType) → List Claim → Option CapturingType
of_three given (OfType first ∷ OfType second ∷ OfType third ∷ []) = given first second third
of_three given _ = None

-- the same where they claim a type, and that a shape is below another
abbrev pub of_type_and_shapes : (CapturingType → Shape → Shape → Option CapturingType) → List Claim → Option CapturingType
of_type_and_shapes given (OfType first ∷ ShapeBelow left right ∷ []) = given first left right
of_type_and_shapes given _ = None

-- or a type, and that a type is below another
abbrev pub of_type_and_types : (CapturingType → CapturingType → CapturingType → Option CapturingType) → List Claim
    → Option CapturingType
of_type_and_types given (OfType first ∷ TypeBelow left right ∷ []) = given first left right
of_type_and_types given _ = None

-- The types that the rules give to terms of each form, from the types that the premises claim. A variable has its
-- declared shape, and captures itself.
abbrev pub variable_given : Var → Option Bind → Option CapturingType
variable_given v (Some (TermEntry shape declared)) = Some (capturing shape (variable_set v))
variable_given v _ = None

-- a function's result is the type of its body with the position closed again
abbrev pub function_given : Context → Shape → Set → Term → CapturingType → Option CapturingType
function_given context takes c body result =
    provided (is_well_formed_type (kinds_of context) [] (capturing takes c))
    (capturing (FunctionShape takes c (closed (length context) result.shape) (closed_set (length context) result.set))
    (captured_variables (FunctionTerm takes c body)))

-- the same of a type function
abbrev pub type_function_given : Context → Shape → Term → CapturingType → Option CapturingType
type_function_given context bound body result =
    provided (is_well_formed_shape (kinds_of context) [] bound)
    (capturing (TypeFunctionShape bound (closed (length context) result.shape) (closed_set (length context) result.set))
    (captured_variables (TypeFunctionTerm bound body)))

-- a function, with an argument of the type that it takes, gives its result with the argument put in
abbrev pub application_given : Var → Shape → CapturingType → Option CapturingType
application_given argument (FunctionShape takes c gives e) given =
    provided (same_type given (capturing takes c)) (replaced_type argument (capturing gives e))
application_given argument _ given = None

-- a type function, with a shape that is below its bound, gives its result with the shape put in
abbrev pub type_application_given : Context → Shape → Shape → Shape → Shape → Option CapturingType
type_application_given context argument (TypeFunctionShape bound gives e) left right =
    provided
    (same_shape left argument && (same_shape right bound && is_well_formed_shape (kinds_of context) [] argument))
    (replaced_type_by_shape argument (capturing gives e))
type_application_given context argument _ left right = None

-- a box of what has no universal capability
abbrev pub box_given : CapturingType → Option CapturingType
box_given content = provided (has_no_cap content.set) (capturing (BoxShape content.shape content.set) empty)

-- the set that is written is that of the box's content
abbrev pub unboxing_given : Context → Set → Shape → Option CapturingType
unboxing_given context c (BoxShape shape c') =
    provided (same_set c' c && (is_well_formed_set (kinds_of context) [] c && has_no_cap c)) (capturing shape c)
unboxing_given context c _ = None

-- whether the position occurs
abbrev pub position_asked : ℕ → Question
position_asked position = record { in_set = contains (Variable (Free position)); at = same_variable (Free position) }

-- the type of a let's body does not name the variable
abbrev pub let_given : Context → Note → CapturingType → CapturingType → Option CapturingType
let_given context note bound type =
    provided (is_note_of note bound && not (occurs_in_type (position_asked (length context)) type)) type

-- an operator is on two numbers
abbrev pub primitive_given : Base → Shape → Shape → Option CapturingType
primitive_given given left right = provided (is_base left bases.Int && is_base right bases.Int) (base_type given)

-- both branches have the type that is written
abbrev pub choice_given : CapturingType → Shape → CapturingType → CapturingType → Option CapturingType
choice_given written test positive negative =
    provided (is_base test bases.Bool && (same_type positive written && same_type negative written)) written

-- a number of calls of a function from numbers to units, both with the empty set
abbrev pub repetition_given : Shape → Shape → Option CapturingType
repetition_given count function =
    provided (is_base count bases.Int
    && same_shape function (FunctionShape (BaseShape bases.Int) empty (BaseShape bases.Unit) empty))
    (base_type bases.Unit)

-- whether an argument of the shape is what the operation takes
abbrev pub is_taken : Option Base → Shape → Bool
is_taken (Some taken) shape = is_base shape taken
is_taken None shape = false

-- whether the operation takes no argument
abbrev pub is_alone : Option Base → Bool
is_alone (Some taken) = false
is_alone None = true

-- an operation with an argument,
abbrev pub operation_given : Op → Shape → Shape → Option CapturingType
operation_given operation receiver argument =
    provided (is_base receiver (base_operated operation) && is_taken (base_taken operation) argument)
    (base_type (base_answered operation))

-- and one without
abbrev pub lone_operation_given : Op → Shape → Option CapturingType
lone_operation_given operation receiver =
    provided (is_base receiver (base_operated operation) && is_alone (base_taken operation))
    (base_type (base_answered operation))

-- a boundary gives what its body does, with the empty set
abbrev pub boundary_given : Context → Shape → CapturingType → Option CapturingType
boundary_given context gives inner =
    provided (same_type inner (capturing gives empty) && is_well_formed_shape (kinds_of context) [] gives)
    (capturing gives empty)

-- the value with which a boundary is left has the shape that the exit takes, with the empty set
abbrev pub exit_given : Context → CapturingType → Shape → CapturingType → Option CapturingType
exit_given context gives (ExitShape shape) value =
    provided (same_type value (capturing shape empty) && is_well_formed_type (kinds_of context) [] gives) gives
exit_given context gives _ value = None

-- a term has each well-formed type above its own
abbrev pub widened : Context → CapturingType → CapturingType → CapturingType → Option CapturingType
widened context type lower upper =
    provided (same_type lower type && is_well_formed_type (kinds_of context) [] upper) upper

-- whether the type is the one that the rule gives
abbrev pub is_given : CapturingType → Option CapturingType → Bool
is_given type (Some given) = same_type given type
is_given type None = false

-- the rule gives the type from what the premises at the places claim
abbrev pub giving : CapturingType → List Place → (List Claim → Option CapturingType) → Row
giving type places given = row places (λ claims. is_given type (given claims))

-- the place of a variable's type
abbrev pub operand : Context → Var → Place
operand context v = TypeOf context (VariableTerm v)

-- the place under a binder of the entry
abbrev pub under : Context → Bind → Term → Place
under context entry body = TypeOf (entry ∷ context) (opened_term (length context) body)

-- the variable of a let's body has the type that the first premise claims, which may be no type
abbrev pub body_place : Context → Term → List Claim → Place
body_place context body (OfType bound ∷ claims) = under context (entry_of bound) body
body_place context body _ = Nowhere

-- The typing of a term. Where no line has the rule with the form of the term, the rule is not one for the term: an
-- unboxing needs its set, and a choice its type.
abbrev pub typing_row : Context → Rule → Term → CapturingType → Option Row
typing_row g t-var (VariableTerm v) type = Some (giving type [] (λ claims. variable_given v (entry_at g v)))
typing_row g t-lit (LiteralTerm literal) type = Some (giving type [] (λ claims. Some (base_type (base_of literal))))
typing_row g t-abs (FunctionTerm takes c body) type =
    Some (giving type (under g (TermEntry takes c) body ∷ []) (of_one (function_given g takes c body)))
typing_row g t-tabs (TypeFunctionTerm bound body) type =
    Some (giving type (under g (TypeEntry bound) body ∷ []) (of_one (type_function_given g bound body)))
typing_row g t-app (Application function argument) type =
    Some (giving type (operand g function ∷ operand g argument ∷ []) (of_two (λ head given. application_given argument head.shape given)))
typing_row g t-tapp (TypeApplication function argument) type =
    Some (giving type (operand g function ∷ ShapesBelow g ∷ []) (of_type_and_shapes (λ head left right. type_application_given g argument head.shape left right)))
typing_row g t-box (BoxTerm content) type = Some (giving type (operand g content ∷ []) (of_one box_given))
typing_row g t-unbox (Unboxing (Some c) box) type = Some (giving type (operand g box ∷ []) (of_one (λ head. unboxing_given g c head.shape)))
typing_row g t-let (Let note right body) type = Some (record {
  places = λ claims. TypeOf g right ∷ body_place g body claims ∷ [];
  is_instance = λ claims. is_given type (of_two (let_given g note) claims);
})
typing_row g t-prim (Primitive operator left right) type =
    Some (giving type (operand g left ∷ operand g right ∷ []) (of_two (λ first second. primitive_given (base_given operator) first.shape second.shape)))
typing_row g t-if (Conditional (Written shape c) test positive negative) type =
    Some (giving type (operand g test ∷ TypeOf g positive ∷ TypeOf g negative ∷ []) (of_three (λ head first second. choice_given (capturing shape c) head.shape first second)))
typing_row g t-repeat (Repetition count function) type =
    Some (giving type (operand g count ∷ operand g function ∷ []) (of_two (λ first second. repetition_given first.shape second.shape)))
typing_row g t-op (Operation operation receiver (Some argument)) type =
    Some (giving type (operand g receiver ∷ operand g argument ∷ []) (of_two (λ head given. operation_given operation head.shape given.shape)))
typing_row g t-op (Operation operation receiver None) type =
    Some (giving type (operand g receiver ∷ []) (of_one (λ head. lone_operation_given operation head.shape)))
typing_row g t-boundary (Boundary gives body) type =
    Some (giving type (under g (TermEntry (ExitShape gives) (single Cap)) body ∷ []) (of_one (boundary_given g gives)))
typing_row g t-exit (Leave gives c exit value) type =
    Some (giving type (operand g exit ∷ operand g value ∷ []) (of_two (λ head given. exit_given g (capturing gives c) head.shape given)))
typing_row g t-sub term type = Some (giving type (TypeOf g term ∷ TypesBelow g ∷ []) (of_type_and_types (widened g)))
typing_row g _ term type = None

-- What the rule says of a node at the place with the claim. There is nothing where the node does not fit its place: the
-- claim is not of the place's kind, or the rule is not one for the place's term or for the form of the claim.
abbrev pub row_at : Place → Rule → Claim → Option Row
row_at (TypeOf context term) rule (OfType type) = typing_row context rule term type
row_at (SetsBelow context) rule (SetBelow left right) = set_row context rule left right
row_at (ShapesBelow context) rule (ShapeBelow left right) = shape_row context rule left right
row_at (TypesBelow context) rule (TypeBelow left right) = type_row context rule left right
row_at _ rule claim = None
