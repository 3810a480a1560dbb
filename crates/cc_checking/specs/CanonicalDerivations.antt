-- The canonical derivation: of all derivations of what inference finds, the one in which each comparison goes by its
-- two trees, and a term's type is widened only where it was compared, exposed or avoided. It is a tree for any input;
-- what does not match has a node that is no instance of its rule.
use Rattle.std.specs.Prelude.{ℕ, zero, suc, nat_eq, List, [], ◌∷◌, length, Option, Some, None}
use Rattle.std.specs.Prelude.{if◌then◌else◌}
use Rattle.cc_base.specs.declared.literal.Base.{Base}
use Rattle.cc_base.specs.declared.literal.Base.TheVariants as bases
use Rattle.cc_base.specs.declared.literal.Op.{Op}
use Rattle.cc_capture.specs.declared.var.Var.{Var}
use Rattle.cc_capture.specs.declared.var.Var.TheVariants.{Bound, Free}
use Rattle.cc_capture.specs.declared.var.Elem.{Elem}
use Rattle.cc_capture.specs.declared.var.Elem.TheVariants.{Var as Variable}
use Rattle.cc_capture.specs.Sets.{Set, contains, empty}
use Rattle.cc_core.specs.Shapes.{Shape, BaseShape, AnyShape, TypeVariable, FunctionShape, TypeFunctionShape, BoxShape}
use Rattle.cc_core.specs.Shapes.{ExitShape, CapturingType, capturing}
use Rattle.cc_core.specs.Terms.{Note, Absent, Written, Own, Term, VariableTerm, LiteralTerm, FunctionTerm}
use Rattle.cc_core.specs.Terms.{TypeFunctionTerm, BoxTerm, Application, TypeApplication, Unboxing, Let, Primitive}
use Rattle.cc_core.specs.Terms.{Conditional, Repetition, Operation, Boundary, Leave}
use Rattle.cc_core.specs.Contexts.{Bind, TermEntry, TypeEntry, Context, lookup, entry_of}
use Rattle.cc_core.specs.Substitution.{single, opened_type, replaced_type, replaced_type_by_shape}
use Rattle.cc_core.specs.Equality.{same_shape, same_type}
use Rattle.cc_core.specs.Captured.{variable_set, optional_set}
use Rattle.cc_core.specs.Typing.{base_of, base_given, base_taken, base_answered}
use Rattle.cc_core.specs.Derivations.{ByElement, ByVariable, BySet, ByReflexivity, ByTransitivity, ByTypeVariable}
use Rattle.cc_core.specs.Derivations.{ByTop, ByFunction, ByTypeFunction, ByBox, ByCapturing, t-var, t-lit, t-abs}
use Rattle.cc_core.specs.Derivations.{t-tabs}
use Rattle.cc_core.specs.Derivations.{t-app, t-tapp, t-box, t-unbox, t-let, t-prim, t-if, t-repeat, t-op, t-boundary}
use Rattle.cc_core.specs.Derivations.{t-exit, t-sub, Claim, SetBelow, ShapeBelow, TypeBelow, OfType, Derivation, Node}
use Rattle.cc_core.specs.Derivations.{Premises, NoPremise, Premise, one, two, three, conclusion}
use Rattle.cc_checking.specs.Comparison.{is_any, bound_of}
use Rattle.cc_checking.specs.Exposing.{exposed}
use Rattle.cc_checking.specs.Weights.{enough_steps}
use Rattle.cc_checking.specs.Avoidance.{Positive, avoided_type}
use Rattle.cc_checking.specs.Inference.{result, in_context, set_in, shape_in, type_in, base_type, function_found}
use Rattle.cc_checking.specs.Inference.{type_function_found, exit_entry}

-- one premise for each element, in order
abbrev pub premises_for : (Elem → Derivation) → List Elem → Premises
premises_for derive [] = NoPremise
premises_for derive (e ∷ elements) = Premise (derive e) (premises_for derive elements)

-- an element of the right set is below it
abbrev pub member_derived : Set → Elem → Derivation
member_derived right e = Node ByElement NoPremise (SetBelow (single e) right)

-- sets, where it is given how an element is below the right one
abbrev pub elements_derived : (Elem → Derivation) → Set → Set → Derivation
elements_derived derive left right = Node BySet (premises_for derive left.list) (SetBelow left right)

-- an element at an entry: the variable of the entry is below what its declared set is below
abbrev pub derived_at : (Elem → Derivation) → Bind → ℕ → Set → Elem → Derivation
derived_at deeper (TermEntry shape declared) position right (Variable (Free other)) =
    if nat_eq other position
    then Node ByVariable (one (elements_derived deeper declared right)) (SetBelow (variable_set (Free other)) right)
    else deeper (Variable (Free other))
derived_at deeper _ position right e = deeper e

-- An element is below a set since it is a member, or else by its declared set. It is done entry by entry, the newest
-- first, since a declared set names older entries alone.
abbrev pub element_derived : Context → Set → Elem → Derivation
element_derived [] right e = member_derived right e
element_derived (entry ∷ older) right e =
    if contains e right
    then member_derived right e
    else derived_at (element_derived older right) entry (length older) right e

-- one set is below another
abbrev pub set_derived : Context → Set → Set → Derivation
set_derived context left right = elements_derived (element_derived context right) left right

-- how shapes are derived to be below each other
abbrev pub Deriving : Type 0
Deriving = Context → Shape → Shape → Derivation

-- one type is below another
abbrev pub type_derived : Deriving → Context → CapturingType → CapturingType → Derivation
type_derived derive context left right =
    Node ByCapturing (two (set_derived context left.set right.set) (derive context left.shape right.shape))
    (TypeBelow left right)

-- a shape is below itself
abbrev pub alike_derived : Shape → Shape → Derivation
alike_derived left right = Node ByReflexivity NoPremise (ShapeBelow left right)

-- a type variable is below its bound, and that below the rest
abbrev pub bound_derived : Deriving → Context → Var → Option Shape → Shape → Derivation
bound_derived derive context variable (Some bound) right =
    Node ByTransitivity
    (two (Node ByTypeVariable NoPremise (ShapeBelow (TypeVariable variable) bound)) (derive context bound right))
    (ShapeBelow (TypeVariable variable) right)
bound_derived derive context variable None right = alike_derived (TypeVariable variable) right

-- functions: what the right one takes is below what the left one does, and then what they give
abbrev pub functions_derived : Deriving → Context → CapturingType → CapturingType → Shape → Derivation
functions_derived derive context takes gives (FunctionShape takes' c' gives' e') =
    Node ByFunction
    (two
    (type_derived derive context (capturing takes' c') takes)
    (type_derived derive (TermEntry takes' c' ∷ context) (opened_type (length context) gives)
    (opened_type (length context) (capturing gives' e'))))
    (ShapeBelow (FunctionShape takes.shape takes.set gives.shape gives.set) (FunctionShape takes' c' gives' e'))
functions_derived derive context takes gives right =
    alike_derived (FunctionShape takes.shape takes.set gives.shape gives.set) right

-- type functions of one bound
abbrev pub type_functions_derived : Deriving → Context → Shape → CapturingType → Shape → Derivation
type_functions_derived derive context bound gives (TypeFunctionShape bound' gives' e') =
    Node ByTypeFunction
    (two
    (alike_derived bound bound')
    (type_derived derive (TypeEntry bound ∷ context) (opened_type (length context) gives)
    (opened_type (length context) (capturing gives' e'))))
    (ShapeBelow (TypeFunctionShape bound gives.shape gives.set) (TypeFunctionShape bound' gives' e'))
type_functions_derived derive context bound gives right =
    alike_derived (TypeFunctionShape bound gives.shape gives.set) right

-- boxes
abbrev pub boxes_derived : Deriving → Context → CapturingType → Shape → Derivation
boxes_derived derive context content (BoxShape content' c') =
    Node ByBox (one (type_derived derive context content (capturing content' c')))
    (ShapeBelow (BoxShape content.shape content.set) (BoxShape content' c'))
boxes_derived derive context content right = alike_derived (BoxShape content.shape content.set) right

-- two shapes that differ, by the form of the left one
unfoldable pub form_derived : Deriving → Context → Shape → Shape → Derivation
form_derived derive context (BaseShape base) right = alike_derived (BaseShape base) right
form_derived derive context AnyShape right = alike_derived AnyShape right
form_derived derive context (TypeVariable variable) right =
    bound_derived derive context variable (bound_of context variable) right
form_derived derive context (FunctionShape takes c gives e) right =
    functions_derived derive context (capturing takes c) (capturing gives e) right
form_derived derive context (TypeFunctionShape bound gives e) right =
    type_functions_derived derive context bound (capturing gives e) right
form_derived derive context (BoxShape content c) right = boxes_derived derive context (capturing content c) right
form_derived derive context (ExitShape gives) right = alike_derived (ExitShape gives) right

-- two shapes in so many steps, as the comparison goes
unfoldable pub shape_derived : ℕ → Context → Shape → Shape → Derivation
shape_derived zero context left right = alike_derived left right
shape_derived (suc steps) context left right =
    if same_shape left right then alike_derived left right
    else if is_any right then Node ByTop NoPremise (ShapeBelow left right)
    else form_derived (shape_derived steps) context left right

-- two shapes, in as many steps as are enough
abbrev pub canonical_shapes : Context → Shape → Shape → Derivation
canonical_shapes context left right = shape_derived (enough_steps context left right) context left right

-- the type that a claim gives to its term; other claims give none
abbrev pub claimed_type : Claim → CapturingType
claimed_type (OfType type) = type
claimed_type _ = base_type bases.Unit

-- the type that a derivation gives to its term
abbrev pub typed : Derivation → CapturingType
typed derivation = claimed_type (conclusion derivation)

-- the type of the term is widened
abbrev pub raised : Deriving → Context → Derivation → CapturingType → Derivation
raised derive context part type =
    Node t-sub (two part (type_derived derive context (typed part) type)) (OfType type)

-- it is widened where it differs
abbrev pub raised_if : Deriving → Context → Derivation → CapturingType → Derivation
raised_if derive context part type =
    if same_type (typed part) type then part else raised derive context part type

-- the shape of an entry
abbrev pub shape_of_entry : Option Bind → Shape
shape_of_entry (Some (TermEntry shape set)) = shape
shape_of_entry (Some (TypeEntry bound)) = AnyShape
shape_of_entry None = AnyShape

-- the shape of a variable
abbrev pub shape_at : Context → Var → Shape
shape_at context (Free position) = shape_of_entry (lookup context position)
shape_at context (Bound index) = AnyShape

-- a variable
abbrev pub variable_derived : Context → Var → Derivation
variable_derived context variable =
    Node t-var NoPremise (OfType (capturing (shape_at context variable) (variable_set variable)))

-- a head is widened where exposing changes its shape
abbrev pub head_derived : Deriving → Context → Var → Derivation
head_derived derive context variable =
    raised_if derive context (variable_derived context variable)
    (capturing (exposed context (shape_at context variable)) (variable_set variable))

-- an operand of a shape is widened to that shape, with itself as its set
abbrev pub operand_derived : Deriving → Context → Var → Shape → Derivation
operand_derived derive context variable shape =
    raised derive context (variable_derived context variable) (capturing shape (variable_set variable))

-- a variable that was compared with a type is widened to that type
abbrev pub given_derived : Deriving → Context → Var → CapturingType → Derivation
given_derived derive context variable type = raised derive context (variable_derived context variable) type

-- a term that has no derivation: the node is no instance of its rule
abbrev pub nothing_derived : Derivation
nothing_derived = Node t-sub NoPremise (OfType (base_type bases.Unit))

-- an application, whose head is exposed to the shape
abbrev pub application_derived : Deriving → Context → Var → Var → Shape → Derivation
application_derived derive context function argument (FunctionShape takes c gives e) =
    Node t-app (two (head_derived derive context function) (given_derived derive context argument (capturing takes c)))
    (OfType (replaced_type argument (capturing gives e)))
application_derived derive context function argument _ = nothing_derived

-- the application of a type function
abbrev pub type_application_derived : Deriving → Context → Var → Shape → Shape → Derivation
type_application_derived derive context function argument (TypeFunctionShape bound gives e) =
    Node t-tapp (two (head_derived derive context function) (derive context argument bound))
    (OfType (replaced_type_by_shape argument (capturing gives e)))
type_application_derived derive context function argument _ = nothing_derived

-- an unboxing: its head is always widened, to a box of its content under the set of the unboxing
abbrev pub unboxing_derived : Deriving → Context → Set → Var → Shape → Derivation
unboxing_derived derive context set box (BoxShape content c) =
    Node t-unbox (one (given_derived derive context box (capturing (BoxShape content set) (variable_set box))))
    (OfType (capturing content set))
unboxing_derived derive context set box _ = nothing_derived

-- an operation of a device, whose receiver is a head
abbrev pub operation_derived : Deriving → Context → Op → Var → Option Var → Option Base → Derivation
operation_derived derive context operation receiver (Some argument) (Some base) =
    Node t-op
    (two (head_derived derive context receiver) (operand_derived derive context argument (BaseShape base)))
    (OfType (base_type (base_answered operation)))
operation_derived derive context operation receiver None None =
    Node t-op (one (head_derived derive context receiver)) (OfType (base_type (base_answered operation)))
operation_derived derive context operation receiver _ _ = nothing_derived

-- an exit, whose head is exposed to the shape
abbrev pub exit_derived : Deriving → Context → CapturingType → Var → Var → Shape → Derivation
exit_derived derive context gives exit value (ExitShape takes) =
    Node t-exit (two (head_derived derive context exit) (given_derived derive context value (capturing takes empty)))
    (OfType gives)
exit_derived derive context gives exit value _ = nothing_derived

-- an argument as it stands in the context
abbrev pub argument_in : Context → Option Var → Option Var
argument_in context (Some variable) = Some (in_context context variable)
argument_in context None = None

-- what is written for a type is what the type is widened to
abbrev pub noted_derived : Deriving → Context → Note → Derivation → Derivation
noted_derived derive context (Written shape set) part =
    raised derive context part (type_in context (capturing shape set))
noted_derived derive context Absent part = part
noted_derived derive context (Own shape) part = part

-- the type where there is one, else the one before
abbrev pub avoided_or : CapturingType → Option CapturingType → CapturingType
avoided_or before (Some type) = type
avoided_or before None = before

-- the body of a let is widened where avoiding the variable changes its type
abbrev pub left_derived : Deriving → Context → CapturingType → Derivation → Derivation
left_derived derive context named part =
    raised_if derive (entry_of named ∷ context) part
    (avoided_or (typed part) (avoided_type Positive (length context) named.set (typed part)))

-- a let of the right side and the body
abbrev pub let_node : Derivation → Derivation → Derivation
let_node right body = Node t-let (two right body) (OfType (typed body))

-- a let, where the body's derivation is given for each entry
abbrev pub let_derived : Deriving → Context → Derivation → (Bind → Derivation) → Derivation
let_derived derive context right body =
    let_node right (left_derived derive context (typed right) (body (entry_of (typed right))))

-- a function over its body, and a type function
abbrev pub function_node : Context → Shape → Set → Term → Derivation → Derivation
function_node context takes c body part =
    Node t-abs (one part) (OfType (function_found context takes c (result (typed part) body)).type)

abbrev pub type_function_node : Context → Shape → Term → Derivation → Derivation
type_function_node context bound body part =
    Node t-tabs (one part) (OfType (type_function_found context bound (result (typed part) body)).type)

-- a choice, whose branches are widened to the type that is written
abbrev pub choice_derived : Deriving → Context → Note → Var → Derivation → Derivation → Derivation
choice_derived derive context (Written shape set) test positive negative =
    Node t-if
    (three
    (operand_derived derive context test (BaseShape bases.Bool))
    (raised derive context positive (type_in context (capturing shape set)))
    (raised derive context negative (type_in context (capturing shape set))))
    (OfType (type_in context (capturing shape set)))
choice_derived derive context Absent test positive negative = nothing_derived
choice_derived derive context (Own shape) test positive negative = nothing_derived

-- a boundary, whose body is widened to the shape with the empty set
abbrev pub boundary_node : Deriving → Context → Shape → Derivation → Derivation
boundary_node derive context gives part =
    Node t-boundary (one (raised derive (exit_entry gives ∷ context) part (capturing gives empty)))
    (OfType (capturing gives empty))

-- the canonical derivation of a term that has all its sets
abbrev pub term_derived : Deriving → Context → Term → Derivation
term_derived derive context (VariableTerm variable) = variable_derived context (in_context context variable)
term_derived derive context (LiteralTerm literal) = Node t-lit NoPremise (OfType (base_type (base_of literal)))
term_derived derive context (FunctionTerm takes c body) =
    function_node context takes c body
    (term_derived derive (entry_of (type_in context (capturing takes c)) ∷ context) body)
term_derived derive context (TypeFunctionTerm bound body) =
    type_function_node context bound body (term_derived derive (TypeEntry (shape_in context bound) ∷ context) body)
term_derived derive context (BoxTerm content) =
    Node t-box (one (variable_derived context (in_context context content)))
    (OfType
    (capturing (BoxShape (shape_at context (in_context context content)) (variable_set (in_context context content)))
    empty))
term_derived derive context (Application function argument) =
    application_derived derive context (in_context context function) (in_context context argument)
    (exposed context (shape_at context (in_context context function)))
term_derived derive context (TypeApplication function argument) =
    type_application_derived derive context (in_context context function) (shape_in context argument)
    (exposed context (shape_at context (in_context context function)))
term_derived derive context (Unboxing set box) =
    unboxing_derived derive context (set_in context (optional_set set)) (in_context context box)
    (exposed context (shape_at context (in_context context box)))
term_derived derive context (Let note right body) =
    let_derived derive context (noted_derived derive context note (term_derived derive context right))
    (λ (entry : Bind). term_derived derive (entry ∷ context) body)
term_derived derive context (Primitive operator left right) =
    Node t-prim
    (two
    (operand_derived derive context (in_context context left) (BaseShape bases.Int))
    (operand_derived derive context (in_context context right) (BaseShape bases.Int)))
    (OfType (base_type (base_given operator)))
term_derived derive context (Conditional note test positive negative) =
    choice_derived derive context note (in_context context test) (term_derived derive context positive)
    (term_derived derive context negative)
term_derived derive context (Repetition count function) =
    Node t-repeat
    (two
    (operand_derived derive context (in_context context count) (BaseShape bases.Int))
    (operand_derived derive context (in_context context function)
    (FunctionShape (BaseShape bases.Int) empty (BaseShape bases.Unit) empty)))
    (OfType (base_type bases.Unit))
term_derived derive context (Operation operation receiver argument) =
    operation_derived derive context operation (in_context context receiver) (argument_in context argument)
    (base_taken operation)
term_derived derive context (Boundary gives body) =
    boundary_node derive context (shape_in context gives)
    (term_derived derive (exit_entry (shape_in context gives) ∷ context) body)
term_derived derive context (Leave gives c exit value) =
    exit_derived derive context (type_in context (capturing gives c)) (in_context context exit)
    (in_context context value) (exposed context (shape_at context (in_context context exit)))

-- The canonical derivation of a definition's right side, with what was written for its type: it is widened to its
-- signature where that differs.
abbrev pub definition_derived : Deriving → Context → Note → Term → CapturingType → Derivation
definition_derived derive context note filled signature =
    raised_if derive context (noted_derived derive context note (term_derived derive context filled)) signature
