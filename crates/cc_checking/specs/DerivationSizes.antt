-- How many nodes the canonical derivation has, counted without building it.
use Rattle.std.specs.Prelude.{ℕ, zero, suc, ◌+◌, nat_eq, List, [], ◌∷◌, length, Option, Some, None, if◌then◌else◌}
use Rattle.cc_base.specs.declared.literal.Base.{Base}
use Rattle.cc_base.specs.declared.literal.Base.TheVariants as bases
use Rattle.cc_base.specs.declared.literal.Op.{Op}
use Rattle.cc_capture.specs.declared.var.Var.{Var}
use Rattle.cc_capture.specs.declared.var.Var.TheVariants.{Free}
use Rattle.cc_capture.specs.declared.var.Elem.{Elem}
use Rattle.cc_capture.specs.declared.var.Elem.TheVariants.{Var as Variable}
use Rattle.cc_capture.specs.Sets.{Set, contains, empty}
use Rattle.cc_core.specs.Shapes.{Shape, BaseShape, AnyShape, TypeVariable, FunctionShape, TypeFunctionShape, BoxShape}
use Rattle.cc_core.specs.Shapes.{ExitShape, CapturingType, capturing}
use Rattle.cc_core.specs.Terms.{Note, Absent, Written, Own, Term, VariableTerm, LiteralTerm, FunctionTerm}
use Rattle.cc_core.specs.Terms.{TypeFunctionTerm, BoxTerm, Application, TypeApplication, Unboxing, Let, Primitive}
use Rattle.cc_core.specs.Terms.{Conditional, Repetition, Operation, Boundary, Leave}
use Rattle.cc_core.specs.Contexts.{Bind, TermEntry, TypeEntry, Context, entry_of}
use Rattle.cc_core.specs.Substitution.{opened_type, replaced_type, replaced_type_by_shape}
use Rattle.cc_core.specs.Equality.{same_shape, same_type}
use Rattle.cc_core.specs.Captured.{variable_set, optional_set}
use Rattle.cc_core.specs.Typing.{base_of, base_given, base_taken, base_answered}
use Rattle.cc_core.specs.Derivations.{Derivation, Node, Premises, NoPremise, Premise}
use Rattle.cc_checking.specs.Comparison.{is_any, bound_of}
use Rattle.cc_checking.specs.Exposing.{exposed}
use Rattle.cc_checking.specs.Weights.{enough_steps}
use Rattle.cc_checking.specs.Avoidance.{Positive, avoided_type}
use Rattle.cc_checking.specs.Inference.{result, in_context, set_in, shape_in, type_in, base_type, function_found}
use Rattle.cc_checking.specs.Inference.{type_function_found, exit_entry}
use Rattle.cc_checking.specs.CanonicalDerivations.{shape_at, argument_in, avoided_or}

abbrev mutual
  -- how many nodes a tree has
  pub nodes : Derivation → ℕ
  nodes (Node rule premises claim) = 1 + nodes_of premises

  -- how many nodes the trees have together
  pub nodes_of : Premises → ℕ
  nodes_of NoPremise = 0
  nodes_of (Premise first rest) = nodes first + nodes_of rest

-- the sum of a number for each element
abbrev pub sum_of : (Elem → ℕ) → List Elem → ℕ
sum_of count [] = 0
sum_of count (e ∷ elements) = count e + sum_of count elements

-- the nodes of an element at an entry
abbrev pub nodes_at : (Elem → ℕ) → Bind → ℕ → Elem → ℕ
nodes_at deeper (TermEntry shape declared) position (Variable (Free other)) =
    if nat_eq other position then 2 + sum_of deeper declared.list else deeper (Variable (Free other))
nodes_at deeper _ position e = deeper e

-- the nodes by which an element is below a set
abbrev pub element_nodes : Context → Set → Elem → ℕ
element_nodes [] right e = 1
element_nodes (entry ∷ older) right e =
    if contains e right then 1 else nodes_at (element_nodes older right) entry (length older) e

-- those by which a set is below another
abbrev pub set_nodes : Context → Set → Set → ℕ
set_nodes context left right = 1 + sum_of (element_nodes context right) left.list

-- how the nodes of shapes are counted
abbrev pub Counting : Type 0
Counting = Context → Shape → Shape → ℕ

-- those by which a type is below another
abbrev pub type_nodes : Counting → Context → CapturingType → CapturingType → ℕ
type_nodes count context left right =
    1 + (set_nodes context left.set right.set + count context left.shape right.shape)

-- by its bound
abbrev pub bound_nodes : Counting → Context → Option Shape → Shape → ℕ
bound_nodes count context (Some bound) right = 2 + count context bound right
bound_nodes count context None right = 1

-- by what functions take and give
abbrev pub function_nodes : Counting → Context → CapturingType → CapturingType → Shape → ℕ
function_nodes count context takes gives (FunctionShape takes' c' gives' e') =
    1 + (type_nodes count context (capturing takes' c') takes
    + type_nodes count (TermEntry takes' c' ∷ context) (opened_type (length context) gives)
    (opened_type (length context) (capturing gives' e')))
function_nodes count context takes gives right = 1

-- by what type functions give
abbrev pub type_function_nodes : Counting → Context → Shape → CapturingType → Shape → ℕ
type_function_nodes count context bound gives (TypeFunctionShape bound' gives' e') =
    2 + type_nodes count (TypeEntry bound ∷ context) (opened_type (length context) gives)
    (opened_type (length context) (capturing gives' e'))
type_function_nodes count context bound gives right = 1

-- by the contents of boxes
abbrev pub box_nodes : Counting → Context → CapturingType → Shape → ℕ
box_nodes count context content (BoxShape content' c') =
    1 + type_nodes count context content (capturing content' c')
box_nodes count context content right = 1

-- the nodes of two shapes that differ
unfoldable pub form_nodes : Counting → Context → Shape → Shape → ℕ
form_nodes count context (BaseShape base) right = 1
form_nodes count context AnyShape right = 1
form_nodes count context (TypeVariable variable) right = bound_nodes count context (bound_of context variable) right
form_nodes count context (FunctionShape takes c gives e) right =
    function_nodes count context (capturing takes c) (capturing gives e) right
form_nodes count context (TypeFunctionShape bound gives e) right =
    type_function_nodes count context bound (capturing gives e) right
form_nodes count context (BoxShape content c) right = box_nodes count context (capturing content c) right
form_nodes count context (ExitShape gives) right = 1

-- the nodes by which a shape is below another, in so many steps
unfoldable pub shape_nodes : ℕ → Context → Shape → Shape → ℕ
shape_nodes zero context left right = 1
shape_nodes (suc steps) context left right =
    if same_shape left right then 1
    else if is_any right then 1
    else form_nodes (shape_nodes steps) context left right

-- in as many steps as are enough
abbrev pub canonical_shape_nodes : Context → Shape → Shape → ℕ
canonical_shape_nodes context left right = shape_nodes (enough_steps context left right) context left right

-- the type that a derivation gives, and its nodes
pub record Counted : Type 0 where
  pub type : CapturingType
  pub nodes : ℕ

-- that type and so many nodes
abbrev pub counted : CapturingType → ℕ → Counted
counted type number = record { type = type; nodes = number }

-- the nodes with the type widened
abbrev pub raised_counted : Counting → Context → Counted → CapturingType → Counted
raised_counted count context part type =
    counted type (1 + (part.nodes + type_nodes count context part.type type))

-- with the type widened where it differs
abbrev pub raised_counted_if : Counting → Context → Counted → CapturingType → Counted
raised_counted_if count context part type =
    if same_type part.type type then part else raised_counted count context part type

-- the one node of a variable
abbrev pub variable_counted : Context → Var → Counted
variable_counted context variable = counted (capturing (shape_at context variable) (variable_set variable)) 1

-- the nodes of a head
abbrev pub head_counted : Counting → Context → Var → Counted
head_counted count context variable =
    raised_counted_if count context (variable_counted context variable)
    (capturing (exposed context (shape_at context variable)) (variable_set variable))

-- of a variable that was compared with a type
abbrev pub given_counted : Counting → Context → Var → CapturingType → Counted
given_counted count context variable type = raised_counted count context (variable_counted context variable) type

-- of an operand of a shape
abbrev pub operand_counted : Counting → Context → Var → Shape → Counted
operand_counted count context variable shape =
    given_counted count context variable (capturing shape (variable_set variable))

-- a term that has no derivation
abbrev pub nothing_counted : Counted
nothing_counted = counted (base_type bases.Unit) 1

-- an application, whose head is exposed to the shape
abbrev pub application_counted : Counting → Context → Var → Var → Shape → Counted
application_counted count context function argument (FunctionShape takes c gives e) =
    counted (replaced_type argument (capturing gives e))
    (1 + ((head_counted count context function).nodes
    + (given_counted count context argument (capturing takes c)).nodes))
application_counted count context function argument _ = nothing_counted

-- the application of a type function
abbrev pub type_application_counted : Counting → Context → Var → Shape → Shape → Counted
type_application_counted count context function argument (TypeFunctionShape bound gives e) =
    counted (replaced_type_by_shape argument (capturing gives e))
    (1 + ((head_counted count context function).nodes + count context argument bound))
type_application_counted count context function argument _ = nothing_counted

-- an unboxing
abbrev pub unboxing_counted : Counting → Context → Set → Var → Shape → Counted
unboxing_counted count context set box (BoxShape content c) =
    counted (capturing content set)
    (1 + (given_counted count context box (capturing (BoxShape content set) (variable_set box))).nodes)
unboxing_counted count context set box _ = nothing_counted

-- an operation of a device
abbrev pub operation_counted : Counting → Context → Op → Var → Option Var → Option Base → Counted
operation_counted count context operation receiver (Some argument) (Some base) =
    counted (base_type (base_answered operation))
    (1 + ((head_counted count context receiver).nodes
    + (operand_counted count context argument (BaseShape base)).nodes))
operation_counted count context operation receiver None None =
    counted (base_type (base_answered operation)) (1 + (head_counted count context receiver).nodes)
operation_counted count context operation receiver _ _ = nothing_counted

-- an exit
abbrev pub exit_counted : Counting → Context → CapturingType → Var → Var → Shape → Counted
exit_counted count context gives exit value (ExitShape takes) =
    counted gives
    (1 + ((head_counted count context exit).nodes
    + (given_counted count context value (capturing takes empty)).nodes))
exit_counted count context gives exit value _ = nothing_counted

-- with what is written for the type
abbrev pub noted_counted : Counting → Context → Note → Counted → Counted
noted_counted count context (Written shape set) part =
    raised_counted count context part (type_in context (capturing shape set))
noted_counted count context Absent part = part
noted_counted count context (Own shape) part = part

-- the body of a let
abbrev pub left_counted : Counting → Context → CapturingType → Counted → Counted
left_counted count context named part =
    raised_counted_if count (entry_of named ∷ context) part
    (avoided_or part.type (avoided_type Positive (length context) named.set part.type))

-- the right side and the body of a let
abbrev pub let_nodes : Counted → Counted → Counted
let_nodes right body = counted body.type (1 + (right.nodes + body.nodes))

-- a let
abbrev pub let_counted : Counting → Context → Counted → (Bind → Counted) → Counted
let_counted count context right body =
    let_nodes right (left_counted count context right.type (body (entry_of right.type)))

-- a function, and a type function
abbrev pub function_counted : Context → Shape → Set → Term → Counted → Counted
function_counted context takes c body part =
    counted (function_found context takes c (result part.type body)).type (1 + part.nodes)

abbrev pub type_function_counted : Context → Shape → Term → Counted → Counted
type_function_counted context bound body part =
    counted (type_function_found context bound (result part.type body)).type (1 + part.nodes)

-- a choice
abbrev pub choice_counted : Counting → Context → Note → Var → Counted → Counted → Counted
choice_counted count context (Written shape set) test positive negative =
    counted (type_in context (capturing shape set))
    (1 + ((operand_counted count context test (BaseShape bases.Bool)).nodes
    + ((raised_counted count context positive (type_in context (capturing shape set))).nodes
    + (raised_counted count context negative (type_in context (capturing shape set))).nodes)))
choice_counted count context Absent test positive negative = nothing_counted
choice_counted count context (Own shape) test positive negative = nothing_counted

-- a boundary
abbrev pub boundary_counted : Counting → Context → Shape → Counted → Counted
boundary_counted count context gives part =
    counted (capturing gives empty)
    (1 + (raised_counted count (exit_entry gives ∷ context) part (capturing gives empty)).nodes)

-- the type and the number of nodes of a term's canonical derivation
abbrev pub term_counted : Counting → Context → Term → Counted
term_counted count context (VariableTerm variable) = variable_counted context (in_context context variable)
term_counted count context (LiteralTerm literal) = counted (base_type (base_of literal)) 1
term_counted count context (FunctionTerm takes c body) =
    function_counted context takes c body
    (term_counted count (entry_of (type_in context (capturing takes c)) ∷ context) body)
term_counted count context (TypeFunctionTerm bound body) =
    type_function_counted context bound body (term_counted count (TypeEntry (shape_in context bound) ∷ context) body)
term_counted count context (BoxTerm content) =
    counted
    (capturing (BoxShape (shape_at context (in_context context content)) (variable_set (in_context context content)))
    empty)
    2
term_counted count context (Application function argument) =
    application_counted count context (in_context context function) (in_context context argument)
    (exposed context (shape_at context (in_context context function)))
term_counted count context (TypeApplication function argument) =
    type_application_counted count context (in_context context function) (shape_in context argument)
    (exposed context (shape_at context (in_context context function)))
term_counted count context (Unboxing set box) =
    unboxing_counted count context (set_in context (optional_set set)) (in_context context box)
    (exposed context (shape_at context (in_context context box)))
term_counted count context (Let note right body) =
    let_counted count context (noted_counted count context note (term_counted count context right))
    (λ (entry : Bind). term_counted count (entry ∷ context) body)
term_counted count context (Primitive operator left right) =
    counted (base_type (base_given operator))
    (1 + ((operand_counted count context (in_context context left) (BaseShape bases.Int)).nodes
    + (operand_counted count context (in_context context right) (BaseShape bases.Int)).nodes))
term_counted count context (Conditional note test positive negative) =
    choice_counted count context note (in_context context test) (term_counted count context positive)
    (term_counted count context negative)
term_counted count context (Repetition times function) =
    counted (base_type bases.Unit)
    (1 + ((operand_counted count context (in_context context times) (BaseShape bases.Int)).nodes
    + (operand_counted count context (in_context context function)
    (FunctionShape (BaseShape bases.Int) empty (BaseShape bases.Unit) empty)).nodes))
term_counted count context (Operation operation receiver argument) =
    operation_counted count context operation (in_context context receiver) (argument_in context argument)
    (base_taken operation)
term_counted count context (Boundary gives body) =
    boundary_counted count context (shape_in context gives)
    (term_counted count (exit_entry (shape_in context gives) ∷ context) body)
term_counted count context (Leave gives c exit value) =
    exit_counted count context (type_in context (capturing gives c)) (in_context context exit)
    (in_context context value) (exposed context (shape_at context (in_context context exit)))

-- the same of a definition
abbrev pub definition_counted : Counting → Context → Note → Term → CapturingType → Counted
definition_counted count context note filled signature =
    raised_counted_if count context (noted_counted count context note (term_counted count context filled)) signature
