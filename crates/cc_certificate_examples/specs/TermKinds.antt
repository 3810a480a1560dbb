-- The kinds of variables in terms and shapes, by example: each part wants a variable of terms or of types, and a term of a
-- certificate with one of the other kind is no line.
use Rattle.std.specs.Prelude.{◌≡◌, Bool, true, false, pos, List, [], ◌∷◌, Some, None}
use Rattle.cc_base.specs.Literals.{NumberLiteral}
use Rattle.cc_base.specs.declared.literal.Base.TheVariants as bases
use Rattle.cc_base.specs.declared.literal.Op.TheVariants as operations
use Rattle.cc_base.specs.declared.literal.Operator.TheVariants as operators
use Rattle.cc_capture.specs.declared.var.Elem.TheVariants.{Var as Variable}
use Rattle.cc_capture.specs.declared.var.Var.{Var}
use Rattle.cc_capture.specs.declared.var.Var.TheVariants.{Bound, Free}
use Rattle.cc_capture.specs.Sets.{Set, empty}
use Rattle.cc_core.specs.Shapes.{Shape, BaseShape, AnyShape, TypeVariable, FunctionShape, TypeFunctionShape, BoxShape}
use Rattle.cc_core.specs.Shapes.{ExitShape, capturing}
use Rattle.cc_core.specs.Substitution.{single}
use Rattle.cc_core.specs.Terms.{Absent, Written, Own, Term, VariableTerm, LiteralTerm, FunctionTerm}
use Rattle.cc_core.specs.Terms.{TypeFunctionTerm, BoxTerm, Application, TypeApplication, Unboxing, Let, Primitive}
use Rattle.cc_core.specs.Terms.{Conditional, Repetition, Operation, Boundary, Leave}
use Rattle.cc_core.specs.WellFormed.{Kind, TermKind, TypeKind, is_well_formed_shape, is_well_formed_type}
use Rattle.cc_core.specs.WellFormed.{is_well_formed_term}

-- a variable of terms, and behind it one of types
abbrev pub kinds : List Kind
kinds = TypeKind ∷ TermKind ∷ []

abbrev pub term_name : Var
term_name = Free 0

abbrev pub type_name : Var
type_name = Free 1

-- shapes and sets of either
abbrev pub right : Shape
right = TypeVariable type_name

abbrev pub wrong : Shape
wrong = TypeVariable term_name

abbrev pub right_set : Set
right_set = single (Variable term_name)

abbrev pub wrong_set : Set
wrong_set = single (Variable type_name)

abbrev pub one : Term
one = LiteralTerm (NumberLiteral (pos 1))

-- whether each part of the term is of the kind that its place wants
abbrev pub Fits : Term → Bool → Type 0
Fits term fits = is_well_formed_term kinds [] term ≡ fits

-- each form with all parts right, and with each of them wrong
pub record PartsHaveKinds : Type 0 where
  pub variable : Fits (VariableTerm term_name) true
  pub type_for_a_variable : Fits (VariableTerm type_name) false
  pub parameter : Fits (FunctionTerm right right_set (VariableTerm (Bound 0))) true
  pub type_of_a_parameter : Fits (FunctionTerm wrong right_set one) false
  pub set_of_a_parameter : Fits (FunctionTerm right wrong_set one) false
  pub body_of_a_function : Fits (FunctionTerm right right_set (VariableTerm type_name)) false
  pub bound : Fits (TypeFunctionTerm right (FunctionTerm (TypeVariable (Bound 0)) empty one)) true
  pub bound_of_a_type_function : Fits (TypeFunctionTerm wrong one) false
  pub body_of_a_type_function : Fits (TypeFunctionTerm right (VariableTerm (Bound 0))) false
  pub box : Fits (BoxTerm term_name) true
  pub content_of_a_box : Fits (BoxTerm type_name) false
  pub application : Fits (Application term_name term_name) true
  pub called : Fits (Application type_name term_name) false
  pub argument : Fits (Application term_name type_name) false
  pub type_application : Fits (TypeApplication term_name right) true
  pub applied_to_a_type : Fits (TypeApplication type_name right) false
  pub type_argument : Fits (TypeApplication term_name wrong) false
  pub unboxing : Fits (Unboxing (Some right_set) term_name) true
  pub unboxing_without_a_set : Fits (Unboxing None term_name) true
  pub set_of_an_unboxing : Fits (Unboxing (Some wrong_set) term_name) false
  pub opened : Fits (Unboxing (Some right_set) type_name) false
  pub opened_without_a_set : Fits (Unboxing None type_name) false
  pub bound_by_a_let : Fits (Let (Written right right_set) one (VariableTerm (Bound 0))) true
  pub type_of_a_let : Fits (Let (Written wrong right_set) one one) false
  pub set_of_a_let : Fits (Let (Written right wrong_set) one one) false
  pub shape_of_a_let : Fits (Let (Own wrong) one one) false
  pub right_side_of_a_let : Fits (Let Absent (VariableTerm type_name) one) false
  pub body_of_a_let : Fits (Let Absent one (VariableTerm type_name)) false
  pub operator : Fits (Primitive operators.Add term_name term_name) true
  pub left_operand : Fits (Primitive operators.Add type_name term_name) false
  pub right_operand : Fits (Primitive operators.Add term_name type_name) false
  pub choice : Fits (Conditional (Own right) term_name one one) true
  pub type_of_a_choice : Fits (Conditional (Own wrong) term_name one one) false
  pub condition : Fits (Conditional (Own right) type_name one one) false
  pub first_branch : Fits (Conditional (Own right) term_name (VariableTerm type_name) one) false
  pub second_branch : Fits (Conditional (Own right) term_name one (VariableTerm type_name)) false
  pub repetition : Fits (Repetition term_name term_name) true
  pub count : Fits (Repetition type_name term_name) false
  pub repeated : Fits (Repetition term_name type_name) false
  pub operation : Fits (Operation operations.Print term_name (Some term_name)) true
  pub operation_without_an_argument : Fits (Operation operations.Tick term_name None) true
  pub receiver : Fits (Operation operations.Print type_name (Some term_name)) false
  pub operand : Fits (Operation operations.Print term_name (Some type_name)) false
  pub boundary : Fits (Boundary right (VariableTerm (Bound 0))) true
  pub shape_of_a_boundary : Fits (Boundary wrong one) false
  pub body_of_a_boundary : Fits (Boundary right (VariableTerm type_name)) false
  pub exit : Fits (Leave right right_set term_name term_name) true
  pub type_of_an_exit : Fits (Leave wrong right_set term_name term_name) false
  pub set_of_an_exit : Fits (Leave right wrong_set term_name term_name) false
  pub left : Fits (Leave right right_set type_name term_name) false
  pub left_with : Fits (Leave right right_set term_name type_name) false

-- a shape and a set of indices of no binder
abbrev pub nowhere : Shape
nowhere = TypeVariable (Bound 0)

abbrev pub nowhere_set : Set
nowhere_set = single (Variable (Bound 1))

-- An index counts a binder that was passed, and no entry, in each part of each form.
pub record IndicesHaveBinders : Type 0 where
  pub variable : Fits (VariableTerm (Bound 1)) false
  pub parameter : Fits (FunctionTerm nowhere right_set one) false
  pub set_of_a_parameter : Fits (FunctionTerm right nowhere_set one) false
  pub bound : Fits (TypeFunctionTerm nowhere one) false
  pub box : Fits (BoxTerm (Bound 1)) false
  pub called : Fits (Application (Bound 1) term_name) false
  pub argument : Fits (Application term_name (Bound 1)) false
  pub applied_to_a_type : Fits (TypeApplication (Bound 1) right) false
  pub type_argument : Fits (TypeApplication term_name nowhere) false
  pub set_of_an_unboxing : Fits (Unboxing (Some nowhere_set) term_name) false
  pub opened : Fits (Unboxing (Some right_set) (Bound 1)) false
  pub type_of_a_let : Fits (Let (Written nowhere right_set) one one) false
  pub set_of_a_let : Fits (Let (Written right nowhere_set) one one) false
  pub shape_of_a_let : Fits (Let (Own nowhere) one one) false
  pub left_operand : Fits (Primitive operators.Add (Bound 1) term_name) false
  pub right_operand : Fits (Primitive operators.Add term_name (Bound 1)) false
  pub type_of_a_choice : Fits (Conditional (Own nowhere) term_name one one) false
  pub condition : Fits (Conditional (Own right) (Bound 1) one one) false
  pub count : Fits (Repetition (Bound 1) term_name) false
  pub repeated : Fits (Repetition term_name (Bound 1)) false
  pub receiver : Fits (Operation operations.Print (Bound 1) (Some term_name)) false
  pub operand : Fits (Operation operations.Print term_name (Some (Bound 1))) false
  pub shape_of_a_boundary : Fits (Boundary nowhere one) false
  pub type_of_an_exit : Fits (Leave nowhere right_set term_name term_name) false
  pub set_of_an_exit : Fits (Leave right nowhere_set term_name term_name) false
  pub left : Fits (Leave right right_set (Bound 1) term_name) false
  pub left_with : Fits (Leave right right_set term_name (Bound 1)) false

-- whether each part of the shape is of the kind that its place wants
abbrev pub ShapeFits : Shape → Bool → Type 0
ShapeFits shape fits = is_well_formed_shape kinds [] shape ≡ fits

-- each form of a shape with all parts right, and with each of them wrong
pub record PartsOfShapesHaveKinds : Type 0 where
  pub base : ShapeFits (BaseShape bases.Int) true
  pub any : ShapeFits AnyShape true
  pub variable : ShapeFits right true
  pub term_for_a_variable : ShapeFits wrong false
  pub variable_of_no_entry : ShapeFits (TypeVariable (Free 2)) false
  pub index_of_no_binder : ShapeFits (TypeVariable (Bound 0)) false
  pub function : ShapeFits (FunctionShape right right_set right right_set) true
  pub parameter : ShapeFits (FunctionShape wrong right_set right right_set) false
  pub set_of_a_parameter : ShapeFits (FunctionShape right wrong_set right right_set) false
  pub result : ShapeFits (FunctionShape right right_set wrong right_set) false
  pub set_of_a_result : ShapeFits (FunctionShape right right_set right wrong_set) false
  pub parameter_in_a_set : ShapeFits (FunctionShape right empty right (single (Variable (Bound 0)))) true
  pub parameter_as_a_shape : ShapeFits (FunctionShape right empty (TypeVariable (Bound 0)) empty) false
  pub parameter_in_its_own_set : ShapeFits (FunctionShape right (single (Variable (Bound 0))) right empty) false
  pub type_function : ShapeFits (TypeFunctionShape right right right_set) true
  pub bound : ShapeFits (TypeFunctionShape wrong right right_set) false
  pub result_of_a_type_function : ShapeFits (TypeFunctionShape right wrong right_set) false
  pub set_of_that_result : ShapeFits (TypeFunctionShape right right wrong_set) false
  pub type_parameter_as_a_shape : ShapeFits (TypeFunctionShape right (TypeVariable (Bound 0)) empty) true
  pub type_parameter_in_a_set : ShapeFits (TypeFunctionShape right right (single (Variable (Bound 0)))) false
  pub type_parameter_in_its_own_bound : ShapeFits (TypeFunctionShape (TypeVariable (Bound 0)) right empty) false
  pub box : ShapeFits (BoxShape right right_set) true
  pub content : ShapeFits (BoxShape wrong right_set) false
  pub set_of_a_content : ShapeFits (BoxShape right wrong_set) false
  pub exit : ShapeFits (ExitShape right) true
  pub given_by_an_exit : ShapeFits (ExitShape wrong) false
  pub type : is_well_formed_type kinds [] (capturing right right_set) ≡ true
  pub shape_of_a_type : is_well_formed_type kinds [] (capturing wrong right_set) ≡ false
  pub set_of_a_type : is_well_formed_type kinds [] (capturing right wrong_set) ≡ false
