-- Worked heights of shapes, terms and claims: each form with each of its parts as the highest one.
use Rattle.std.specs.Prelude.{◌≡◌, true, Some, None, codes, pos}
use Rattle.cc_base.specs.Literals.{UnitLiteral, TruthLiteral, NumberLiteral, TextLiteral}
use Rattle.cc_base.specs.declared.literal.Base.TheVariants as bases
use Rattle.cc_base.specs.declared.literal.Op.TheVariants as operations
use Rattle.cc_base.specs.declared.literal.Operator.TheVariants as operators
use Rattle.cc_capture.specs.declared.var.Var.TheVariants.{Bound, Free}
use Rattle.cc_capture.specs.Sets.{empty}
use Rattle.cc_core.specs.Shapes.{Shape, BaseShape, AnyShape, TypeVariable, FunctionShape, TypeFunctionShape, BoxShape}
use Rattle.cc_core.specs.Shapes.{ExitShape, capturing}
use Rattle.cc_core.specs.Terms.{Absent, Written, Own, Term, VariableTerm, LiteralTerm, FunctionTerm, TypeFunctionTerm}
use Rattle.cc_core.specs.Terms.{BoxTerm, Application, TypeApplication, Unboxing, Let, Primitive, Conditional}
use Rattle.cc_core.specs.Terms.{Repetition, Operation, Boundary, Leave}
use Rattle.cc_core.specs.Derivations.{SetBelow, ShapeBelow, TypeBelow, OfType}
use Rattle.cc_certificate_text.specs.Certificates.{claim_height}
use Rattle.cc_certificate_text.specs.Heights.{shape_height, note_height, term_height}

-- Int, Box[Int] and Box[Box[Int]], of the heights 1, 2 and 3
abbrev pub number : Shape
number = BaseShape bases.Int

abbrev pub boxed : Shape
boxed = BoxShape number empty

abbrev pub boxed_twice : Shape
boxed_twice = BoxShape (BoxShape number empty) empty

-- a variable, and let _ = _ in let _ = _ in _, of the heights 1 and 3
abbrev pub name : Term
name = VariableTerm (Bound 0)

abbrev pub names : Term
names = Let Absent name (Let Absent name name)

-- A shape without parts has the height 1, and any other is one higher than its highest part.
pub record HeightsOfShapes : Type 0 where
  pub base : shape_height (BaseShape bases.Counter) ≡ 1
  pub greatest : shape_height AnyShape ≡ 1
  pub variable : shape_height (TypeVariable (Bound 7)) ≡ 1
  pub variable_of_the_context : shape_height (TypeVariable (Free 7)) ≡ 1
  pub function : shape_height (FunctionShape number empty number empty) ≡ 2
  pub parameter_of_a_function : shape_height (FunctionShape boxed_twice empty number empty) ≡ 4
  pub result_of_a_function : shape_height (FunctionShape number empty boxed_twice empty) ≡ 4
  -- the parts are not added
  pub both_parts_of_a_function : shape_height (FunctionShape boxed_twice empty boxed empty) ≡ 4
  pub type_function : shape_height (TypeFunctionShape number number empty) ≡ 2
  pub bound_of_a_type_function : shape_height (TypeFunctionShape boxed_twice number empty) ≡ 4
  pub result_of_a_type_function : shape_height (TypeFunctionShape number boxed_twice empty) ≡ 4
  pub both_parts_of_a_type_function : shape_height (TypeFunctionShape boxed boxed_twice empty) ≡ 4
  pub box : shape_height (BoxShape number empty) ≡ 2
  pub box_of_boxes : shape_height (BoxShape boxed_twice empty) ≡ 4
  pub exit : shape_height (ExitShape number) ≡ 2
  pub exit_of_boxes : shape_height (ExitShape boxed_twice) ≡ 4

-- What is written for a type is as high as its shape; nothing has no height.
pub record HeightsOfNotes : Type 0 where
  pub nothing : note_height Absent ≡ 0
  pub shape : note_height (Written number empty) ≡ 1
  pub boxes : note_height (Written boxed_twice empty) ≡ 3
  pub omitted_set : note_height (Own boxed_twice) ≡ 3

-- A variable and a literal have the height 1, and any other term is one higher than its highest part, be it a
-- variable, a term, a type or a shape.
pub record HeightsOfTerms : Type 0 where
  pub bound_variable : term_height (VariableTerm (Bound 3)) ≡ 1
  pub free_variable : term_height (VariableTerm (Free 3)) ≡ 1
  pub unit_value : term_height (LiteralTerm UnitLiteral) ≡ 1
  pub truth : term_height (LiteralTerm (TruthLiteral true)) ≡ 1
  pub literal_number : term_height (LiteralTerm (NumberLiteral (pos 7))) ≡ 1
  pub text : term_height (LiteralTerm (TextLiteral (codes "abc"))) ≡ 1
  pub function : term_height (FunctionTerm number empty name) ≡ 2
  pub parameter : term_height (FunctionTerm boxed_twice empty name) ≡ 4
  pub body_of_a_function : term_height (FunctionTerm number empty names) ≡ 4
  pub both_parts_of_a_function : term_height (FunctionTerm boxed empty names) ≡ 4
  pub type_function : term_height (TypeFunctionTerm number name) ≡ 2
  pub bound : term_height (TypeFunctionTerm boxed_twice name) ≡ 4
  pub body_of_a_type_function : term_height (TypeFunctionTerm number names) ≡ 4
  pub box : term_height (BoxTerm (Bound 0)) ≡ 2
  pub application : term_height (Application (Bound 0) (Bound 1)) ≡ 2
  pub type_application : term_height (TypeApplication (Bound 0) number) ≡ 2
  pub argument_of_boxes : term_height (TypeApplication (Bound 0) boxed_twice) ≡ 4
  pub unboxing : term_height (Unboxing (Some empty) (Bound 0)) ≡ 2
  pub unboxing_of_an_omitted_set : term_height (Unboxing None (Bound 0)) ≡ 2
  pub let_of_variables : term_height (Let Absent name name) ≡ 2
  pub let_of_a_type : term_height (Let (Written number empty) name name) ≡ 2
  pub note_of_a_let : term_height (Let (Written boxed_twice empty) name name) ≡ 4
  pub right_side_of_a_let : term_height (Let Absent names name) ≡ 4
  pub body_of_a_let : term_height (Let Absent name names) ≡ 4
  pub all_parts_of_a_let : term_height (Let (Written boxed empty) names (Let Absent name name)) ≡ 4
  pub operator : term_height (Primitive operators.Add (Bound 0) (Bound 1)) ≡ 2
  pub choice : term_height (Conditional (Written number empty) (Bound 0) name name) ≡ 2
  -- the test of a choice is one of its parts
  pub choice_of_no_type : term_height (Conditional Absent (Bound 0) name name) ≡ 2
  pub type_of_a_choice : term_height (Conditional (Written boxed_twice empty) (Bound 0) name name) ≡ 4
  pub first_branch : term_height (Conditional (Written number empty) (Bound 0) names name) ≡ 4
  pub second_branch : term_height (Conditional (Written number empty) (Bound 0) name names) ≡ 4
  pub repetition : term_height (Repetition (Bound 0) (Bound 1)) ≡ 2
  pub operation : term_height (Operation operations.Print (Bound 0) (Some (Bound 1))) ≡ 2
  pub operation_alone : term_height (Operation operations.Tick (Bound 0) None) ≡ 2
  pub boundary : term_height (Boundary number name) ≡ 2
  pub shape_of_a_boundary : term_height (Boundary boxed_twice name) ≡ 4
  pub body_of_a_boundary : term_height (Boundary number names) ≡ 4
  pub exit : term_height (Leave number empty (Bound 0) (Bound 1)) ≡ 2
  pub type_of_an_exit : term_height (Leave boxed_twice empty (Bound 0) (Bound 1)) ≡ 4

-- A claim is as high as the higher one of its sides; sets have no height.
pub record HeightsOfClaims : Type 0 where
  pub sets : claim_height (SetBelow empty empty) ≡ 0
  pub left_shape : claim_height (ShapeBelow boxed_twice number) ≡ 3
  pub right_shape : claim_height (ShapeBelow number boxed_twice) ≡ 3
  pub left_type : claim_height (TypeBelow (capturing boxed_twice empty) (capturing number empty)) ≡ 3
  pub right_type : claim_height (TypeBelow (capturing number empty) (capturing boxed_twice empty)) ≡ 3
  pub type_of_a_term : claim_height (OfType (capturing boxed_twice empty)) ≡ 3
