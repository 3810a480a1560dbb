-- The sizes of shapes and types, by numbers.
use Rattle.std.specs.Prelude.{◌≡◌}
use Rattle.cc_base.specs.declared.literal.Base.TheVariants as bases
use Rattle.cc_capture.specs.declared.var.Var.TheVariants.{Bound, Free}
use Rattle.cc_capture.specs.declared.var.Elem.TheVariants.{Var as Variable, Cap, Hole}
use Rattle.cc_capture.specs.Sets.{Set, empty, insert}
use Rattle.cc_core.specs.Shapes.{Shape, BaseShape, AnyShape, TypeVariable, FunctionShape, TypeFunctionShape, BoxShape}
use Rattle.cc_core.specs.Shapes.{ExitShape, capturing}
use Rattle.cc_core.specs.Sizes.{shape_size, type_size}
use Rattle.cc_core.specs.Substitution.{single}

-- numbers, whose shape is a leaf
abbrev pub number : Shape
number = BaseShape bases.Int

-- a set of one element, and one of two
abbrev pub one : Set
one = single Cap

abbrev pub two : Set
two = insert Cap (single (Variable (Free 0)))

-- A leaf has size 1, and every other shape one more than its parts together, whose sets count element by element.
pub record ShapeSizes : Type 0 where
  pub base : shape_size number ≡ 1
  pub unit : shape_size (BaseShape bases.Unit) ≡ 1
  pub device : shape_size (BaseShape bases.Console) ≡ 1
  pub any : shape_size AnyShape ≡ 1
  pub free_variable : shape_size (TypeVariable (Free 3)) ≡ 1
  pub bound_variable : shape_size (TypeVariable (Bound 3)) ≡ 1
  -- a function has its parameter and its result, each with its set
  pub function : shape_size (FunctionShape number empty number empty) ≡ 3
  pub set_of_a_parameter : shape_size (FunctionShape number one number empty) ≡ 4
  pub set_of_a_result : shape_size (FunctionShape number empty number one) ≡ 4
  pub sets_of_a_function : shape_size (FunctionShape number two number one) ≡ 6
  pub larger_parameter : shape_size (FunctionShape (BoxShape number empty) empty number empty) ≡ 4
  pub larger_result : shape_size (FunctionShape number empty (BoxShape number empty) empty) ≡ 4
  -- a type function has its bound, and its result with a set
  pub type_function : shape_size (TypeFunctionShape AnyShape number empty) ≡ 3
  pub set_of_its_result : shape_size (TypeFunctionShape AnyShape number two) ≡ 5
  pub larger_bound : shape_size (TypeFunctionShape (BoxShape number one) number empty) ≡ 5
  pub larger_result_of_it : shape_size (TypeFunctionShape AnyShape (BoxShape number one) one) ≡ 6
  -- a box has its content with a set, and an exit its shape
  pub box_of_a_number : shape_size (BoxShape number empty) ≡ 2
  pub set_of_a_content : shape_size (BoxShape number two) ≡ 4
  pub box_of_a_box : shape_size (BoxShape (BoxShape number one) one) ≡ 5
  pub exit : shape_size (ExitShape number) ≡ 2
  pub exit_of_a_function : shape_size (ExitShape (FunctionShape number one number empty)) ≡ 5
  pub exit_of_an_exit : shape_size (ExitShape (ExitShape number)) ≡ 3

-- A type has the size of its shape, and one more for each element of its set, whatever that is.
pub record TypeSizes : Type 0 where
  pub pure : type_size (capturing number empty) ≡ 1
  pub capability : type_size (capturing number one) ≡ 2
  pub variable : type_size (capturing number (single (Variable (Free 7)))) ≡ 2
  pub bound_variable : type_size (capturing number (single (Variable (Bound 7)))) ≡ 2
  pub hole_alone : type_size (capturing number (single (Hole 7))) ≡ 2
  pub two_elements : type_size (capturing number two) ≡ 3
  -- an element that is put twice counts once
  pub twice : type_size (capturing number (insert Cap one)) ≡ 2
  pub function : type_size (capturing (FunctionShape number one number two) two) ≡ 8
  pub box_in_a_box : type_size (capturing (BoxShape (BoxShape number two) one) one) ≡ 7
