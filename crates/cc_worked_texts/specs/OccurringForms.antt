-- Where something occurs in a shape, by example: in each part of each form alone, and in none; the kinds of what stands
-- there; and which shapes and types are the same.
use Rattle.std.specs.Prelude.{◌≡◌, Bool, true, false, [], ◌∷◌}
use Rattle.cc_base.specs.declared.literal.Base.TheVariants as bases
use Rattle.cc_capture.specs.declared.var.Var.TheVariants.{Bound, Free}
use Rattle.cc_capture.specs.declared.var.Elem.TheVariants.{Var as Variable, Cap, Hole}
use Rattle.cc_capture.specs.Sets.{Set, contains, empty, insert}
use Rattle.cc_capture.specs.Variables.{same_variable}
use Rattle.cc_core.specs.Equality.{same_shape, same_type}
use Rattle.cc_core.specs.Questions.{Question, is_hole, occurs, occurs_in_type}
use Rattle.cc_core.specs.Shapes.{Shape, BaseShape, AnyShape, TypeVariable, FunctionShape, TypeFunctionShape, BoxShape}
use Rattle.cc_core.specs.Shapes.{ExitShape, capturing}
use Rattle.cc_core.specs.Substitution.{single}
use Rattle.cc_core.specs.WellFormed.{TermKind, TypeKind, is_well_formed_element}

-- whether the position 1 occurs
abbrev pub first : Question
first = record { in_set = contains (Variable (Free 1)); at = same_variable (Free 1) }

-- shapes and sets in which it does, and does not
abbrev pub having : Shape
having = TypeVariable (Free 1)

abbrev pub lacking : Shape
lacking = TypeVariable (Free 2)

abbrev pub set_having : Set
set_having = insert Cap (single (Variable (Free 1)))

abbrev pub set_lacking : Set
set_lacking = insert Cap (single (Variable (Free 2)))

-- whether it occurs in the shape
abbrev pub Occurs : Shape → Bool → Type 0
Occurs shape does = occurs first shape ≡ does

-- Each part of a form is looked at.
pub record OccurringParts : Type 0 where
  pub base : Occurs (BaseShape bases.Int) false
  pub any : Occurs AnyShape false
  pub variable : Occurs having true
  pub other_variable : Occurs lacking false
  pub index : Occurs (TypeVariable (Bound 1)) false
  pub parameter : Occurs (FunctionShape having set_lacking lacking set_lacking) true
  pub set_of_a_parameter : Occurs (FunctionShape lacking set_having lacking set_lacking) true
  pub result : Occurs (FunctionShape lacking set_lacking having set_lacking) true
  pub set_of_a_result : Occurs (FunctionShape lacking set_lacking lacking set_having) true
  pub no_part_of_a_function : Occurs (FunctionShape lacking set_lacking lacking set_lacking) false
  pub bound : Occurs (TypeFunctionShape having lacking set_lacking) true
  pub result_of_a_type_function : Occurs (TypeFunctionShape lacking having set_lacking) true
  pub set_of_that_result : Occurs (TypeFunctionShape lacking lacking set_having) true
  pub no_part_of_a_type_function : Occurs (TypeFunctionShape lacking lacking set_lacking) false
  pub content : Occurs (BoxShape having set_lacking) true
  pub set_of_a_content : Occurs (BoxShape lacking set_having) true
  pub no_part_of_a_box : Occurs (BoxShape lacking set_lacking) false
  pub given_by_an_exit : Occurs (ExitShape having) true
  pub no_part_of_an_exit : Occurs (ExitShape lacking) false
  pub shape_of_a_type : occurs_in_type first (capturing having set_lacking) ≡ true
  pub set_of_a_type : occurs_in_type first (capturing lacking set_having) ≡ true
  pub no_part_of_a_type : occurs_in_type first (capturing lacking set_lacking) ≡ false

-- Holes are no variables and not `cap`.
pub record Holes : Type 0 where
  pub hole : is_hole (Hole 0) ≡ true
  pub cap : is_hole Cap ≡ false
  pub variable : is_hole (Variable (Free 0)) ≡ false
  pub index : is_hole (Variable (Bound 0)) ≡ false

-- In sets stand variables of terms, `cap` and holes.
pub record KindsOfElements : Type 0 where
  pub term : is_well_formed_element (TypeKind ∷ TermKind ∷ []) [] (Variable (Free 0)) ≡ true
  pub type : is_well_formed_element (TypeKind ∷ TermKind ∷ []) [] (Variable (Free 1)) ≡ false
  pub no_entry : is_well_formed_element (TypeKind ∷ TermKind ∷ []) [] (Variable (Free 2)) ≡ false
  pub passed_term : is_well_formed_element [] (TypeKind ∷ TermKind ∷ []) (Variable (Bound 1)) ≡ true
  pub passed_type : is_well_formed_element [] (TypeKind ∷ TermKind ∷ []) (Variable (Bound 0)) ≡ false
  pub no_binder : is_well_formed_element [] (TypeKind ∷ TermKind ∷ []) (Variable (Bound 2)) ≡ false
  pub cap : is_well_formed_element [] [] Cap ≡ true
  pub hole : is_well_formed_element [] [] (Hole 5) ≡ true

-- A position is no index, also where the numbers are one.
pub record SameVariables : Type 0 where
  pub positions : same_variable (Free 1) (Free 1) ≡ true
  pub other_positions : same_variable (Free 1) (Free 2) ≡ false
  pub indices : same_variable (Bound 1) (Bound 1) ≡ true
  pub other_indices : same_variable (Bound 1) (Bound 2) ≡ false
  pub position_and_index : same_variable (Free 1) (Bound 1) ≡ false
  pub index_and_position : same_variable (Bound 1) (Free 1) ≡ false

-- whether the shapes are the same
abbrev pub Same : Shape → Shape → Bool → Type 0
Same left right are = same_shape left right ≡ are

-- Shapes are the same where their forms and all their parts are.
pub record SameShapes : Type 0 where
  pub base : Same (BaseShape bases.Int) (BaseShape bases.Int) true
  pub other_base : Same (BaseShape bases.Int) (BaseShape bases.Str) false
  pub devices : Same (BaseShape bases.File) (BaseShape bases.Counter) false
  pub any : Same AnyShape AnyShape true
  pub any_and_base : Same AnyShape (BaseShape bases.Int) false
  pub variable : Same having having true
  pub other_variable : Same having lacking false
  pub function : Same
      (FunctionShape having set_having lacking set_lacking) (FunctionShape having set_having lacking set_lacking) true
  pub parameter : Same
      (FunctionShape having set_having lacking set_lacking) (FunctionShape lacking set_having lacking set_lacking) false
  pub set_of_a_parameter : Same
      (FunctionShape having set_having lacking set_lacking) (FunctionShape having set_lacking lacking set_lacking) false
  pub result : Same
      (FunctionShape having set_having lacking set_lacking) (FunctionShape having set_having having set_lacking) false
  pub set_of_a_result : Same
      (FunctionShape having set_having lacking set_lacking) (FunctionShape having set_having lacking set_having) false
  pub type_function : Same (TypeFunctionShape having lacking set_having) (TypeFunctionShape having lacking set_having) true
  pub bound : Same (TypeFunctionShape having lacking set_having) (TypeFunctionShape lacking lacking set_having) false
  pub result_of_a_type_function : Same
      (TypeFunctionShape having lacking set_having) (TypeFunctionShape having having set_having) false
  pub set_of_that_result : Same
      (TypeFunctionShape having lacking set_having) (TypeFunctionShape having lacking set_lacking) false
  pub box : Same (BoxShape having set_having) (BoxShape having set_having) true
  pub content : Same (BoxShape having set_having) (BoxShape lacking set_having) false
  pub set_of_a_content : Same (BoxShape having set_having) (BoxShape having set_lacking) false
  pub exit : Same (ExitShape having) (ExitShape having) true
  pub other_exit : Same (ExitShape having) (ExitShape lacking) false
  pub exit_and_box : Same (ExitShape having) (BoxShape having empty) false
  pub function_and_type_function : Same
      (FunctionShape having empty lacking empty) (TypeFunctionShape having lacking empty) false
  pub type : same_type (capturing having set_having) (capturing having set_having) ≡ true
  pub shape_of_a_type : same_type (capturing having set_having) (capturing lacking set_having) ≡ false
  pub set_of_a_type : same_type (capturing having set_having) (capturing having set_lacking) ≡ false
