-- Texts whose names decide.
use Rattle.std.specs.Prelude.{codes, [], ◌∷◌}
use Rattle.cc_base.specs.declared.code.Code.TheVariants.{E09, E10, E11, E12, E19}
use Rattle.cc_worked_texts.specs.TextVerdicts.{place, lines, number_found, Refuses, RefusesWith, Accepts}

-- No name is given twice, by devices, imports or definitions.
pub record SecondNames : Type 0 where
  pub second_definition : Refuses (lines (codes "def a = 1" ∷ codes "def a = 2" ∷ [])) E09 (place 2 5)
  -- an import is refused at the name behind the dot
  pub import_of_a_device : RefusesWith (number_found ∷ []) (codes "import m.out") E09 (place 1 10)
  pub second_import : RefusesWith (number_found ∷ number_found ∷ [])
      (lines (codes "import m.f"
      ∷ codes "import m.f" ∷ []))
      E09 (place 2 10)
  pub definition_of_an_import : RefusesWith (number_found ∷ [])
      (lines (codes "import m.f"
      ∷ codes "def f = 1" ∷ []))
      E09 (place 2 5)
  -- a name comes before its right side, and that before the next name
  pub name_before_right_side : Refuses (codes "def out = y") E09 (place 1 5)
  pub right_side_before_next_name : Refuses (lines (codes "def a = y" ∷ codes "def a = 2" ∷ [])) E10 (place 1 9)

-- Names of terms and of types are apart.
pub record UnknownNames : Type 0 where
  pub term : Refuses (codes "def a = fun (x: Unit) => y") E10 (place 1 26)
  pub in_a_set : Refuses (codes "def a = fun (x: Unit^{y}) => x") E10 (place 1 23)
  -- the place is that of the name
  pub in_parentheses : Refuses (codes "def a = out(((y)))") E10 (place 1 15)
  pub type : Refuses (codes "def a = fun (x: Q) => x") E11 (place 1 17)
  pub no_type_of_a_terms_name : Refuses (codes "def a = fun (x: Unit) => fun (y: x) => y") E11 (place 1 34)
  pub no_type_of_a_devices_name : Refuses (codes "def a = fun (x: out) => x") E11 (place 1 17)
  pub no_term_of_a_types_name : Refuses (codes "def a = fun [X <: Any] => X") E10 (place 1 27)

-- The right side of a definition is a value, and that of a recursive one a function.
pub record Values : Type 0 where
  pub operator : Refuses (codes "def a = 1 + 2") E12 (place 1 9)
  -- a name is no value, and a right side starts at its parenthesis
  pub name : Refuses (codes "def a = (out)") E12 (place 1 9)
  -- it becomes a `let`
  pub box_of_a_literal : Refuses (codes "def a = box 1") E12 (place 1 9)
  pub recursive_number : Refuses (codes "def rec f: Int = 5") E12 (place 1 18)
  pub recursive_box : Refuses (codes "def rec f: Int = box out") E12 (place 1 18)
  -- what is refused inside a right side comes before the right side itself
  pub inside_before_no_value : Refuses (codes "def a = 1 + y") E10 (place 1 13)

-- A set is omitted only at the outside of the type of a parameter, of a `val`, of a choice and of a definition that is
-- not recursive.
pub record OmittedSets : Type 0 where
  pub in_a_box : Refuses (codes "def a = fun (x: Box[Int^?]) => x") E19 (place 1 25)
  pub inside_the_type_of_a_val : Refuses
      (codes "def a = fun (x: Int) => val f: (y: Int^?) -> Int = fun (y: Int) => y; x") E19 (place 1 40)
  pub of_a_recursive_definition : Refuses
      (codes "def rec f: ((u: Unit) -> Unit)^? = fun (u: Unit) => u") E19 (place 1 32)
  pub of_an_exit : Refuses (codes "def a = fun (x: Int) => exit [Int^?] (x, x)") E19 (place 1 35)
  -- the shape comes before the set
  pub shape_before_set : Refuses (codes "def a = fun (x: Box[Q^?]) => x") E11 (place 1 21)

-- Names are looked up in the order of the text.
pub record NameOrders : Type 0 where
  pub type_before_body : Refuses (codes "def a = fun (x: Q) => y") E11 (place 1 17)
  pub function_before_argument : Refuses (codes "def a = y(fun (z: Q) => z)") E10 (place 1 9)
  pub function_before_name : Refuses (codes "def a = (fun (z: Q) => z)(y)") E11 (place 1 18)
  pub function_before_shape : Refuses (codes "def a = y[Q]") E10 (place 1 9)
  pub type_before_condition : Refuses (codes "def a = if [Q] y then 1 else 2") E11 (place 1 13)
  pub set_before_operand : Refuses (codes "def a = unbox {y} z") E10 (place 1 16)
  pub type_before_exit : Refuses (codes "def a = exit [Q] (y, 1)") E11 (place 1 15)
  pub written_type_before_right_side : Refuses (codes "def a: Q = 1 + 2") E11 (place 1 8)
  pub type_before_right_side : Refuses (codes "def a = fun (u: Unit) => val x: Q = y; x") E11 (place 1 33)
  pub shape_of_a_boundary_before_its_body : Refuses (codes "def a = boundary [Q] z => y") E11 (place 1 19)
  pub bound_before_body : Refuses (codes "def a = fun [X <: Q] => y") E11 (place 1 19)
  pub parameter_before_result : Refuses (codes "def a = fun (f: (x: Q) -> P) => f") E11 (place 1 21)
  pub bound_before_result : Refuses (codes "def a = fun (f: [X <: Q] -> P) => f") E11 (place 1 23)
  pub elements_of_a_set : Refuses (codes "def a = fun (u: Unit^{y, z}) => u") E10 (place 1 23)

-- Where a binder is visible.
pub record Scopes : Type 0 where
  -- the innermost type name counts
  pub innermost_type : Accepts
      (codes "def a = fun [X <: Any] => fun [X <: Int] => fun (x: X) => x")
      (codes "a: [_T0 <: Any] -> [_T1 <: Int] -> (_2: _T1) -> _T1^{_2}" ∷ [])
  pub no_val_in_its_own_right_side : Refuses (codes "def a = fun (u: Unit) => val x = x; u") E10 (place 1 34)
  pub no_definition_in_its_own_right_side : Refuses (codes "def a = fun (x: Int) => a(x)") E10 (place 1 25)
  pub no_recursive_definition_in_its_own_type : Refuses
      (codes "def rec a: (x: Int^{a}) -> Int = fun (x: Int) => x") E10 (place 1 21)
  pub no_later_definition : Refuses
      (lines (codes "def a = fun (x: Int) => b(x)"
      ∷ codes "def b = 1" ∷ []))
      E10 (place 1 25)
  pub no_type_function_in_its_own_bound : Refuses (codes "def a = fun [X <: X] => 1") E11 (place 1 19)
  pub no_parameter_in_its_own_type : Refuses (codes "def a = fun (f: (x: Int^{x}) -> Int) => f") E10 (place 1 26)
  pub no_type_in_its_own_bound : Refuses (codes "def a = fun (f: [X <: X] -> Int) => f") E11 (place 1 23)
  pub no_exit_in_its_own_shape : Refuses (codes "def a = boundary [Box[Int^{z}]] z => 1") E10 (place 1 28)
