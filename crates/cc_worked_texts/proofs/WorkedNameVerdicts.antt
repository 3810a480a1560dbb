-- Texts whose names decide.
use Rattle.std.proofs.Common.{refl, codes, [], ◌∷◌}
use Rattle.cc_base.specs.declared.code.Code.TheVariants.{E09, E10, E11, E12, E19}
use Rattle.cc_worked_texts.specs.TextVerdicts.{place, lines, number_found}
use Rattle.cc_worked_texts.specs.NameVerdicts as example
use Rattle.cc_worked_texts.proofs.ComputedModules.{text_computing, refused, refused_with, accepted}

pub second_names : example.SecondNames
unfolding text_computing
second_names = record {
  second_definition = refused 9 (lines (codes "def a = 1" ∷ codes "def a = 2" ∷ [])) E09 (place 2 5) refl;
  import_of_a_device = refused_with 9 (number_found ∷ []) (codes "import m.out") E09 (place 1 10) refl;
  second_import = refused_with 9 (number_found ∷ number_found ∷ []) (lines (codes "import m.f" ∷ codes "import m.f" ∷ [])) E09 (place 2 10) refl;
  definition_of_an_import = refused_with 9 (number_found ∷ []) (lines (codes "import m.f" ∷ codes "def f = 1" ∷ [])) E09 (place 2 5) refl;
  name_before_right_side = refused 9 (codes "def out = y") E09 (place 1 5) refl;
  right_side_before_next_name = refused 9 (lines (codes "def a = y" ∷ codes "def a = 2" ∷ [])) E10 (place 1 9) refl;
}

pub unknown_names : example.UnknownNames
unfolding text_computing
unknown_names = record {
  term = refused 9 (codes "def a = fun (x: Unit) => y") E10 (place 1 26) refl;
  in_a_set = refused 9 (codes "def a = fun (x: Unit^{y}) => x") E10 (place 1 23) refl;
  in_parentheses = refused 9 (codes "def a = out(((y)))") E10 (place 1 15) refl;
  type = refused 9 (codes "def a = fun (x: Q) => x") E11 (place 1 17) refl;
  no_type_of_a_terms_name = refused 9 (codes "def a = fun (x: Unit) => fun (y: x) => y") E11 (place 1 34) refl;
  no_type_of_a_devices_name = refused 9 (codes "def a = fun (x: out) => x") E11 (place 1 17) refl;
  no_term_of_a_types_name = refused 9 (codes "def a = fun [X <: Any] => X") E10 (place 1 27) refl;
}

pub values : example.Values
unfolding text_computing
values = record {
  operator = refused 9 (codes "def a = 1 + 2") E12 (place 1 9) refl;
  name = refused 9 (codes "def a = (out)") E12 (place 1 9) refl;
  box_of_a_literal = refused 9 (codes "def a = box 1") E12 (place 1 9) refl;
  recursive_number = refused 9 (codes "def rec f: Int = 5") E12 (place 1 18) refl;
  recursive_box = refused 9 (codes "def rec f: Int = box out") E12 (place 1 18) refl;
  inside_before_no_value = refused 9 (codes "def a = 1 + y") E10 (place 1 13) refl;
}

pub omitted_sets : example.OmittedSets
unfolding text_computing
omitted_sets = record {
  in_a_box = refused 9 (codes "def a = fun (x: Box[Int^?]) => x") E19 (place 1 25) refl;
  inside_the_type_of_a_val = refused 9 (codes "def a = fun (x: Int) => val f: (y: Int^?) -> Int = fun (y: Int) => y; x") E19 (place 1 40) refl;
  of_a_recursive_definition = refused 9 (codes "def rec f: ((u: Unit) -> Unit)^? = fun (u: Unit) => u") E19 (place 1 32) refl;
  of_an_exit = refused 9 (codes "def a = fun (x: Int) => exit [Int^?] (x, x)") E19 (place 1 35) refl;
  shape_before_set = refused 9 (codes "def a = fun (x: Box[Q^?]) => x") E11 (place 1 21) refl;
}

pub orders : example.NameOrders
unfolding text_computing
orders = record {
  type_before_body = refused 9 (codes "def a = fun (x: Q) => y") E11 (place 1 17) refl;
  function_before_argument = refused 9 (codes "def a = y(fun (z: Q) => z)") E10 (place 1 9) refl;
  function_before_name = refused 9 (codes "def a = (fun (z: Q) => z)(y)") E11 (place 1 18) refl;
  function_before_shape = refused 9 (codes "def a = y[Q]") E10 (place 1 9) refl;
  type_before_condition = refused 9 (codes "def a = if [Q] y then 1 else 2") E11 (place 1 13) refl;
  set_before_operand = refused 9 (codes "def a = unbox {y} z") E10 (place 1 16) refl;
  type_before_exit = refused 9 (codes "def a = exit [Q] (y, 1)") E11 (place 1 15) refl;
  written_type_before_right_side = refused 9 (codes "def a: Q = 1 + 2") E11 (place 1 8) refl;
  type_before_right_side = refused 9 (codes "def a = fun (u: Unit) => val x: Q = y; x") E11 (place 1 33) refl;
  shape_of_a_boundary_before_its_body = refused 9 (codes "def a = boundary [Q] z => y") E11 (place 1 19) refl;
  bound_before_body = refused 9 (codes "def a = fun [X <: Q] => y") E11 (place 1 19) refl;
  parameter_before_result = refused 9 (codes "def a = fun (f: (x: Q) -> P) => f") E11 (place 1 21) refl;
  bound_before_result = refused 9 (codes "def a = fun (f: [X <: Q] -> P) => f") E11 (place 1 23) refl;
  elements_of_a_set = refused 9 (codes "def a = fun (u: Unit^{y, z}) => u") E10 (place 1 23) refl;
}

pub scopes : example.Scopes
unfolding text_computing
scopes = record {
  innermost_type = accepted 9 (codes "def a = fun [X <: Any] => fun [X <: Int] => fun (x: X) => x") (codes "a: [_T0 <: Any] -> [_T1 <: Int] -> (_2: _T1) -> _T1^{_2}" ∷ []) refl;
  no_val_in_its_own_right_side = refused 9 (codes "def a = fun (u: Unit) => val x = x; u") E10 (place 1 34) refl;
  no_definition_in_its_own_right_side = refused 9 (codes "def a = fun (x: Int) => a(x)") E10 (place 1 25) refl;
  no_recursive_definition_in_its_own_type = refused 9 (codes "def rec a: (x: Int^{a}) -> Int = fun (x: Int) => x") E10 (place 1 21) refl;
  no_later_definition = refused 9 (lines (codes "def a = fun (x: Int) => b(x)" ∷ codes "def b = 1" ∷ [])) E10 (place 1 25) refl;
  no_type_function_in_its_own_bound = refused 9 (codes "def a = fun [X <: X] => 1") E11 (place 1 19) refl;
  no_parameter_in_its_own_type = refused 9 (codes "def a = fun (f: (x: Int^{x}) -> Int) => f") E10 (place 1 26) refl;
  no_type_in_its_own_bound = refused 9 (codes "def a = fun (f: [X <: X] -> Int) => f") E11 (place 1 23) refl;
  no_exit_in_its_own_shape = refused 9 (codes "def a = boundary [Box[Int^{z}]] z => 1") E10 (place 1 28) refl;
}
