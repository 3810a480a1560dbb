-- Texts in which one type is compared with another.
use Rattle.std.proofs.Common.{refl, codes, [], ◌∷◌, ◌++◌}
use Rattle.cc_base.specs.declared.code.Code.TheVariants.{E14, E15}
use Rattle.cc_worked_texts.specs.TextVerdicts.{place, lines}
use Rattle.cc_worked_texts.specs.ComparedTexts as example
use Rattle.cc_worked_texts.proofs.ComputedModules.{text_computing, refused, accepted}

pub shapes : example.ComparedShapes
unfolding text_computing
shapes = record {
  numbers = accepted 9 (codes "def a = fun (b: Box[Int]) => val y: Box[Int]^{b} = b; 1") (codes "a: (_0: Box[Int]) -> Int" ∷ []) refl;
  any_above_a_base = accepted 9 (codes "def a = fun (b: Box[Int]) => val y: Box[Any]^{b} = b; 1") (codes "a: (_0: Box[Int]) -> Int" ∷ []) refl;
  any_above_a_function = accepted 9 (codes "def a = fun (b: Box[(i: Int) -> Int]) => val y: Box[Any]^{b} = b; 1") (codes "a: (_0: Box[(_0: Int) -> Int]) -> Int" ∷ []) refl;
  any_above_a_type_function = accepted 9 (codes "def a = fun (b: Box[[X <: Any] -> Int]) => val y: Box[Any]^{b} = b; 1") (codes "a: (_0: Box[[_T0 <: Any] -> Int]) -> Int" ∷ []) refl;
  any_above_a_box = accepted 9 (codes "def a = fun (b: Box[Box[Int]]) => val y: Box[Any]^{b} = b; 1") (codes "a: (_0: Box[Box[Int]]) -> Int" ∷ []) refl;
  any_above_an_exit = accepted 9 (codes "def a = fun (b: Box[Exit[Int]]) => val y: Box[Any]^{b} = b; 1") (codes "a: (_0: Box[Exit[Int]]) -> Int" ∷ []) refl;
  any_above_a_variable = accepted 9 (codes "def a = fun [X <: Int] => fun (b: Box[X]) => val y: Box[Any]^{b} = b; 1") (codes "a: [_T0 <: Int] -> (_1: Box[_T0]) -> Int" ∷ []) refl;
  any_above_any = accepted 9 (codes "def a = fun (b: Box[Any]) => val y: Box[Any]^{b} = b; 1") (codes "a: (_0: Box[Any]) -> Int" ∷ []) refl;
  any_below_a_base = refused 9 (codes "def a = fun (b: Box[Any]) => val y: Box[Int]^{b} = b; 1") E14 (place 1 52) refl;
  any_below_a_function = refused 9 (codes "def a = fun (b: Box[Any]) => val y: Box[(i: Int) -> Int]^{b} = b; 1") E14 (place 1 64) refl;
  any_below_a_box = refused 9 (codes "def a = fun (b: Box[Any]) => val y: Box[Box[Any]]^{b} = b; 1") E14 (place 1 57) refl;
  any_below_a_variable = refused 9 (codes "def a = fun [X <: Any] => fun (b: Box[Any]) => val y: Box[X]^{b} = b; 1") E14 (place 1 68) refl;
  unit_below_bool = refused 9 (codes "def a = fun (b: Box[Unit]) => val y: Box[Bool]^{b} = b; 1") E14 (place 1 54) refl;
  bool_below_int = refused 9 (codes "def a = fun (b: Box[Bool]) => val y: Box[Int]^{b} = b; 1") E14 (place 1 53) refl;
  int_below_str = refused 9 (codes "def a = fun (b: Box[Int]) => val y: Box[Str]^{b} = b; 1") E14 (place 1 52) refl;
  str_below_console = refused 9 (codes "def a = fun (b: Box[Str]) => val y: Box[Console]^{b} = b; 1") E14 (place 1 56) refl;
  console_below_file = refused 9 (codes "def a = fun (b: Box[Console]) => val y: Box[File]^{b} = b; 1") E14 (place 1 57) refl;
  file_below_counter = refused 9 (codes "def a = fun (b: Box[File]) => val y: Box[Counter]^{b} = b; 1") E14 (place 1 57) refl;
  counter_below_unit = refused 9 (codes "def a = fun (b: Box[Counter]) => val y: Box[Unit]^{b} = b; 1") E14 (place 1 57) refl;
  base_below_a_box = refused 9 (codes "def a = fun (b: Box[Int]) => val y: Box[Box[Int]]^{b} = b; 1") E14 (place 1 57) refl;
  box_below_its_content = refused 9 (codes "def a = fun (b: Box[Box[Int]]) => val y: Box[Int]^{b} = b; 1") E14 (place 1 57) refl;
  function_below_a_type_function = refused 9 (codes "def a = fun (b: Box[(i: Int) -> Int]) => val y: Box[[X <: Any] -> Int]^{b} = b; 1") E14 (place 1 78) refl;
  type_function_below_a_function = refused 9 (codes "def a = fun (b: Box[[X <: Any] -> Int]) => val y: Box[(i: Int) -> Int]^{b} = b; 1") E14 (place 1 78) refl;
  exit_below_a_box = refused 9 (codes "def a = fun (b: Box[Exit[Int]]) => val y: Box[Box[Int]]^{b} = b; 1") E14 (place 1 63) refl;
  box_below_an_exit = refused 9 (codes "def a = fun (b: Box[Box[Int]]) => val y: Box[Exit[Int]]^{b} = b; 1") E14 (place 1 63) refl;
  box_below_a_function = refused 9 (codes "def a = fun (b: Box[Box[Int]]) => val y: Box[(i: Int) -> Int]^{b} = b; 1") E14 (place 1 69) refl;
  function_below_a_box = refused 9 (codes "def a = fun (b: Box[(i: Int) -> Int]) => val y: Box[Box[Int]]^{b} = b; 1") E14 (place 1 69) refl;
}

pub variables : example.ComparedVariables
unfolding text_computing
variables = record {
  itself = accepted 9 (codes "def a = fun [X <: Int] => fun (b: Box[X]) => val y: Box[X]^{b} = b; 1") (codes "a: [_T0 <: Int] -> (_1: Box[_T0]) -> Int" ∷ []) refl;
  bound = accepted 9 (codes "def a = fun [X <: Int] => fun (b: Box[X]) => val y: Box[Int]^{b} = b; 1") (codes "a: [_T0 <: Int] -> (_1: Box[_T0]) -> Int" ∷ []) refl;
  above_the_bound = accepted 9 (codes "def a = fun [X <: Int] => fun (b: Box[X]) => val y: Box[Any]^{b} = b; 1") (codes "a: [_T0 <: Int] -> (_1: Box[_T0]) -> Int" ∷ []) refl;
  other_than_the_bound = refused 9 (codes "def a = fun [X <: Int] => fun (b: Box[X]) => val y: Box[Str]^{b} = b; 1") E14 (place 1 68) refl;
  below_a_variable = refused 9 (codes "def a = fun [X <: Int] => fun (b: Box[Int]) => val y: Box[X]^{b} = b; 1") E14 (place 1 68) refl;
  variable_below_its_bound = accepted 9 (codes "def a = fun [X <: Int] => fun [Y <: X] => fun (b: Box[Y]) => val y: Box[X]^{b} = b; 1") (codes "a: [_T0 <: Int] -> [_T1 <: _T0] -> (_2: Box[_T1]) -> Int" ∷ []) refl;
  bound_of_a_bound = accepted 9 (codes "def a = fun [X <: Int] => fun [Y <: X] => fun (b: Box[Y]) => val y: Box[Int]^{b} = b; 1") (codes "a: [_T0 <: Int] -> [_T1 <: _T0] -> (_2: Box[_T1]) -> Int" ∷ []) refl;
  variable_above = refused 9 (codes "def a = fun [X <: Int] => fun [Y <: X] => fun (b: Box[X]) => val y: Box[Y]^{b} = b; 1") E14 (place 1 82) refl;
  two_variables = refused 9 (codes "def a = fun [X <: Int] => fun [Y <: Int] => fun (b: Box[X]) => val y: Box[Y]^{b} = b; 1") E14 (place 1 84) refl;
  in_a_function = accepted 9 (codes "def a = fun [X <: Int] => fun (b: Box[(i: Int) -> X]) => val y: Box[(i: X) -> Int]^{b} = b; 1") (codes "a: [_T0 <: Int] -> (_1: Box[(_1: Int) -> _T0]) -> Int" ∷ []) refl;
  in_a_function_the_other_way = refused 9 (codes "def a = fun [X <: Int] => fun (b: Box[(i: X) -> Int]) => val y: Box[(i: Int) -> X]^{b} = b; 1") E14 (place 1 90) refl;
}

pub functions : example.ComparedFunctions
unfolding text_computing
functions = record {
  same = accepted 9 (codes "def a = fun (b: Box[(i: Int) -> Int]) => val y: Box[(i: Int) -> Int]^{b} = b; 1") (codes "a: (_0: Box[(_0: Int) -> Int]) -> Int" ∷ []) refl;
  other_name = accepted 9 (codes "def a = fun (b: Box[(i: Int) -> Int^{i}]) => val y: Box[(j: Int) -> Int^{j}]^{b} = b; 1") (codes "a: (_0: Box[(_0: Int) -> Int^{_0}]) -> Int" ∷ []) refl;
  takes_more = accepted 9 (codes "def a = fun (b: Box[(i: Any) -> Int]) => val y: Box[(i: Int) -> Int]^{b} = b; 1") (codes "a: (_0: Box[(_0: Any) -> Int]) -> Int" ∷ []) refl;
  takes_less = refused 9 (codes "def a = fun (b: Box[(i: Int) -> Int]) => val y: Box[(i: Any) -> Int]^{b} = b; 1") E14 (place 1 76) refl;
  gives_less = accepted 9 (codes "def a = fun (b: Box[(i: Int) -> Int]) => val y: Box[(i: Int) -> Any]^{b} = b; 1") (codes "a: (_0: Box[(_0: Int) -> Int]) -> Int" ∷ []) refl;
  gives_more = refused 9 (codes "def a = fun (b: Box[(i: Int) -> Any]) => val y: Box[(i: Int) -> Int]^{b} = b; 1") E14 (place 1 76) refl;
  takes_a_greater_set = accepted 9 (codes "def a = fun (b: Box[(i: Int^{out, hits}) -> Int]) => val y: Box[(i: Int^{out}) -> Int]^{b} = b; " ++ codes "1") (codes "a: (_0: Box[(_0: Int^{out, hits}) -> Int]) -> Int" ∷ []) refl;
  takes_a_smaller_set = refused 9 (codes "def a = fun (b: Box[(i: Int^{out}) -> Int]) => val y: Box[(i: Int^{out, hits}) -> Int]^{b} = b; " ++ codes "1") E15 (place 1 94) refl;
  gives_a_smaller_set = accepted 9 (codes "def a = fun (b: Box[(i: Int) -> Int^{out}]) => val y: Box[(i: Int) -> Int^{out, hits}]^{b} = b; " ++ codes "1") (codes "a: (_0: Box[(_0: Int) -> Int^{out}]) -> Int" ∷ []) refl;
  gives_a_greater_set = refused 9 (codes "def a = fun (b: Box[(i: Int) -> Int^{out, hits}]) => val y: Box[(i: Int) -> Int^{out}]^{b} = b; " ++ codes "1") E15 (place 1 94) refl;
  takes_takers_the_other_way = accepted 9 (codes "def a = fun (b: Box[(f: (i: Int) -> Int) -> Int]) => val y: Box[(f: (i: Any) -> Int) -> " ++ codes "Int]^{b} = b; 1") (codes "a: (_0: Box[(_0: (_0: Int) -> Int) -> Int]) -> Int" ∷ []) refl;
  takes_takers = refused 9 (codes "def a = fun (b: Box[(f: (i: Any) -> Int) -> Int]) => val y: Box[(f: (i: Int) -> Int) -> " ++ codes "Int]^{b} = b; 1") E14 (place 1 100) refl;
  result_under_the_right_parameter = accepted 9 (codes "def a = fun (b: Box[(i: Int^{cap}) -> Int^{i}]) => val y: Box[(i: Int^{out}) -> Int^{out}]^{b} " ++ codes "= b; 1") (codes "a: (_0: Box[(_0: Int^{cap}) -> Int^{_0}]) -> Int" ∷ []) refl;
  result_above_the_right_parameter = refused 9 (codes "def a = fun (b: Box[(i: Int^{cap}) -> Int^{i}]) => val y: Box[(i: Int^{cap}) -> Int^{out}]^{b} " ++ codes "= b; 1") E15 (place 1 98) refl;
  result_below_the_right_parameter = accepted 9 (codes "def a = fun (b: Box[(i: Int^{cap}) -> Int^{i}]) => val y: Box[(i: Int) -> Int]^{b} = b; 1") (codes "a: (_0: Box[(_0: Int^{cap}) -> Int^{_0}]) -> Int" ∷ []) refl;
  result_beside_the_right_parameter = refused 9 (codes "def a = fun (b: Box[(i: Int^{cap}) -> Int^{i}]) => val y: Box[(i: Int^{out}) -> Int^{hits}]^{b} " ++ codes "= b; 1") E15 (place 1 99) refl;
  takes_nothing_alike = refused 9 (codes "def a = fun (b: Box[(i: Int) -> Str]) => val y: Box[(i: Str) -> Str]^{b} = b; 1") E14 (place 1 76) refl;
}

pub type_functions : example.ComparedTypeFunctions
unfolding text_computing
type_functions = record {
  same = accepted 9 (codes "def a = fun (b: Box[[X <: Int] -> Int]) => val y: Box[[X <: Int] -> Int]^{b} = b; 1") (codes "a: (_0: Box[[_T0 <: Int] -> Int]) -> Int" ∷ []) refl;
  other_name = accepted 9 (codes "def a = fun (b: Box[[X <: Int] -> X]) => val y: Box[[Y <: Int] -> Y]^{b} = b; 1") (codes "a: (_0: Box[[_T0 <: Int] -> _T0]) -> Int" ∷ []) refl;
  greater_bound = refused 9 (codes "def a = fun (b: Box[[X <: Any] -> Int]) => val y: Box[[X <: Int] -> Int]^{b} = b; 1") E14 (place 1 80) refl;
  smaller_bound = refused 9 (codes "def a = fun (b: Box[[X <: Int] -> Int]) => val y: Box[[X <: Any] -> Int]^{b} = b; 1") E14 (place 1 80) refl;
  gives_less = accepted 9 (codes "def a = fun (b: Box[[X <: Int] -> Int]) => val y: Box[[X <: Int] -> Any]^{b} = b; 1") (codes "a: (_0: Box[[_T0 <: Int] -> Int]) -> Int" ∷ []) refl;
  gives_more = refused 9 (codes "def a = fun (b: Box[[X <: Int] -> Any]) => val y: Box[[X <: Int] -> Int]^{b} = b; 1") E14 (place 1 80) refl;
  gives_a_smaller_set = accepted 9 (codes "def a = fun (b: Box[[X <: Int] -> Int^{out}]) => val y: Box[[X <: Int] -> Int^{out, hits}]^{b} " ++ codes "= b; 1") (codes "a: (_0: Box[[_T0 <: Int] -> Int^{out}]) -> Int" ∷ []) refl;
  gives_a_greater_set = refused 9 (codes "def a = fun (b: Box[[X <: Int] -> Int^{out, hits}]) => val y: Box[[X <: Int] -> Int^{out}]^{b} " ++ codes "= b; 1") E15 (place 1 98) refl;
  result_under_the_bound = accepted 9 (codes "def a = fun (b: Box[[X <: Int] -> X]) => val y: Box[[X <: Int] -> Int]^{b} = b; 1") (codes "a: (_0: Box[[_T0 <: Int] -> _T0]) -> Int" ∷ []) refl;
  result_above_the_bound = refused 9 (codes "def a = fun (b: Box[[X <: Any] -> X]) => val y: Box[[X <: Any] -> Int]^{b} = b; 1") E14 (place 1 78) refl;
  number_for_the_variable = refused 9 (codes "def a = fun (b: Box[[X <: Int] -> Int]) => val y: Box[[X <: Int] -> X]^{b} = b; 1") E14 (place 1 78) refl;
  function_under_the_bound = accepted 9 (codes "def a = fun (b: Box[[X <: Int] -> (x: Int) -> X]) => val y: Box[[X <: Int] -> (x: X) -> " ++ codes "Int]^{b} = b; 1") (codes "a: (_0: Box[[_T0 <: Int] -> (_1: Int) -> _T0]) -> Int" ∷ []) refl;
  written_for_a_definition = accepted 9 (codes "def a: [X <: Int] -> (x: X) -> Int^{x} = fun [X <: Int] => fun (x: X) => x") (codes "a: [_T0 <: Int] -> (_1: _T0) -> Int^{_1}" ∷ []) refl;
  bound_that_differs_in_a_set = refused 9 (codes "def a = fun (b: Box[[X <: Box[Int^{out}]] -> Int]) => val y: Box[[X <: Box[Int]] -> Int]^{b} = " ++ codes "b; 1") E14 (place 1 96) refl;
}

pub boxes : example.ComparedBoxes
unfolding text_computing
boxes = record {
  smaller_set = accepted 9 (codes "def a = fun (b: Box[Int^{out}]) => val y: Box[Int^{out, hits}]^{b} = b; 1") (codes "a: (_0: Box[Int^{out}]) -> Int" ∷ []) refl;
  greater_set = refused 9 (codes "def a = fun (b: Box[Int^{out, hits}]) => val y: Box[Int^{out}]^{b} = b; 1") E15 (place 1 70) refl;
  set_below_cap = accepted 9 (codes "def a = fun (b: Box[Int^{out}]) => val y: Box[Int^{cap}]^{b} = b; 1") (codes "a: (_0: Box[Int^{out}]) -> Int" ∷ []) refl;
  cap_below_a_set = refused 9 (codes "def a = fun (b: Box[Int^{cap}]) => val y: Box[Int^{out}]^{b} = b; 1") E15 (place 1 64) refl;
  other_set = refused 9 (codes "def a = fun (b: Box[Int^{out}]) => val y: Box[Int^{hits}]^{b} = b; 1") E15 (place 1 65) refl;
  nested = accepted 9 (codes "def a = fun (b: Box[Box[Int^{out}]^{out}]) => val y: Box[Box[Any^{out, hits}]^{out, hits}]^{b} " ++ codes "= b; 1") (codes "a: (_0: Box[Box[Int^{out}]^{out}]) -> Int" ∷ []) refl;
  nested_the_other_way = refused 9 (codes "def a = fun (b: Box[Box[Int^{out, hits}]]) => val y: Box[Box[Int^{out}]]^{b} = b; 1") E15 (place 1 80) refl;
  exits = accepted 9 (codes "def a = fun (b: Box[Exit[Int]]) => val y: Box[Exit[Int]]^{b} = b; 1") (codes "a: (_0: Box[Exit[Int]]) -> Int" ∷ []) refl;
  exits_of_less = refused 9 (codes "def a = fun (b: Box[Exit[Int]]) => val y: Box[Exit[Any]]^{b} = b; 1") E14 (place 1 64) refl;
  exits_of_more = refused 9 (codes "def a = fun (b: Box[Exit[Any]]) => val y: Box[Exit[Int]]^{b} = b; 1") E14 (place 1 64) refl;
  exits_of_variables = refused 9 (codes "def a = fun [X <: Int] => fun (b: Box[Exit[X]]) => val y: Box[Exit[Int]]^{b} = b; 1") E14 (place 1 80) refl;
  exits_of_variables_below = refused 9 (codes "def a = fun [X <: Int] => fun (b: Box[Exit[Int]]) => val y: Box[Exit[X]]^{b} = b; 1") E14 (place 1 80) refl;
  exits_of_one_variable = accepted 9 (codes "def a = fun [X <: Int] => fun (b: Box[Exit[X]]) => val y: Box[Exit[X]]^{b} = b; 1") (codes "a: [_T0 <: Int] -> (_1: Box[Exit[_T0]]) -> Int" ∷ []) refl;
}

pub sets : example.ComparedSets
unfolding text_computing
sets = record {
  declared_set = accepted 9 (codes "def a = fun (x: Int^{out}) => val y: Int^{out} = x; y") (codes "a: (_0: Int^{out}) -> Int^{out}" ∷ []) refl;
  greater_set = accepted 9 (codes "def a = fun (x: Int^{out}) => val y: Int^{out, hits} = x; y") (codes "a: (_0: Int^{out}) -> Int^{out, hits}" ∷ []) refl;
  itself = accepted 9 (codes "def a = fun (x: Int^{out}) => val y: Int^{x} = x; y") (codes "a: (_0: Int^{out}) -> Int^{_0}" ∷ []) refl;
  pure = accepted 9 (codes "def a = fun (x: Int) => val y: Int = x; y") (codes "a: (_0: Int) -> Int" ∷ []) refl;
  pure_name_and_others = accepted 9 (codes "def a = fun (x: Int) => fun (y: Int^{out}) => val z: Box[Int^{out}] = box y; z") (codes "a: (_0: Int) -> (_1: Int^{out}) -> Box[Int^{out}]" ∷ []) refl;
  cap_above_a_name = accepted 9 (codes "def a = fun (x: Int^{cap}) => val y: Int^{cap} = x; 1") (codes "a: (_0: Int^{cap}) -> Int" ∷ []) refl;
  cap_above_a_device = accepted 9 (codes "def a = fun (u: Unit) => val y: Console^{cap} = out; 1") (codes "a: ((_0: Unit) -> Int)^{out}" ∷ []) refl;
  declared_with_a_name = accepted 9 (codes "def a = fun (x: Int^{out}) => fun (y: Int^{x}) => val z: Int^{out} = y; 1") (codes "a: (_0: Int^{out}) -> (_1: Int^{_0}) -> Int" ∷ []) refl;
  declared_with_names = accepted 9 (codes "def a = fun (x: Int^{out}) => fun (y: Int^{hits}) => fun (z: Int^{x, y}) => val w: Int^{out, " ++ codes "hits} = z; 1") (codes "a: (_0: Int^{out}) -> (_1: Int^{hits}) -> (_2: Int^{_0, _1}) -> Int" ∷ []) refl;
  one_of_two = accepted 9 (codes "def a = fun (x: Int^{out}) => fun (y: Int^{hits}) => fun (z: Int^{x, y}) => val w: Int^{out, y} " ++ codes "= z; 1") (codes "a: (_0: Int^{out}) -> (_1: Int^{hits}) -> (_2: Int^{_0, _1}) -> Int" ∷ []) refl;
  smaller_set = refused 9 (codes "def a = fun (x: Int^{out, hits}) => val y: Int^{out} = x; 1") E15 (place 1 56) refl;
  other_device = refused 9 (codes "def a = fun (x: Int^{out}) => val y: Int^{hits} = x; 1") E15 (place 1 51) refl;
  other_name = refused 9 (codes "def a = fun (x: Int^{out}) => fun (y: Int^{out}) => val z: Int^{y} = x; 1") E15 (place 1 70) refl;
  below_what_is_declared_with_it = refused 9 (codes "def a = fun (x: Int^{out}) => fun (y: Int^{x}) => val z: Int^{y} = x; 1") E15 (place 1 68) refl;
  cap_below_a_device = refused 9 (codes "def a = fun (x: Int^{cap}) => val y: Int^{out, hits} = x; 1") E15 (place 1 56) refl;
  device_below_nothing = refused 9 (codes "def a = fun (u: Unit) => val y: Console = out; 1") E15 (place 1 43) refl;
  device_below_another = refused 9 (codes "def a = fun (u: Unit) => val y: Console^{hits} = out; 1") E15 (place 1 50) refl;
  not_all_declared = refused 9 (codes "def a = fun (x: Int^{out}) => fun (y: Int^{hits}) => fun (z: Int^{x, y}) => val w: Int^{out, x} " ++ codes "= z; 1") E15 (place 1 99) refl;
  earlier_definition = accepted 9 (lines (codes "def f = fun (u: Unit) => out.print(1)" ∷ codes "def a: ((u: Unit) -> Unit)^{f} = fun (u: Unit) => f(u)" ∷ [])) (codes "f: ((_0: Unit) -> Unit)^{out}" ∷ codes "a: ((_0: Unit) -> Unit)^{out}" ∷ []) refl;
  device_of_an_earlier_definition = accepted 9 (lines (codes "def f = fun (u: Unit) => out.print(1)" ∷ codes "def a: ((u: Unit) -> Unit)^{out} = fun (u: Unit) => f(u)" ∷ [])) (codes "f: ((_0: Unit) -> Unit)^{out}" ∷ codes "a: ((_0: Unit) -> Unit)^{out}" ∷ []) refl;
  other_device_of_an_earlier_definition = refused 9 (lines (codes "def f = fun (u: Unit) => out.print(1)" ∷ codes "def a: ((u: Unit) -> Unit)^{hits} = fun (u: Unit) => f(u)" ∷ [])) E15 (place 2 37) refl;
  pure_earlier_definition = accepted 9 (lines (codes "def f = fun (u: Unit) => u" ∷ codes "def a: (u: Unit) -> Unit = fun (u: Unit) => val x = f(u); unit" ∷ [])) (codes "f: (_0: Unit) -> Unit^{_0}" ∷ codes "a: (_0: Unit) -> Unit" ∷ []) refl;
}
