-- Texts in which one type is compared with another.
use Rattle.std.specs.Prelude.{codes, [], ◌∷◌, ◌++◌}
use Rattle.cc_base.specs.declared.code.Code.TheVariants.{E14, E15}
use Rattle.cc_worked_texts.specs.TextVerdicts.{place, lines, Refuses, Accepts}

-- Shapes below each other.
pub record ComparedShapes : Type 0 where
  -- contents of boxes are compared
  pub numbers : Accepts
      (codes "def a = fun (b: Box[Int]) => val y: Box[Int]^{b} = b; 1") (codes "a: (_0: Box[Int]) -> Int" ∷ [])
  -- each shape is below `Any`
  pub any_above_a_base : Accepts
      (codes "def a = fun (b: Box[Int]) => val y: Box[Any]^{b} = b; 1") (codes "a: (_0: Box[Int]) -> Int" ∷ [])
  pub any_above_a_function : Accepts
      (codes "def a = fun (b: Box[(i: Int) -> Int]) => val y: Box[Any]^{b} = b; 1")
      (codes "a: (_0: Box[(_0: Int) -> Int]) -> Int" ∷ [])
  pub any_above_a_type_function : Accepts
      (codes "def a = fun (b: Box[[X <: Any] -> Int]) => val y: Box[Any]^{b} = b; 1")
      (codes "a: (_0: Box[[_T0 <: Any] -> Int]) -> Int" ∷ [])
  pub any_above_a_box : Accepts
      (codes "def a = fun (b: Box[Box[Int]]) => val y: Box[Any]^{b} = b; 1")
      (codes "a: (_0: Box[Box[Int]]) -> Int" ∷ [])
  pub any_above_an_exit : Accepts
      (codes "def a = fun (b: Box[Exit[Int]]) => val y: Box[Any]^{b} = b; 1")
      (codes "a: (_0: Box[Exit[Int]]) -> Int" ∷ [])
  pub any_above_a_variable : Accepts
      (codes "def a = fun [X <: Int] => fun (b: Box[X]) => val y: Box[Any]^{b} = b; 1")
      (codes "a: [_T0 <: Int] -> (_1: Box[_T0]) -> Int" ∷ [])
  pub any_above_any : Accepts
      (codes "def a = fun (b: Box[Any]) => val y: Box[Any]^{b} = b; 1") (codes "a: (_0: Box[Any]) -> Int" ∷ [])
  -- and `Any` below no other
  pub any_below_a_base : Refuses (codes "def a = fun (b: Box[Any]) => val y: Box[Int]^{b} = b; 1") E14 (place 1 52)
  pub any_below_a_function : Refuses
      (codes "def a = fun (b: Box[Any]) => val y: Box[(i: Int) -> Int]^{b} = b; 1") E14 (place 1 64)
  pub any_below_a_box : Refuses
      (codes "def a = fun (b: Box[Any]) => val y: Box[Box[Any]]^{b} = b; 1") E14 (place 1 57)
  pub any_below_a_variable : Refuses
      (codes "def a = fun [X <: Any] => fun (b: Box[Any]) => val y: Box[X]^{b} = b; 1") E14 (place 1 68)
  -- base shapes are below themselves alone
  pub unit_below_bool : Refuses (codes "def a = fun (b: Box[Unit]) => val y: Box[Bool]^{b} = b; 1") E14 (place 1 54)
  pub bool_below_int : Refuses (codes "def a = fun (b: Box[Bool]) => val y: Box[Int]^{b} = b; 1") E14 (place 1 53)
  pub int_below_str : Refuses (codes "def a = fun (b: Box[Int]) => val y: Box[Str]^{b} = b; 1") E14 (place 1 52)
  pub str_below_console : Refuses
      (codes "def a = fun (b: Box[Str]) => val y: Box[Console]^{b} = b; 1") E14 (place 1 56)
  pub console_below_file : Refuses
      (codes "def a = fun (b: Box[Console]) => val y: Box[File]^{b} = b; 1") E14 (place 1 57)
  pub file_below_counter : Refuses
      (codes "def a = fun (b: Box[File]) => val y: Box[Counter]^{b} = b; 1") E14 (place 1 57)
  pub counter_below_unit : Refuses
      (codes "def a = fun (b: Box[Counter]) => val y: Box[Unit]^{b} = b; 1") E14 (place 1 57)
  -- shapes of other forms
  pub base_below_a_box : Refuses
      (codes "def a = fun (b: Box[Int]) => val y: Box[Box[Int]]^{b} = b; 1") E14 (place 1 57)
  pub box_below_its_content : Refuses
      (codes "def a = fun (b: Box[Box[Int]]) => val y: Box[Int]^{b} = b; 1") E14 (place 1 57)
  pub function_below_a_type_function : Refuses
      (codes "def a = fun (b: Box[(i: Int) -> Int]) => val y: Box[[X <: Any] -> Int]^{b} = b; 1") E14 (place 1 78)
  pub type_function_below_a_function : Refuses
      (codes "def a = fun (b: Box[[X <: Any] -> Int]) => val y: Box[(i: Int) -> Int]^{b} = b; 1") E14 (place 1 78)
  pub exit_below_a_box : Refuses
      (codes "def a = fun (b: Box[Exit[Int]]) => val y: Box[Box[Int]]^{b} = b; 1") E14 (place 1 63)
  pub box_below_an_exit : Refuses
      (codes "def a = fun (b: Box[Box[Int]]) => val y: Box[Exit[Int]]^{b} = b; 1") E14 (place 1 63)
  pub box_below_a_function : Refuses
      (codes "def a = fun (b: Box[Box[Int]]) => val y: Box[(i: Int) -> Int]^{b} = b; 1") E14 (place 1 69)
  pub function_below_a_box : Refuses
      (codes "def a = fun (b: Box[(i: Int) -> Int]) => val y: Box[Box[Int]]^{b} = b; 1") E14 (place 1 69)

-- Type variables are below themselves, and below what their bounds are below.
pub record ComparedVariables : Type 0 where
  pub itself : Accepts
      (codes "def a = fun [X <: Int] => fun (b: Box[X]) => val y: Box[X]^{b} = b; 1")
      (codes "a: [_T0 <: Int] -> (_1: Box[_T0]) -> Int" ∷ [])
  pub bound : Accepts
      (codes "def a = fun [X <: Int] => fun (b: Box[X]) => val y: Box[Int]^{b} = b; 1")
      (codes "a: [_T0 <: Int] -> (_1: Box[_T0]) -> Int" ∷ [])
  pub above_the_bound : Accepts
      (codes "def a = fun [X <: Int] => fun (b: Box[X]) => val y: Box[Any]^{b} = b; 1")
      (codes "a: [_T0 <: Int] -> (_1: Box[_T0]) -> Int" ∷ [])
  pub other_than_the_bound : Refuses
      (codes "def a = fun [X <: Int] => fun (b: Box[X]) => val y: Box[Str]^{b} = b; 1") E14 (place 1 68)
  -- no other shape is below a variable
  pub below_a_variable : Refuses
      (codes "def a = fun [X <: Int] => fun (b: Box[Int]) => val y: Box[X]^{b} = b; 1") E14 (place 1 68)
  pub variable_below_its_bound : Accepts
      (codes "def a = fun [X <: Int] => fun [Y <: X] => fun (b: Box[Y]) => val y: Box[X]^{b} = b; 1")
      (codes "a: [_T0 <: Int] -> [_T1 <: _T0] -> (_2: Box[_T1]) -> Int" ∷ [])
  pub bound_of_a_bound : Accepts
      (codes "def a = fun [X <: Int] => fun [Y <: X] => fun (b: Box[Y]) => val y: Box[Int]^{b} = b; 1")
      (codes "a: [_T0 <: Int] -> [_T1 <: _T0] -> (_2: Box[_T1]) -> Int" ∷ [])
  pub variable_above : Refuses
      (codes "def a = fun [X <: Int] => fun [Y <: X] => fun (b: Box[X]) => val y: Box[Y]^{b} = b; 1") E14 (place 1 82)
  -- two variables with one bound are apart
  pub two_variables : Refuses
      (codes "def a = fun [X <: Int] => fun [Y <: Int] => fun (b: Box[X]) => val y: Box[Y]^{b} = b; 1")
      E14 (place 1 84)
  pub in_a_function : Accepts
      (codes "def a = fun [X <: Int] => fun (b: Box[(i: Int) -> X]) => val y: Box[(i: X) -> Int]^{b} = b; 1")
      (codes "a: [_T0 <: Int] -> (_1: Box[(_1: Int) -> _T0]) -> Int" ∷ [])
  pub in_a_function_the_other_way : Refuses
      (codes "def a = fun [X <: Int] => fun (b: Box[(i: X) -> Int]) => val y: Box[(i: Int) -> X]^{b} = b; 1")
      E14 (place 1 90)

-- A function is below another that takes less and gives more.
pub record ComparedFunctions : Type 0 where
  pub same : Accepts
      (codes "def a = fun (b: Box[(i: Int) -> Int]) => val y: Box[(i: Int) -> Int]^{b} = b; 1")
      (codes "a: (_0: Box[(_0: Int) -> Int]) -> Int" ∷ [])
  -- the name of a parameter does not count
  pub other_name : Accepts
      (codes "def a = fun (b: Box[(i: Int) -> Int^{i}]) => val y: Box[(j: Int) -> Int^{j}]^{b} = b; 1")
      (codes "a: (_0: Box[(_0: Int) -> Int^{_0}]) -> Int" ∷ [])
  pub takes_more : Accepts
      (codes "def a = fun (b: Box[(i: Any) -> Int]) => val y: Box[(i: Int) -> Int]^{b} = b; 1")
      (codes "a: (_0: Box[(_0: Any) -> Int]) -> Int" ∷ [])
  pub takes_less : Refuses
      (codes "def a = fun (b: Box[(i: Int) -> Int]) => val y: Box[(i: Any) -> Int]^{b} = b; 1") E14 (place 1 76)
  pub gives_less : Accepts
      (codes "def a = fun (b: Box[(i: Int) -> Int]) => val y: Box[(i: Int) -> Any]^{b} = b; 1")
      (codes "a: (_0: Box[(_0: Int) -> Int]) -> Int" ∷ [])
  pub gives_more : Refuses
      (codes "def a = fun (b: Box[(i: Int) -> Any]) => val y: Box[(i: Int) -> Int]^{b} = b; 1") E14 (place 1 76)
  -- sets go the way of their types
  pub takes_a_greater_set : Accepts
      (codes "def a = fun (b: Box[(i: Int^{out, hits}) -> Int]) => val y: Box[(i: Int^{out}) -> Int]^{b} = b; "
      ++ codes "1")
      (codes "a: (_0: Box[(_0: Int^{out, hits}) -> Int]) -> Int" ∷ [])
  pub takes_a_smaller_set : Refuses
      (codes "def a = fun (b: Box[(i: Int^{out}) -> Int]) => val y: Box[(i: Int^{out, hits}) -> Int]^{b} = b; "
      ++ codes "1")
      E15 (place 1 94)
  pub gives_a_smaller_set : Accepts
      (codes "def a = fun (b: Box[(i: Int) -> Int^{out}]) => val y: Box[(i: Int) -> Int^{out, hits}]^{b} = b; "
      ++ codes "1")
      (codes "a: (_0: Box[(_0: Int) -> Int^{out}]) -> Int" ∷ [])
  pub gives_a_greater_set : Refuses
      (codes "def a = fun (b: Box[(i: Int) -> Int^{out, hits}]) => val y: Box[(i: Int) -> Int^{out}]^{b} = b; "
      ++ codes "1")
      E15 (place 1 94)
  -- the parameter of a parameter turns again
  pub takes_takers_the_other_way : Accepts
      (codes "def a = fun (b: Box[(f: (i: Int) -> Int) -> Int]) => val y: Box[(f: (i: Any) -> Int) -> "
      ++ codes "Int]^{b} = b; 1")
      (codes "a: (_0: Box[(_0: (_0: Int) -> Int) -> Int]) -> Int" ∷ [])
  pub takes_takers : Refuses
      (codes "def a = fun (b: Box[(f: (i: Any) -> Int) -> Int]) => val y: Box[(f: (i: Int) -> Int) -> "
      ++ codes "Int]^{b} = b; 1")
      E14 (place 1 100)
  -- what is given is compared under the parameter of the right side
  pub result_under_the_right_parameter : Accepts
      (codes "def a = fun (b: Box[(i: Int^{cap}) -> Int^{i}]) => val y: Box[(i: Int^{out}) -> Int^{out}]^{b} "
      ++ codes "= b; 1")
      (codes "a: (_0: Box[(_0: Int^{cap}) -> Int^{_0}]) -> Int" ∷ [])
  pub result_above_the_right_parameter : Refuses
      (codes "def a = fun (b: Box[(i: Int^{cap}) -> Int^{i}]) => val y: Box[(i: Int^{cap}) -> Int^{out}]^{b} "
      ++ codes "= b; 1")
      E15 (place 1 98)
  pub result_below_the_right_parameter : Accepts
      (codes "def a = fun (b: Box[(i: Int^{cap}) -> Int^{i}]) => val y: Box[(i: Int) -> Int]^{b} = b; 1")
      (codes "a: (_0: Box[(_0: Int^{cap}) -> Int^{_0}]) -> Int" ∷ [])
  pub result_beside_the_right_parameter : Refuses
      (codes "def a = fun (b: Box[(i: Int^{cap}) -> Int^{i}]) => val y: Box[(i: Int^{out}) -> Int^{hits}]^{b} "
      ++ codes "= b; 1")
      E15 (place 1 99)
  pub takes_nothing_alike : Refuses
      (codes "def a = fun (b: Box[(i: Int) -> Str]) => val y: Box[(i: Str) -> Str]^{b} = b; 1") E14 (place 1 76)

-- A type function is below another with the same bound that gives more.
pub record ComparedTypeFunctions : Type 0 where
  pub same : Accepts
      (codes "def a = fun (b: Box[[X <: Int] -> Int]) => val y: Box[[X <: Int] -> Int]^{b} = b; 1")
      (codes "a: (_0: Box[[_T0 <: Int] -> Int]) -> Int" ∷ [])
  pub other_name : Accepts
      (codes "def a = fun (b: Box[[X <: Int] -> X]) => val y: Box[[Y <: Int] -> Y]^{b} = b; 1")
      (codes "a: (_0: Box[[_T0 <: Int] -> _T0]) -> Int" ∷ [])
  -- bounds have to be equal
  pub greater_bound : Refuses
      (codes "def a = fun (b: Box[[X <: Any] -> Int]) => val y: Box[[X <: Int] -> Int]^{b} = b; 1") E14 (place 1 80)
  pub smaller_bound : Refuses
      (codes "def a = fun (b: Box[[X <: Int] -> Int]) => val y: Box[[X <: Any] -> Int]^{b} = b; 1") E14 (place 1 80)
  pub gives_less : Accepts
      (codes "def a = fun (b: Box[[X <: Int] -> Int]) => val y: Box[[X <: Int] -> Any]^{b} = b; 1")
      (codes "a: (_0: Box[[_T0 <: Int] -> Int]) -> Int" ∷ [])
  pub gives_more : Refuses
      (codes "def a = fun (b: Box[[X <: Int] -> Any]) => val y: Box[[X <: Int] -> Int]^{b} = b; 1") E14 (place 1 80)
  pub gives_a_smaller_set : Accepts
      (codes "def a = fun (b: Box[[X <: Int] -> Int^{out}]) => val y: Box[[X <: Int] -> Int^{out, hits}]^{b} "
      ++ codes "= b; 1")
      (codes "a: (_0: Box[[_T0 <: Int] -> Int^{out}]) -> Int" ∷ [])
  pub gives_a_greater_set : Refuses
      (codes "def a = fun (b: Box[[X <: Int] -> Int^{out, hits}]) => val y: Box[[X <: Int] -> Int^{out}]^{b} "
      ++ codes "= b; 1")
      E15 (place 1 98)
  -- what is given is compared under the bound
  pub result_under_the_bound : Accepts
      (codes "def a = fun (b: Box[[X <: Int] -> X]) => val y: Box[[X <: Int] -> Int]^{b} = b; 1")
      (codes "a: (_0: Box[[_T0 <: Int] -> _T0]) -> Int" ∷ [])
  pub result_above_the_bound : Refuses
      (codes "def a = fun (b: Box[[X <: Any] -> X]) => val y: Box[[X <: Any] -> Int]^{b} = b; 1") E14 (place 1 78)
  pub number_for_the_variable : Refuses
      (codes "def a = fun (b: Box[[X <: Int] -> Int]) => val y: Box[[X <: Int] -> X]^{b} = b; 1") E14 (place 1 78)
  pub function_under_the_bound : Accepts
      (codes "def a = fun (b: Box[[X <: Int] -> (x: Int) -> X]) => val y: Box[[X <: Int] -> (x: X) -> "
      ++ codes "Int]^{b} = b; 1")
      (codes "a: (_0: Box[[_T0 <: Int] -> (_1: Int) -> _T0]) -> Int" ∷ [])
  pub written_for_a_definition : Accepts
      (codes "def a: [X <: Int] -> (x: X) -> Int^{x} = fun [X <: Int] => fun (x: X) => x")
      (codes "a: [_T0 <: Int] -> (_1: _T0) -> Int^{_1}" ∷ [])
  pub bound_that_differs_in_a_set : Refuses
      (codes "def a = fun (b: Box[[X <: Box[Int^{out}]] -> Int]) => val y: Box[[X <: Box[Int]] -> Int]^{b} = "
      ++ codes "b; 1")
      E14 (place 1 96)

-- Contents of boxes are compared with their sets; exits match where they are equal.
pub record ComparedBoxes : Type 0 where
  pub smaller_set : Accepts
      (codes "def a = fun (b: Box[Int^{out}]) => val y: Box[Int^{out, hits}]^{b} = b; 1")
      (codes "a: (_0: Box[Int^{out}]) -> Int" ∷ [])
  pub greater_set : Refuses
      (codes "def a = fun (b: Box[Int^{out, hits}]) => val y: Box[Int^{out}]^{b} = b; 1") E15 (place 1 70)
  pub set_below_cap : Accepts
      (codes "def a = fun (b: Box[Int^{out}]) => val y: Box[Int^{cap}]^{b} = b; 1")
      (codes "a: (_0: Box[Int^{out}]) -> Int" ∷ [])
  pub cap_below_a_set : Refuses
      (codes "def a = fun (b: Box[Int^{cap}]) => val y: Box[Int^{out}]^{b} = b; 1") E15 (place 1 64)
  pub other_set : Refuses
      (codes "def a = fun (b: Box[Int^{out}]) => val y: Box[Int^{hits}]^{b} = b; 1") E15 (place 1 65)
  pub nested : Accepts
      (codes "def a = fun (b: Box[Box[Int^{out}]^{out}]) => val y: Box[Box[Any^{out, hits}]^{out, hits}]^{b} "
      ++ codes "= b; 1")
      (codes "a: (_0: Box[Box[Int^{out}]^{out}]) -> Int" ∷ [])
  pub nested_the_other_way : Refuses
      (codes "def a = fun (b: Box[Box[Int^{out, hits}]]) => val y: Box[Box[Int^{out}]]^{b} = b; 1") E15 (place 1 80)
  -- exits are below themselves alone
  pub exits : Accepts
      (codes "def a = fun (b: Box[Exit[Int]]) => val y: Box[Exit[Int]]^{b} = b; 1")
      (codes "a: (_0: Box[Exit[Int]]) -> Int" ∷ [])
  pub exits_of_less : Refuses
      (codes "def a = fun (b: Box[Exit[Int]]) => val y: Box[Exit[Any]]^{b} = b; 1") E14 (place 1 64)
  pub exits_of_more : Refuses
      (codes "def a = fun (b: Box[Exit[Any]]) => val y: Box[Exit[Int]]^{b} = b; 1") E14 (place 1 64)
  pub exits_of_variables : Refuses
      (codes "def a = fun [X <: Int] => fun (b: Box[Exit[X]]) => val y: Box[Exit[Int]]^{b} = b; 1") E14 (place 1 80)
  pub exits_of_variables_below : Refuses
      (codes "def a = fun [X <: Int] => fun (b: Box[Exit[Int]]) => val y: Box[Exit[X]]^{b} = b; 1") E14 (place 1 80)
  pub exits_of_one_variable : Accepts
      (codes "def a = fun [X <: Int] => fun (b: Box[Exit[X]]) => val y: Box[Exit[X]]^{b} = b; 1")
      (codes "a: [_T0 <: Int] -> (_1: Box[Exit[_T0]]) -> Int" ∷ [])

-- Sets below each other.
pub record ComparedSets : Type 0 where
  -- a name is below what it was declared with
  pub declared_set : Accepts
      (codes "def a = fun (x: Int^{out}) => val y: Int^{out} = x; y") (codes "a: (_0: Int^{out}) -> Int^{out}" ∷ [])
  pub greater_set : Accepts
      (codes "def a = fun (x: Int^{out}) => val y: Int^{out, hits} = x; y")
      (codes "a: (_0: Int^{out}) -> Int^{out, hits}" ∷ [])
  pub itself : Accepts
      (codes "def a = fun (x: Int^{out}) => val y: Int^{x} = x; y") (codes "a: (_0: Int^{out}) -> Int^{_0}" ∷ [])
  pub pure : Accepts (codes "def a = fun (x: Int) => val y: Int = x; y") (codes "a: (_0: Int) -> Int" ∷ [])
  pub pure_name_and_others : Accepts
      (codes "def a = fun (x: Int) => fun (y: Int^{out}) => val z: Box[Int^{out}] = box y; z")
      (codes "a: (_0: Int) -> (_1: Int^{out}) -> Box[Int^{out}]" ∷ [])
  pub cap_above_a_name : Accepts
      (codes "def a = fun (x: Int^{cap}) => val y: Int^{cap} = x; 1") (codes "a: (_0: Int^{cap}) -> Int" ∷ [])
  pub cap_above_a_device : Accepts
      (codes "def a = fun (u: Unit) => val y: Console^{cap} = out; 1") (codes "a: ((_0: Unit) -> Int)^{out}" ∷ [])
  -- and so on from name to name
  pub declared_with_a_name : Accepts
      (codes "def a = fun (x: Int^{out}) => fun (y: Int^{x}) => val z: Int^{out} = y; 1")
      (codes "a: (_0: Int^{out}) -> (_1: Int^{_0}) -> Int" ∷ [])
  pub declared_with_names : Accepts
      (codes "def a = fun (x: Int^{out}) => fun (y: Int^{hits}) => fun (z: Int^{x, y}) => val w: Int^{out, "
      ++ codes "hits} = z; 1")
      (codes "a: (_0: Int^{out}) -> (_1: Int^{hits}) -> (_2: Int^{_0, _1}) -> Int" ∷ [])
  pub one_of_two : Accepts
      (codes "def a = fun (x: Int^{out}) => fun (y: Int^{hits}) => fun (z: Int^{x, y}) => val w: Int^{out, y} "
      ++ codes "= z; 1")
      (codes "a: (_0: Int^{out}) -> (_1: Int^{hits}) -> (_2: Int^{_0, _1}) -> Int" ∷ [])
  -- each element has to be below
  pub smaller_set : Refuses (codes "def a = fun (x: Int^{out, hits}) => val y: Int^{out} = x; 1") E15 (place 1 56)
  pub other_device : Refuses (codes "def a = fun (x: Int^{out}) => val y: Int^{hits} = x; 1") E15 (place 1 51)
  pub other_name : Refuses
      (codes "def a = fun (x: Int^{out}) => fun (y: Int^{out}) => val z: Int^{y} = x; 1") E15 (place 1 70)
  pub below_what_is_declared_with_it : Refuses
      (codes "def a = fun (x: Int^{out}) => fun (y: Int^{x}) => val z: Int^{y} = x; 1") E15 (place 1 68)
  pub cap_below_a_device : Refuses
      (codes "def a = fun (x: Int^{cap}) => val y: Int^{out, hits} = x; 1") E15 (place 1 56)
  pub device_below_nothing : Refuses (codes "def a = fun (u: Unit) => val y: Console = out; 1") E15 (place 1 43)
  pub device_below_another : Refuses
      (codes "def a = fun (u: Unit) => val y: Console^{hits} = out; 1") E15 (place 1 50)
  pub not_all_declared : Refuses
      (codes "def a = fun (x: Int^{out}) => fun (y: Int^{hits}) => fun (z: Int^{x, y}) => val w: Int^{out, x} "
      ++ codes "= z; 1")
      E15 (place 1 99)
  -- a definition is declared with its signature
  pub earlier_definition : Accepts
      (lines (codes "def f = fun (u: Unit) => out.print(1)"
      ∷ codes "def a: ((u: Unit) -> Unit)^{f} = fun (u: Unit) => f(u)" ∷ []))
      (codes "f: ((_0: Unit) -> Unit)^{out}" ∷ codes "a: ((_0: Unit) -> Unit)^{out}" ∷ [])
  pub device_of_an_earlier_definition : Accepts
      (lines (codes "def f = fun (u: Unit) => out.print(1)"
      ∷ codes "def a: ((u: Unit) -> Unit)^{out} = fun (u: Unit) => f(u)" ∷ []))
      (codes "f: ((_0: Unit) -> Unit)^{out}" ∷ codes "a: ((_0: Unit) -> Unit)^{out}" ∷ [])
  pub other_device_of_an_earlier_definition : Refuses
      (lines (codes "def f = fun (u: Unit) => out.print(1)"
      ∷ codes "def a: ((u: Unit) -> Unit)^{hits} = fun (u: Unit) => f(u)" ∷ []))
      E15 (place 2 37)
  pub pure_earlier_definition : Accepts
      (lines (codes "def f = fun (u: Unit) => u"
      ∷ codes "def a: (u: Unit) -> Unit = fun (u: Unit) => val x = f(u); unit" ∷ []))
      (codes "f: (_0: Unit) -> Unit^{_0}" ∷ codes "a: (_0: Unit) -> Unit" ∷ [])
