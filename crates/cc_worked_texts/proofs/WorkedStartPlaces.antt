-- Where expressions and shapes start, and which of two unknown names is refused first.
use Rattle.std.proofs.Common.{refl, codes}
use Rattle.cc_base.specs.declared.code.Code.TheVariants.{E09, E10, E11, E12, E13, E14, E16, E17}
use Rattle.cc_worked_texts.specs.TextVerdicts.{place}
use Rattle.cc_worked_texts.specs.StartPlaces as example
use Rattle.cc_worked_texts.proofs.ComputedModules.{text_computing, refused}

pub expressions : example.ExpressionStarts
unfolding text_computing
expressions = record {
  name = refused 9 (codes "def a = fun (x: Int) => if [Str] true then x else \"\"") E14 (place 1 44) refl;
  literal = refused 9 (codes "def a = fun (x: Int) => if [Str] true then 1 else \"\"") E14 (place 1 44) refl;
  parenthesis = refused 9 (codes "def a = fun (x: Int) => if [Str] true then ((x)) else \"\"") E14 (place 1 44) refl;
  val = refused 9 (codes "def a = fun (x: Int) => if [Str] true then val y = x; y else \"\"") E14 (place 1 44) refl;
  function = refused 9 (codes "def a = fun (x: Int) => if [Str] true then fun (y: Int) => y else \"\"") E14 (place 1 44) refl;
  type_function = refused 9 (codes "def a = fun (x: Int) => if [Str] true then fun [X <: Any] => 1 else \"\"") E14 (place 1 44) refl;
  choice = refused 9 (codes "def a = fun (x: Int) => if [Str] true then if [Int] true then 1 else 2 else \"\"") E14 (place 1 44) refl;
  boundary = refused 9 (codes "def a = fun (x: Int) => if [Str] true then boundary [Int] z => 1 else \"\"") E14 (place 1 44) refl;
  operator = refused 9 (codes "def a = fun (x: Int) => if [Str] true then 1 + x else \"\"") E14 (place 1 44) refl;
  box = refused 9 (codes "def a = fun (x: Int) => if [Str] true then box x else \"\"") E14 (place 1 44) refl;
  unboxing = refused 9 (codes "def a = fun (b: Box[Int]) => fun (x: Int) => if [Str] true then unbox b else \"\"") E14 (place 1 65) refl;
  call = refused 9 (codes "def a = fun (f: (i: Int) -> Int) => fun (x: Int) => if [Str] true then f(x) else \"\"") E14 (place 1 72) refl;
  type_call = refused 9 (codes "def a = fun (g: [X <: Any] -> Int) => fun (x: Int) => if [Str] true then g[Int] else \"\"") E14 (place 1 74) refl;
  read = refused 9 (codes "def a = fun (d: File^{cap}) => fun (x: Int) => if [Str] true then d.read() else \"\"") E14 (place 1 67) refl;
  print = refused 9 (codes "def a = fun (x: Int) => if [Str] true then out.print(x) else \"\"") E14 (place 1 44) refl;
  exit = refused 9 (codes "def a = fun (e: Exit[Int]) => fun (x: Int) => if [Str] true then exit [Int] (e, 1) else \"\"") E14 (place 1 66) refl;
  repetition = refused 9 (codes "def a = fun (h: (i: Int) -> Unit) => fun (x: Int) => if [Str] true then repeat(x, h) else \"\"") E14 (place 1 73) refl;
  chain = refused 9 (codes "def a = fun (f: (i: Int) -> Int) => fun (x: Int) => if [Str] true then f(x) * 2 + f(x) else \"\"") E14 (place 1 72) refl;
  call_of_a_function_in_parentheses = refused 9 (codes "def a = fun (f: (i: Int) -> Int) => fun (x: Int) => if [Str] true then (f)(x) else \"\"") E14 (place 1 72) refl;
}

pub shapes : example.ShapeStarts
unfolding text_computing
shapes = record {
  base = refused 9 (codes "def a = fun (f: [X <: Str] -> Int) => f[Int]") E14 (place 1 41) refl;
  any = refused 9 (codes "def a = fun (f: [X <: Str] -> Int) => f[Any]") E14 (place 1 41) refl;
  name = refused 9 (codes "def a = fun [Y <: Int] => fun (f: [X <: Str] -> Int) => f[Y]") E14 (place 1 59) refl;
  exit = refused 9 (codes "def a = fun (f: [X <: Str] -> Int) => f[Exit[Int]]") E14 (place 1 41) refl;
  box = refused 9 (codes "def a = fun (f: [X <: Str] -> Int) => f[Box[Int]]") E14 (place 1 41) refl;
  function = refused 9 (codes "def a = fun (f: [X <: Str] -> Int) => f[(i: Int) -> Int]") E14 (place 1 41) refl;
  type_function = refused 9 (codes "def a = fun (f: [X <: Str] -> Int) => f[[Y <: Int] -> Int]") E14 (place 1 41) refl;
  parenthesis = refused 9 (codes "def a = fun (f: [X <: Str] -> Int) => f[(Bool)]") E14 (place 1 41) refl;
  parentheses = refused 9 (codes "def a = fun (f: [X <: Str] -> Int) => f[ ((Bool))]") E14 (place 1 42) refl;
  named_function = refused 9 (codes "def a = fun (f: (i: Unit) -> [X <: Str] -> Int) => (f(unit))[ Int]") E14 (place 1 63) refl;
}

pub parentheses : example.Parentheses
unfolding text_computing
parentheses = record {
  unknown_name = refused 9 (codes "def a = fun (u: Unit) => (y)") E10 (place 1 27) refl;
  unknown_name_in_two = refused 9 (codes "def a = fun (u: Unit) => ((y))") E10 (place 1 28) refl;
  unknown_operand = refused 9 (codes "def a = fun (x: Int) => ((y)) + 1") E10 (place 1 27) refl;
  unknown_type = refused 9 (codes "def a = fun (x: (Q)) => x") E11 (place 1 18) refl;
  unknown_receiver = refused 9 (codes "def a = fun (x: Int) => (y).read()") E10 (place 1 26) refl;
  unknown_in_a_box = refused 9 (codes "def a = fun (x: Int) => box (y)") E10 (place 1 30) refl;
  left_side = refused 9 (codes "def a = fun (x: Int) => 1 + ((true))") E14 (place 1 29) refl;
  right_side = refused 9 (codes "def a = fun (x: Int) => (true) + 1") E14 (place 1 25) refl;
  argument = refused 9 (codes "def a = fun (f: (i: Int) -> Int) => f(((true)))") E14 (place 1 39) refl;
  function = refused 9 (codes "def a = fun (x: Int) => ((true))(1)") E13 (place 1 25) refl;
  type_function = refused 9 (codes "def a = fun (x: Int) => (x)[Int]") E13 (place 1 25) refl;
  opened = refused 9 (codes "def a = fun (x: Int) => unbox ((x))") E13 (place 1 31) refl;
  receiver = refused 9 (codes "def a = fun (x: Int) => (x).print(1)") E13 (place 1 25) refl;
  printed = refused 9 (codes "def a = fun (x: Int) => out.print((true))") E14 (place 1 35) refl;
  condition = refused 9 (codes "def a = fun (x: Int) => if [Int] (x) then 1 else 2") E14 (place 1 34) refl;
  count = refused 9 (codes "def a = fun (x: Int) => repeat((true), x)") E14 (place 1 32) refl;
  repeated = refused 9 (codes "def a = fun (x: Int) => repeat(1, (x))") E14 (place 1 35) refl;
  exit = refused 9 (codes "def a = fun (x: Int) => exit [Int] ((x), 1)") E13 (place 1 37) refl;
  value_of_an_exit = refused 9 (codes "def a = fun (e: Exit[Int]) => exit [Int] (e, (true))") E14 (place 1 46) refl;
  right_side_of_a_val = refused 9 (codes "def a = fun (x: Int) => val y: Int = (true); y") E14 (place 1 38) refl;
  right_side_of_a_definition = refused 9 (codes "def a: Int = ((true))") E14 (place 1 14) refl;
  body_of_a_boundary = refused 9 (codes "def a = fun (x: Int) => boundary [Int] z => ((true))") E14 (place 1 45) refl;
  second_branch = refused 9 (codes "def a = fun (x: Int) => if [Int] true then 1 else ((true))") E14 (place 1 51) refl;
  cap_in_an_unboxing = refused 9 (codes "def a = fun (b: Box[Int^{cap}]) => ((unbox b))") E16 (place 1 38) refl;
  val_in_parentheses = refused 9 (codes "def a = fun (x: Unit) => ((val y = 1; fun [X <: Box[Int^{y}]] => unit))") E17 (place 1 28) refl;
}

pub orders : example.TextOrders
unfolding text_computing
orders = record {
  written_for_a_definition = refused 9 (codes "def a: Q = y") E11 (place 1 8) refl;
  written_for_a_recursive_definition = refused 9 (codes "def rec a: Q = y") E11 (place 1 12) refl;
  set_of_a_definition = refused 9 (codes "def a: Int^{y} = z") E10 (place 1 13) refl;
  set_of_a_recursive_definition = refused 9 (codes "def rec a: Int^{y} = z") E10 (place 1 17) refl;
  type_before_no_value = refused 9 (codes "def a: Q = 1 + 2") E11 (place 1 8) refl;
  shape_of_a_parameter = refused 9 (codes "def a = fun (x: Q^{y}) => x") E11 (place 1 17) refl;
  shape_of_a_val = refused 9 (codes "def a = fun (x: Int) => val z: Q^{y} = x; z") E11 (place 1 32) refl;
  shape_of_a_choice = refused 9 (codes "def a = fun (x: Int) => if [Q^{y}] true then 1 else 2") E11 (place 1 29) refl;
  shape_of_an_exit = refused 9 (codes "def a = fun (x: Int) => exit [Q^{y}] (x, x)") E11 (place 1 31) refl;
  shape_of_a_content = refused 9 (codes "def a = fun (x: Box[Q^{y}]) => x") E11 (place 1 21) refl;
  shape_of_a_result = refused 9 (codes "def a = fun (f: (x: Int) -> Q^{y}) => f") E11 (place 1 29) refl;
  shape_of_a_definition = refused 9 (codes "def a: Q^{y} = 1") E11 (place 1 8) refl;
  shape_of_a_recursive_definition = refused 9 (codes "def rec a: Q^{y} = 1") E11 (place 1 12) refl;
  omitted_set_of_a_shape = refused 9 (codes "def a = fun (x: Box[Q]^?) => x") E11 (place 1 21) refl;
  elements = refused 9 (codes "def a = fun (x: Int^{out, y, z}) => x") E10 (place 1 27) refl;
  set_of_a_parameter_before_a_result = refused 9 (codes "def a = fun (f: (x: Int^{y}) -> Q) => f") E10 (place 1 26) refl;
  parameter_before_the_set_of_a_result = refused 9 (codes "def a = fun (f: (x: Q) -> Int^{y}) => f") E11 (place 1 21) refl;
  bound_before_the_set_of_a_result = refused 9 (codes "def a = fun (f: [X <: Q] -> Int^{y}) => f") E11 (place 1 23) refl;
  sides = refused 9 (codes "def a = fun (x: Int) => y + z") E10 (place 1 25) refl;
  sides_that_are_named = refused 9 (codes "def a = fun (x: Int) => (1 + y) * (1 + z)") E10 (place 1 30) refl;
  function_and_argument = refused 9 (codes "def a = fun (x: Int) => y(z)") E10 (place 1 25) refl;
  function_that_is_named_and_argument = refused 9 (codes "def a = fun (x: Int) => y(1)(z)") E10 (place 1 25) refl;
  receiver_and_argument = refused 9 (codes "def a = fun (x: Int) => y.print(z)") E10 (place 1 25) refl;
  function_and_shape = refused 9 (codes "def a = fun (x: Int) => y[Q]") E10 (place 1 25) refl;
  set_and_operand = refused 9 (codes "def a = fun (x: Int) => unbox {y} z") E10 (place 1 32) refl;
  condition_and_branches = refused 9 (codes "def a = fun (x: Int) => if [Int] y then z else w") E10 (place 1 34) refl;
  type_and_condition = refused 9 (codes "def a = fun (x: Int) => if [Q] y then 1 else 2") E11 (place 1 29) refl;
  set_and_condition = refused 9 (codes "def a = fun (x: Int) => if [Int^{y}] z then 1 else 2") E10 (place 1 34) refl;
  first_and_second_branch = refused 9 (codes "def a = fun (x: Int) => if [Int] true then y else z") E10 (place 1 44) refl;
  type_and_exit = refused 9 (codes "def a = fun (x: Int) => exit [Q] (y, z)") E11 (place 1 31) refl;
  set_and_exit = refused 9 (codes "def a = fun (x: Int) => exit [Int^{y}] (z, w)") E10 (place 1 36) refl;
  exit_and_value = refused 9 (codes "def a = fun (x: Int) => exit [Int] (y, z)") E10 (place 1 37) refl;
  count_and_function = refused 9 (codes "def a = fun (x: Int) => repeat(y, z)") E10 (place 1 32) refl;
  right_side_and_body = refused 9 (codes "def a = fun (x: Int) => val x = y; z") E10 (place 1 33) refl;
  type_and_right_side = refused 9 (codes "def a = fun (x: Int) => val x: Q = y; z") E11 (place 1 32) refl;
  parameter_and_body = refused 9 (codes "def a = fun (x: Int^{y}) => z") E10 (place 1 22) refl;
  bound_and_body = refused 9 (codes "def a = fun [X <: Box[Int^{y}]] => z") E10 (place 1 28) refl;
  shape_and_body = refused 9 (codes "def a = fun (x: Int) => boundary [Q] z => y") E11 (place 1 35) refl;
  two_definitions = refused 9 (codes "def a = y def b = z") E10 (place 1 9) refl;
  second_definition = refused 9 (codes "def a = 1 def b = z") E10 (place 1 19) refl;
  no_value_before_the_next = refused 9 (codes "def a = 1 + 2 def b = y") E12 (place 1 9) refl;
  second_name_before_the_next = refused 9 (codes "def a = 1 def a = y") E09 (place 1 15) refl;
  third_of_one_name = refused 9 (codes "def a = 1 def b = 2 def a = 3") E09 (place 1 25) refl;
  name_of_the_counter = refused 9 (codes "def hits = 1") E09 (place 1 5) refl;
}
