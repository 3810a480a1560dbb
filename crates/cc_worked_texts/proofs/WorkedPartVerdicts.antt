-- Texts that are parts of others: what stands where an expression or a type does, and what has to be there.
use Rattle.std.proofs.Common.{refl, codes, [], ◌∷◌, ◌++◌}
use Rattle.cc_base.specs.declared.code.Code.TheVariants.{E03, E12, E13, E14}
use Rattle.cc_worked_texts.specs.TextVerdicts.{place}
use Rattle.cc_worked_texts.specs.PartVerdicts as example
use Rattle.cc_worked_texts.proofs.ComputedModules.{text_computing, refused, accepted}

pub any_expressions : example.AnyExpressions
unfolding text_computing
any_expressions = record {
  parenthesis = accepted 9 (codes "def a = fun (x: Int) => (val y = x; y)") (codes "a: (_0: Int) -> Int^{_0}" ∷ []) refl;
  right_side_of_a_val = accepted 9 (codes "def a = fun (x: Int) => val y = val z = x; z; y") (codes "a: (_0: Int) -> Int^{_0}" ∷ []) refl;
  body_of_a_val = accepted 9 (codes "def a = fun (x: Int) => val y = x; val z = y; z") (codes "a: (_0: Int) -> Int^{_0}" ∷ []) refl;
  body_of_a_function = accepted 9 (codes "def a = fun (x: Int) => fun (y: Int) => val z = y; z") (codes "a: (_0: Int) -> (_1: Int) -> Int^{_1}" ∷ []) refl;
  body_of_a_type_function = accepted 9 (codes "def a = fun (x: Int) => fun [X <: Any] => val z = x; z") (codes "a: (_0: Int) -> ([_T1 <: Any] -> Int^{_0})^{_0}" ∷ []) refl;
  condition = accepted 9 (codes "def a = fun (b: Bool) => if [Int] val x = b; x then 1 else 2") (codes "a: (_0: Bool) -> Int" ∷ []) refl;
  first_branch = accepted 9 (codes "def a = fun (b: Bool) => if [Int] b then val x = 1; x else 2") (codes "a: (_0: Bool) -> Int" ∷ []) refl;
  second_branch = accepted 9 (codes "def a = fun (b: Bool) => if [Int] b then 1 else val x = 2; x") (codes "a: (_0: Bool) -> Int" ∷ []) refl;
  choice_in_a_condition = accepted 9 (codes "def a = fun (b: Bool) => if [Int] if [Bool] b then true else b then 1 else 2") (codes "a: (_0: Bool) -> Int" ∷ []) refl;
  choice_in_a_first_branch = accepted 9 (codes "def a = fun (b: Bool) => if [Int] b then if [Int] b then 1 else 2 else 3") (codes "a: (_0: Bool) -> Int" ∷ []) refl;
  choice_in_a_second_branch = accepted 9 (codes "def a = fun (b: Bool) => if [Int] b then 1 else if [Int] b then 2 else 3") (codes "a: (_0: Bool) -> Int" ∷ []) refl;
  body_of_a_boundary = accepted 9 (codes "def a = fun (x: Int) => boundary [Int] z => val y = 1; y") (codes "a: (_0: Int) -> Int" ∷ []) refl;
  exit = accepted 9 (codes "def a = fun (e: Exit[Int]) => exit [Int] (val x = e; x, 1)") (codes "a: (_0: Exit[Int]) -> Int" ∷ []) refl;
  value_of_an_exit = accepted 9 (codes "def a = fun (e: Exit[Int]) => exit [Int] (e, val x = 1; x)") (codes "a: (_0: Exit[Int]) -> Int" ∷ []) refl;
  count = accepted 9 (codes "def a = fun (f: (i: Int) -> Unit) => repeat(val n = 1; n, f)") (codes "a: (_0: (_0: Int) -> Unit) -> Unit" ∷ []) refl;
  repeated_function = accepted 9 (codes "def a = fun (x: Int) => repeat(x, fun (i: Int) => unit)") (codes "a: (_0: Int) -> Unit" ∷ []) refl;
  repeated_val = accepted 9 (codes "def a = fun (f: (i: Int) -> Unit) => repeat(1, val g = f; g)") (codes "a: (_0: (_0: Int) -> Unit) -> Unit" ∷ []) refl;
  argument = accepted 9 (codes "def a = fun (f: (i: Int) -> Int) => f(val x = 1; x)") (codes "a: (_0: (_0: Int) -> Int) -> Int" ∷ []) refl;
  function_as_an_argument = accepted 9 (codes "def a = fun (f: (g: (i: Int) -> Int) -> Int) => f(fun (i: Int) => i * 2)") (codes "a: (_0: (_0: (_0: Int) -> Int) -> Int) -> Int" ∷ []) refl;
  printed = accepted 9 (codes "def a = fun (x: Int) => out.print(val y = x; y)") (codes "a: ((_0: Int) -> Unit)^{out}" ∷ []) refl;
  said = accepted 9 (codes "def a = fun (x: Int) => out.say(if [Str] x < 1 then \"a\" else \"b\")") (codes "a: ((_0: Int) -> Unit)^{out}" ∷ []) refl;
  right_side = refused 9 (codes "def a = val x = 1; x") E12 (place 1 9) refl;
  right_side_of_a_recursive_definition = refused 9 (codes "def rec a: Int = val x = 1; x") E12 (place 1 18) refl;
  comparison_as_an_argument = accepted 9 (codes "def a = fun (f: (b: Bool) -> Int) => f(1 < 2)") (codes "a: (_0: (_0: Bool) -> Int) -> Int" ∷ []) refl;
  comparison_as_a_right_side = accepted 9 (codes "def a = fun (x: Int) => val y = x == 1; y") (codes "a: (_0: Int) -> Bool" ∷ []) refl;
}

pub no_operands : example.NoOperands
unfolding text_computing
no_operands = record {
  boxed_val = refused 9 (codes "def a = fun (x: Int) => box val y = 1; y") E03 (place 1 29) refl;
  opened_val = refused 9 (codes "def a = fun (x: Int) => unbox val y = 1; y") E03 (place 1 31) refl;
  added_val = refused 9 (codes "def a = fun (x: Int) => 1 + val y = 1; y") E03 (place 1 29) refl;
  multiplied_val = refused 9 (codes "def a = fun (x: Int) => 1 * val y = 1; y") E03 (place 1 29) refl;
  compared_val = refused 9 (codes "def a = fun (x: Int) => 1 < val y = 1; y") E03 (place 1 29) refl;
  boxed_function = refused 9 (codes "def a = fun (x: Int) => box fun (y: Int) => y") E03 (place 1 29) refl;
  opened_function = refused 9 (codes "def a = fun (x: Int) => unbox fun (y: Int) => y") E03 (place 1 31) refl;
  added_function = refused 9 (codes "def a = fun (x: Int) => 1 + fun (y: Int) => y") E03 (place 1 29) refl;
  multiplied_function = refused 9 (codes "def a = fun (x: Int) => 1 * fun (y: Int) => y") E03 (place 1 29) refl;
  compared_function = refused 9 (codes "def a = fun (x: Int) => 1 < fun (y: Int) => y") E03 (place 1 29) refl;
  boxed_type_function = refused 9 (codes "def a = fun (x: Int) => box fun [X <: Any] => 1") E03 (place 1 29) refl;
  opened_type_function = refused 9 (codes "def a = fun (x: Int) => unbox fun [X <: Any] => 1") E03 (place 1 31) refl;
  added_type_function = refused 9 (codes "def a = fun (x: Int) => 1 + fun [X <: Any] => 1") E03 (place 1 29) refl;
  multiplied_type_function = refused 9 (codes "def a = fun (x: Int) => 1 * fun [X <: Any] => 1") E03 (place 1 29) refl;
  compared_type_function = refused 9 (codes "def a = fun (x: Int) => 1 < fun [X <: Any] => 1") E03 (place 1 29) refl;
  boxed_choice = refused 9 (codes "def a = fun (x: Int) => box if [Int] true then 1 else 2") E03 (place 1 29) refl;
  opened_choice = refused 9 (codes "def a = fun (x: Int) => unbox if [Int] true then 1 else 2") E03 (place 1 31) refl;
  added_choice = refused 9 (codes "def a = fun (x: Int) => 1 + if [Int] true then 1 else 2") E03 (place 1 29) refl;
  multiplied_choice = refused 9 (codes "def a = fun (x: Int) => 1 * if [Int] true then 1 else 2") E03 (place 1 29) refl;
  compared_choice = refused 9 (codes "def a = fun (x: Int) => 1 < if [Int] true then 1 else 2") E03 (place 1 29) refl;
  boxed_boundary = refused 9 (codes "def a = fun (x: Int) => box boundary [Int] z => 1") E03 (place 1 29) refl;
  opened_boundary = refused 9 (codes "def a = fun (x: Int) => unbox boundary [Int] z => 1") E03 (place 1 31) refl;
  added_boundary = refused 9 (codes "def a = fun (x: Int) => 1 + boundary [Int] z => 1") E03 (place 1 29) refl;
  multiplied_boundary = refused 9 (codes "def a = fun (x: Int) => 1 * boundary [Int] z => 1") E03 (place 1 29) refl;
  compared_boundary = refused 9 (codes "def a = fun (x: Int) => 1 < boundary [Int] z => 1") E03 (place 1 29) refl;
  equals_of_equals = refused 9 (codes "def a = fun (x: Int) => 1 == 2 == 3") E03 (place 1 32) refl;
  less_of_equals = refused 9 (codes "def a = fun (x: Int) => 1 == 2 < 3") E03 (place 1 32) refl;
  equals_of_less = refused 9 (codes "def a = fun (x: Int) => 1 < 2 == 3") E03 (place 1 31) refl;
  comparison_behind_a_sum = refused 9 (codes "def a = fun (x: Int) => 1 + 2 < 3 < 4") E03 (place 1 35) refl;
}

pub types : example.TypeParts
unfolding text_computing
types = record {
  set_of_a_type_argument = refused 9 (codes "def f = id[Int^{cap}]") E03 (place 1 15) refl;
  set_inside_an_exit = refused 9 (codes "def a = fun (e: Exit[Int^{cap}]) => e") E03 (place 1 25) refl;
  set_of_a_bound = refused 9 (codes "def a = fun [X <: Int^{cap}] => 1") E03 (place 1 22) refl;
  set_of_a_bound_in_a_type = refused 9 (codes "def a = fun (f: [X <: Int^{cap}] -> Int) => 1") E03 (place 1 26) refl;
  set_of_a_boundary = refused 9 (codes "def a = boundary [Int^{cap}] z => 1") E03 (place 1 22) refl;
  set_in_parentheses = refused 9 (codes "def a = fun (x: (Int^{cap})) => 1") E03 (place 1 21) refl;
  set_behind_parentheses = accepted 9 (codes "def a = fun (x: (Int)^{cap}) => 1") (codes "a: (_0: Int^{cap}) -> Int" ∷ []) refl;
  set_of_a_content = accepted 9 (codes "def a = fun (x: Box[Int^{cap}]) => 1") (codes "a: (_0: Box[Int^{cap}]) -> Int" ∷ []) refl;
  set_of_a_choice = accepted 9 (codes "def a = fun (x: Int) => if [Int^{x}] true then 1 else x") (codes "a: (_0: Int) -> Int^{_0}" ∷ []) refl;
  set_of_an_exit = accepted 9 (codes "def a = fun (e: Exit[Int]) => exit [Int^{e}] (e, 1)") (codes "a: (_0: Exit[Int]) -> Int^{_0}" ∷ []) refl;
  set_of_a_val = accepted 9 (codes "def a = fun (x: Int) => val y: Int^{x} = x; y") (codes "a: (_0: Int) -> Int^{_0}" ∷ []) refl;
  set_of_a_definition = accepted 9 (codes "def a: ((x: Int) -> Int)^{out} = fun (x: Int) => x") (codes "a: ((_0: Int) -> Int)^{out}" ∷ []) refl;
  set_of_a_parameter = accepted 9 (codes "def a = fun (f: (x: Int^{cap}) -> Int^{x}) => 1") (codes "a: (_0: (_0: Int^{cap}) -> Int^{_0}) -> Int" ∷ []) refl;
  set_of_a_result_of_a_type_function = accepted 9 (codes "def a = fun (f: [X <: Int] -> X^{cap}) => 1") (codes "a: (_0: [_T0 <: Int] -> _T0^{cap}) -> Int" ∷ []) refl;
  parentheses_in_parentheses = accepted 9 (codes "def a = fun (x: ((Int))) => x") (codes "a: (_0: Int) -> Int^{_0}" ∷ []) refl;
  name_in_parentheses = accepted 9 (codes "def a = fun [X <: Any] => fun (x: (X)) => x") (codes "a: [_T0 <: Any] -> (_1: _T0) -> _T0^{_1}" ∷ []) refl;
  function_in_parentheses = accepted 9 (codes "def a = fun (f: ((x: Int) -> Int)) => f(1)") (codes "a: (_0: (_0: Int) -> Int) -> Int" ∷ []) refl;
  functions_of_functions = accepted 9 (codes "def a = fun (f: (g: (x: Int) -> Int) -> (y: Int) -> Int) => f") ((codes "a: (_0: (_0: (_0: Int) -> Int) -> (_1: Int) -> Int) -> ((_1: (_1: Int) -> Int) -> (_2: " ++ codes "Int) -> Int)^{_0}") ∷ []) refl;
  type_function_in_parentheses = accepted 9 (codes "def a = fun (f: ([X <: Any] -> Int)) => f[Int]") (codes "a: (_0: [_T0 <: Any] -> Int) -> Int" ∷ []) refl;
  no_name_of_a_parameter = refused 9 (codes "def a = fun (f: (Int) -> Int) => f") E03 (place 1 23) refl;
  arrow_of_an_expression = refused 9 (codes "def a = fun (f: (x: Int) => Int) => f") E03 (place 1 26) refl;
  no_arrow = refused 9 (codes "def a = fun (f: (x: Int) Int) => f") E03 (place 1 26) refl;
  bound_with_a_colon = refused 9 (codes "def a = fun (f: [X: Int] -> Int) => f") E03 (place 1 19) refl;
  no_bound = refused 9 (codes "def a = fun (f: [X] -> Int) => f") E03 (place 1 19) refl;
  expression_arrow_of_a_type_function = refused 9 (codes "def a = fun (f: [X <: Int] => Int) => f") E03 (place 1 28) refl;
  exit_of_nothing = refused 9 (codes "def a = fun (e: Exit) => e") E03 (place 1 21) refl;
  exit_in_parentheses = refused 9 (codes "def a = fun (e: Exit(Int)) => e") E03 (place 1 21) refl;
  box_of_nothing = refused 9 (codes "def a = fun (b: Box[]) => b") E03 (place 1 21) refl;
  box_without_brackets = refused 9 (codes "def a = fun (b: Box Int) => b") E03 (place 1 21) refl;
  word_as_a_type = refused 9 (codes "def a = fun (x: unit) => x") E03 (place 1 17) refl;
  number_as_a_type = refused 9 (codes "def a = fun (x: 1) => x") E03 (place 1 17) refl;
  empty_parentheses = refused 9 (codes "def a = fun (x: ()) => x") E03 (place 1 18) refl;
  braces_as_a_type = refused 9 (codes "def a = fun (x: {out}) => x") E03 (place 1 17) refl;
}

pub sets : example.SetTexts
unfolding text_computing
sets = record {
  empty = accepted 9 (codes "def a = fun (x: Int^{}) => x") (codes "a: (_0: Int) -> Int^{_0}" ∷ []) refl;
  one = accepted 9 (codes "def a = fun (x: Int^{out}) => 1") (codes "a: (_0: Int^{out}) -> Int" ∷ []) refl;
  cap_first = accepted 9 (codes "def a = fun (x: Int^{cap, out}) => 1") (codes "a: (_0: Int^{out, cap}) -> Int" ∷ []) refl;
  cap_last = accepted 9 (codes "def a = fun (x: Int^{out, cap}) => 1") (codes "a: (_0: Int^{out, cap}) -> Int" ∷ []) refl;
  twice = accepted 9 (codes "def a = fun (x: Int^{out, hits, out}) => 1") (codes "a: (_0: Int^{out, hits}) -> Int" ∷ []) refl;
  three = accepted 9 (codes "def a = fun (y: Int) => fun (x: Int^{hits, y, out}) => 1") (codes "a: (_0: Int) -> (_1: Int^{out, hits, _0}) -> Int" ∷ []) refl;
  comma_first = refused 9 (codes "def a = fun (x: Int^{, out}) => 1") E03 (place 1 22) refl;
  comma_last = refused 9 (codes "def a = fun (x: Int^{out,}) => 1") E03 (place 1 26) refl;
  two_commas = refused 9 (codes "def a = fun (x: Int^{out,, hits}) => 1") E03 (place 1 26) refl;
  no_comma = refused 9 (codes "def a = fun (x: Int^{out hits}) => 1") E03 (place 1 26) refl;
  semicolon = refused 9 (codes "def a = fun (x: Int^{out; hits}) => 1") E03 (place 1 25) refl;
  question = refused 9 (codes "def a = fun (x: Int^{?}) => 1") E03 (place 1 22) refl;
  question_behind = refused 9 (codes "def a = fun (x: Int^{out, ?}) => 1") E03 (place 1 27) refl;
  without_braces = refused 9 (codes "def a = fun (x: Int^out) => 1") E03 (place 1 21) refl;
  cap_without_braces = refused 9 (codes "def a = fun (x: Int^cap) => 1") E03 (place 1 21) refl;
  without_a_caret = refused 9 (codes "def a = fun (x: Int{out}) => 1") E03 (place 1 20) refl;
  shape_in_a_set = refused 9 (codes "def a = fun (x: Int^{Int}) => 1") E03 (place 1 22) refl;
  number_in_a_set = refused 9 (codes "def a = fun (x: Int^{1}) => 1") E03 (place 1 22) refl;
  sets_in_a_set = refused 9 (codes "def a = fun (x: Int^{{out}}) => 1") E03 (place 1 22) refl;
  not_closed = refused 9 (codes "def a = fun (x: Int^{out) => 1") E03 (place 1 25) refl;
  two_omitted = refused 9 (codes "def a = fun (x: Int^??) => 1") E03 (place 1 22) refl;
  empty_of_an_unboxing = accepted 9 (codes "def a = fun (b: Box[Int]) => unbox {} b") (codes "a: (_0: Box[Int]) -> Int" ∷ []) refl;
  three_of_an_unboxing = accepted 9 (codes "def a = fun (b: Box[Int]) => unbox {hits, b, out} b") (codes "a: ((_0: Box[Int]) -> Int^{out, hits, _0})^{out, hits}" ∷ []) refl;
  caret_of_an_unboxing = refused 9 (codes "def a = fun (b: Box[Int]) => unbox ^{out} b") E03 (place 1 36) refl;
  question_of_an_unboxing = refused 9 (codes "def a = fun (b: Box[Int]) => unbox ? b") E03 (place 1 36) refl;
  question_in_an_unboxing = refused 9 (codes "def a = fun (b: Box[Int]) => unbox {?} b") E03 (place 1 37) refl;
  set_behind_an_unboxing = refused 9 (codes "def a = fun (b: Box[Int]) => unbox b {out}") E03 (place 1 38) refl;
  set_of_a_box = refused 9 (codes "def a = fun (b: Int) => box {out} b") E03 (place 1 29) refl;
  comma_last_of_an_unboxing = refused 9 (codes "def a = fun (b: Box[Int]) => unbox {out,} b") E03 (place 1 41) refl;
}

pub wanted_tokens : example.WantedTokens
unfolding text_computing
wanted_tokens = record {
  first_token = refused 9 (codes "x") E03 (place 1 1) refl;
  operation = refused 9 (codes "def a = out.foo(1)") E03 (place 1 13) refl;
  operation_longer = refused 9 (codes "def a = out.prints(1)") E03 (place 1 13) refl;
  operation_capital = refused 9 (codes "def a = out.Print(1)") E03 (place 1 13) refl;
  operation_shorter = refused 9 (codes "def a = out.prin(1)") E03 (place 1 13) refl;
  no_operation = refused 9 (codes "def a = out.(1)") E03 (place 1 13) refl;
  word_as_an_operation = refused 9 (codes "def a = out.val(1)") E03 (place 1 13) refl;
  no_parenthesis = refused 9 (codes "def a = out.print 1") E03 (place 1 19) refl;
  said_nothing = refused 9 (codes "def a = out.say()") E03 (place 1 17) refl;
  written_nothing = refused 9 (codes "def a = out.write()") E03 (place 1 19) refl;
  tick_with_an_argument = refused 9 (codes "def a = hits.tick(1)") E03 (place 1 19) refl;
  read_with_an_argument = refused 9 (codes "def a = hits.read(1)") E03 (place 1 19) refl;
  printed_two = refused 9 (codes "def a = out.print(1, 2)") E03 (place 1 20) refl;
  call_of_nothing = refused 9 (codes "def a = f()") E03 (place 1 11) refl;
  call_of_two = refused 9 (codes "def a = f(1, 2)") E03 (place 1 12) refl;
  no_shape = refused 9 (codes "def a = f[]") E03 (place 1 11) refl;
  number_as_a_shape = refused 9 (codes "def a = f[1]") E03 (place 1 11) refl;
  two_shapes = refused 9 (codes "def a = f[Int, Int]") E03 (place 1 14) refl;
  empty_parentheses = refused 9 (codes "def a = ()") E03 (place 1 10) refl;
  pair = refused 9 (codes "def a = (1, 2)") E03 (place 1 11) refl;
  not_closed = refused 9 (codes "def a = (1") E03 (place 1 11) refl;
  closed_twice = refused 9 (codes "def a = (1))") E03 (place 1 12) refl;
  two_expressions = refused 9 (codes "def a = 1 2") E03 (place 1 11) refl;
  semicolon_behind = refused 9 (codes "def a = 1;") E03 (place 1 10) refl;
  comma_behind = refused 9 (codes "def a = 1, 2") E03 (place 1 10) refl;
  no_equals = refused 9 (codes "def a 1") E03 (place 1 7) refl;
  two_types = refused 9 (codes "def a: Int: Int = 1") E03 (place 1 11) refl;
  type_behind = refused 9 (codes "def a = 1: Int") E03 (place 1 10) refl;
  equals_of_a_comparison = refused 9 (codes "def a == 1") E03 (place 1 7) refl;
  no_type_behind_a_colon = refused 9 (codes "def a: = 1") E03 (place 1 8) refl;
  shape_as_an_expression = refused 9 (codes "def a = Int") E03 (place 1 9) refl;
  cap_as_an_expression = refused 9 (codes "def a = cap") E03 (place 1 9) refl;
  number_as_a_name = refused 9 (codes "def 1 = 1") E03 (place 1 5) refl;
  text_as_a_name = refused 9 (codes "def \"a\" = 1") E03 (place 1 5) refl;
  val_without_a_semicolon = refused 9 (codes "def a = val x = 1 x") E03 (place 1 19) refl;
  val_with_a_comma = refused 9 (codes "def a = val x = 1, x") E03 (place 1 18) refl;
  val_without_a_body = refused 9 (codes "def a = val x = 1;") E03 (place 1 19) refl;
  val_without_a_name = refused 9 (codes "def a = val = 1; 2") E03 (place 1 13) refl;
  val_in_parentheses = refused 9 (codes "def a = val (x) = 1; x") E03 (place 1 13) refl;
  function_without_a_type = refused 9 (codes "def a = fun (x) => x") E03 (place 1 15) refl;
  function_without_parentheses = refused 9 (codes "def a = fun x => x") E03 (place 1 13) refl;
  function_of_nothing = refused 9 (codes "def a = fun () => 1") E03 (place 1 14) refl;
  function_of_two = refused 9 (codes "def a = fun (x: Int, y: Int) => x") E03 (place 1 20) refl;
  function_with_the_other_arrow = refused 9 (codes "def a = fun (x: Int) -> x") E03 (place 1 22) refl;
  function_with_an_equals = refused 9 (codes "def a = fun (x: Int) = x") E03 (place 1 22) refl;
  type_function_without_a_bound = refused 9 (codes "def a = fun [X] => 1") E03 (place 1 15) refl;
  type_function_with_a_colon = refused 9 (codes "def a = fun [X: Int] => 1") E03 (place 1 15) refl;
  type_function_with_the_other_arrow = refused 9 (codes "def a = fun [X <: Int] -> 1") E03 (place 1 24) refl;
  function_with_a_bound = refused 9 (codes "def a = fun (x <: Int) => x") E03 (place 1 16) refl;
  choice_without_a_type = refused 9 (codes "def a = if true then 1 else 2") E03 (place 1 12) refl;
  choice_without_brackets = refused 9 (codes "def a = if Int true then 1 else 2") E03 (place 1 12) refl;
  choice_without_then = refused 9 (codes "def a = if [Int] true 1 else 2") E03 (place 1 23) refl;
  choice_without_else = refused 9 (codes "def a = if [Int] true then 1") E03 (place 1 29) refl;
  choice_with_two_elses = refused 9 (codes "def a = if [Int] true then 1 else 2 else 3") E03 (place 1 37) refl;
  boundary_without_a_shape = refused 9 (codes "def a = boundary z => 1") E03 (place 1 18) refl;
  boundary_without_a_name = refused 9 (codes "def a = boundary [Int] => 1") E03 (place 1 24) refl;
  boundary_without_an_arrow = refused 9 (codes "def a = boundary [Int] z 1") E03 (place 1 26) refl;
  boundary_with_the_other_arrow = refused 9 (codes "def a = boundary [Int] z -> 1") E03 (place 1 26) refl;
  boundary_with_a_type = refused 9 (codes "def a = boundary [Int] z: Int => 1") E03 (place 1 25) refl;
  repetition_of_one = refused 9 (codes "def a = repeat(1)") E03 (place 1 17) refl;
  repetition_of_three = refused 9 (codes "def a = repeat(1, 2, 3)") E03 (place 1 20) refl;
  repetition_without_parentheses = refused 9 (codes "def a = repeat 1, 2") E03 (place 1 16) refl;
  repetition_with_a_semicolon = refused 9 (codes "def a = repeat(1; 2)") E03 (place 1 17) refl;
  exit_without_a_type = refused 9 (codes "def a = exit (x, 1)") E03 (place 1 14) refl;
  exit_without_parentheses = refused 9 (codes "def a = exit [Int] x") E03 (place 1 20) refl;
  exit_of_one = refused 9 (codes "def a = exit [Int] (x)") E03 (place 1 22) refl;
  exit_with_a_semicolon = refused 9 (codes "def a = exit [Int] (x; 1)") E03 (place 1 22) refl;
  box_of_nothing = refused 9 (codes "def a = box") E03 (place 1 12) refl;
  box_of_an_operator = refused 9 (codes "def a = box + 1") E03 (place 1 13) refl;
  operator_without_a_right_side = refused 9 (codes "def a = 1 + * 2") E03 (place 1 13) refl;
  operator_without_a_left_side = refused 9 (codes "def a = * 2") E03 (place 1 9) refl;
  minus_in_front = refused 9 (codes "def a = 1 + -2") E03 (place 1 13) refl;
  import_without_a_dot = refused 9 (codes "import m d") E03 (place 1 10) refl;
  import_of_three = refused 9 (codes "import m.d.e") E03 (place 1 11) refl;
  import_without_a_module = refused 9 (codes "import .d") E03 (place 1 8) refl;
  import_of_a_word = refused 9 (codes "import m.def") E03 (place 1 10) refl;
  import_with_a_text = refused 9 (codes "import \"m\".d") E03 (place 1 8) refl;
  rec_without_a_type = refused 9 (codes "def rec a = 1") E03 (place 1 11) refl;
  rec_twice = refused 9 (codes "def rec rec a: Int = 1") E03 (place 1 9) refl;
  rec_behind_the_name = refused 9 (codes "def a rec: Int = 1") E03 (place 1 7) refl;
  word_first = refused 9 (codes "fun (x: Int) => x") E03 (place 1 1) refl;
  definition_in_a_definition = refused 9 (codes "def a = def b = 1") E03 (place 1 9) refl;
}

pub whole_operands : example.WholeOperands
unfolding text_computing
whole_operands = record {
  boxed_exit = accepted 9 (codes "def a = fun (e: Exit[Int]) => box exit [Int] (e, 1)") (codes "a: (_0: Exit[Int]) -> Box[Int]" ∷ []) refl;
  opened_exit = accepted 9 (codes "def a = fun (e: Exit[Int]) => unbox exit [Box[Int]] (e, 1)") (codes "a: (_0: Exit[Int]) -> Int" ∷ []) refl;
  added_exit = accepted 9 (codes "def a = fun (e: Exit[Int]) => 1 + exit [Int] (e, 1)") (codes "a: (_0: Exit[Int]) -> Int" ∷ []) refl;
  multiplied_exit = accepted 9 (codes "def a = fun (e: Exit[Int]) => 1 * exit [Int] (e, 1)") (codes "a: (_0: Exit[Int]) -> Int" ∷ []) refl;
  compared_exit = accepted 9 (codes "def a = fun (e: Exit[Int]) => 1 < exit [Int] (e, 1)") (codes "a: (_0: Exit[Int]) -> Bool" ∷ []) refl;
  exit_with_an_operator = accepted 9 (codes "def a = fun (e: Exit[Int]) => exit [Int] (e, 1) * 2") (codes "a: (_0: Exit[Int]) -> Int" ∷ []) refl;
  called_exit = accepted 9 (codes "def a = fun (e: Exit[Int]) => exit [(i: Int) -> Int] (e, 1)(2)") (codes "a: (_0: Exit[Int]) -> Int" ∷ []) refl;
  exit_with_a_shape = accepted 9 (codes "def a = fun (e: Exit[Int]) => exit [[X <: Any] -> Int] (e, 1)[Int]") (codes "a: (_0: Exit[Int]) -> Int" ∷ []) refl;
  operated_exit = accepted 9 (codes "def a = fun (e: Exit[Int]) => exit [Console] (e, 1).print(2)") (codes "a: (_0: Exit[Int]) -> Unit" ∷ []) refl;
  boxed_repetition = accepted 9 (codes "def a = fun (f: (i: Int) -> Unit) => box repeat(1, f)") (codes "a: (_0: (_0: Int) -> Unit) -> Box[Unit]" ∷ []) refl;
  opened_repetition = refused 9 (codes "def a = fun (f: (i: Int) -> Unit) => unbox repeat(1, f)") E13 (place 1 44) refl;
  added_repetition = refused 9 (codes "def a = fun (f: (i: Int) -> Unit) => 1 + repeat(1, f)") E14 (place 1 42) refl;
  multiplied_repetition = refused 9 (codes "def a = fun (f: (i: Int) -> Unit) => 1 * repeat(1, f)") E14 (place 1 42) refl;
  compared_repetition = refused 9 (codes "def a = fun (f: (i: Int) -> Unit) => 1 == repeat(1, f)") E14 (place 1 43) refl;
  repetition_with_an_operator = refused 9 (codes "def a = fun (f: (i: Int) -> Unit) => repeat(1, f) * 2") E14 (place 1 38) refl;
  called_repetition = refused 9 (codes "def a = fun (f: (i: Int) -> Unit) => repeat(1, f)(2)") E13 (place 1 38) refl;
  repetition_with_a_shape = refused 9 (codes "def a = fun (f: (i: Int) -> Unit) => repeat(1, f)[Int]") E13 (place 1 38) refl;
  operated_repetition = refused 9 (codes "def a = fun (f: (i: Int) -> Unit) => repeat(1, f).read()") E13 (place 1 38) refl;
  added_unboxing = accepted 9 (codes "def a = fun (b: Box[Int]) => 1 + unbox b") (codes "a: (_0: Box[Int]) -> Int" ∷ []) refl;
  multiplied_unboxing = accepted 9 (codes "def a = fun (b: Box[Int]) => 2 * unbox b") (codes "a: (_0: Box[Int]) -> Int" ∷ []) refl;
  unboxing_with_an_operator = accepted 9 (codes "def a = fun (b: Box[Int]) => unbox b * 2") (codes "a: (_0: Box[Int]) -> Int" ∷ []) refl;
  compared_unboxings = accepted 9 (codes "def a = fun (b: Box[Int]) => unbox b < unbox b") (codes "a: (_0: Box[Int]) -> Bool" ∷ []) refl;
  boxed_unboxing = accepted 9 (codes "def a = fun (b: Box[Int]) => box unbox b") (codes "a: (_0: Box[Int]) -> Box[Int]" ∷ []) refl;
  opened_box = accepted 9 (codes "def a = fun (b: Box[Int]) => unbox box b") (codes "a: (_0: Box[Int]) -> Box[Int]^{_0}" ∷ []) refl;
  multiplied_box = refused 9 (codes "def a = fun (b: Box[Int]) => 2 * box b") E14 (place 1 34) refl;
  box_with_an_operator = refused 9 (codes "def a = fun (b: Box[Int]) => box b * 2") E14 (place 1 30) refl;
  opened_call = accepted 9 (codes "def a = fun (f: (i: Int) -> Box[Int]) => unbox f(1)") (codes "a: (_0: (_0: Int) -> Box[Int]) -> Int" ∷ []) refl;
  opened_operation = refused 9 (codes "def a = fun (f: File^{cap}) => unbox f.read()") E13 (place 1 38) refl;
  boxed_type_call = accepted 9 (codes "def a = fun (f: [X <: Any] -> Int) => box f[Int]") (codes "a: (_0: [_T0 <: Any] -> Int) -> Box[Int]" ∷ []) refl;
  opened_chain = accepted 9 (codes "def a = fun (f: (i: Int) -> [X <: Any] -> Box[Int]) => unbox {} f(1)[Int] + 1") (codes "a: (_0: (_0: Int) -> [_T1 <: Any] -> Box[Int]) -> Int" ∷ []) refl;
  called_parenthesis = accepted 9 (codes "def a = fun (f: (i: Int) -> Int) => (f)(1)") (codes "a: (_0: (_0: Int) -> Int) -> Int" ∷ []) refl;
  called_box = refused 9 (codes "def a = fun (b: Box[Int]) => (unbox b)(1)") E13 (place 1 30) refl;
  call_of_a_call = accepted 9 (codes "def a = fun (f: (i: Int) -> (j: Int) -> Int) => f(1)(2)") (codes "a: (_0: (_0: Int) -> (_1: Int) -> Int) -> Int" ∷ []) refl;
  type_call_of_a_call = accepted 9 (codes "def a = fun (f: (i: Int) -> [X <: Any] -> Int) => f(1)[Int]") (codes "a: (_0: (_0: Int) -> [_T1 <: Any] -> Int) -> Int" ∷ []) refl;
  call_of_a_type_call = accepted 9 (codes "def a = fun (f: [X <: Any] -> (i: Int) -> Int) => f[Int](1)") (codes "a: (_0: [_T0 <: Any] -> (_1: Int) -> Int) -> Int" ∷ []) refl;
  operated_call = accepted 9 (codes "def a = fun (f: (i: Int) -> File^{cap}) => f(1).read()") (codes "a: (_0: (_0: Int) -> File^{cap}) -> Int" ∷ []) refl;
  call_of_an_operation = refused 9 (codes "def a = fun (f: File^{cap}) => f.read()(1)") E13 (place 1 32) refl;
  type_call_of_an_operation = refused 9 (codes "def a = fun (f: File^{cap}) => f.write(1)[Int]") E13 (place 1 32) refl;
  called_literal = refused 9 (codes "def a = fun (x: Int) => 1(x)") E13 (place 1 25) refl;
  operated_literal = refused 9 (codes "def a = fun (x: Int) => \"\".say(\"\")") E13 (place 1 25) refl;
  operands_of_calls = accepted 9 (codes "def a = fun (f: (i: Int) -> Int) => f(1) * f(2) + f(3) < f(4)") (codes "a: (_0: (_0: Int) -> Int) -> Bool" ∷ []) refl;
  call_in_a_product = accepted 9 (codes "def a = fun (f: (i: Int) -> Int) => 1 * f(2)") (codes "a: (_0: (_0: Int) -> Int) -> Int" ∷ []) refl;
  type_call_in_a_product = accepted 9 (codes "def a = fun (f: [X <: Any] -> Int) => 1 * f[Int]") (codes "a: (_0: [_T0 <: Any] -> Int) -> Int" ∷ []) refl;
  operation_in_a_product = accepted 9 (codes "def a = fun (f: File^{cap}) => 1 * f.read()") (codes "a: (_0: File^{cap}) -> Int" ∷ []) refl;
}
