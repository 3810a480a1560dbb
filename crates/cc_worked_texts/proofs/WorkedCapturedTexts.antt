-- What functions capture, by the forms of their bodies.
use Rattle.std.proofs.Common.{refl, codes, [], ◌∷◌}
use Rattle.cc_worked_texts.specs.CapturedTexts as example
use Rattle.cc_worked_texts.proofs.ComputedModules.{text_computing, accepted}

pub parts : example.CapturedParts
unfolding text_computing
parts = record {
  left_side = accepted 9 (codes "def a = fun (x: Int) => fun (y: Int) => x + y") (codes "a: (_0: Int) -> ((_1: Int) -> Int)^{_0}" ∷ []) refl;
  right_side = accepted 9 (codes "def a = fun (x: Int) => fun (y: Int) => y + x") (codes "a: (_0: Int) -> ((_1: Int) -> Int)^{_0}" ∷ []) refl;
  left_side_of_less = accepted 9 (codes "def a = fun (x: Int) => fun (y: Int) => x < y") (codes "a: (_0: Int) -> ((_1: Int) -> Bool)^{_0}" ∷ []) refl;
  right_side_of_equals = accepted 9 (codes "def a = fun (x: Int) => fun (y: Int) => y == x") (codes "a: (_0: Int) -> ((_1: Int) -> Bool)^{_0}" ∷ []) refl;
  condition = accepted 9 (codes "def a = fun (x: Bool) => fun (u: Unit) => if [Int] x then 1 else 2") (codes "a: (_0: Bool) -> ((_1: Unit) -> Int)^{_0}" ∷ []) refl;
  first_branch = accepted 9 (codes "def a = fun (x: Int) => fun (y: Bool) => if [Int^{x}] y then x else 2") (codes "a: (_0: Int) -> ((_1: Bool) -> Int^{_0})^{_0}" ∷ []) refl;
  second_branch = accepted 9 (codes "def a = fun (x: Int) => fun (y: Bool) => if [Int^{x}] y then 1 else x") (codes "a: (_0: Int) -> ((_1: Bool) -> Int^{_0})^{_0}" ∷ []) refl;
  condition_of_an_omitted_set = accepted 9 (codes "def a = fun (x: Bool) => fun (u: Unit) => if [Int^?] x then 1 else 2") (codes "a: (_0: Bool) -> ((_1: Unit) -> Int)^{_0}" ∷ []) refl;
  count = accepted 9 (codes "def a = fun (x: Int) => fun (f: (i: Int) -> Unit) => repeat(x, f)") (codes "a: (_0: Int) -> ((_1: (_1: Int) -> Unit) -> Unit)^{_0}" ∷ []) refl;
  repeated_function = accepted 9 (codes "def a = fun (x: (i: Int) -> Unit) => fun (n: Int) => repeat(n, x)") (codes "a: (_0: (_0: Int) -> Unit) -> ((_1: Int) -> Unit)^{_0}" ∷ []) refl;
  function = accepted 9 (codes "def a = fun (x: (i: Int) -> Int) => fun (n: Int) => x(n)") (codes "a: (_0: (_0: Int) -> Int) -> ((_1: Int) -> Int)^{_0}" ∷ []) refl;
  argument = accepted 9 (codes "def a = fun (x: Int) => fun (f: (i: Int) -> Int) => f(x)") (codes "a: (_0: Int) -> ((_1: (_1: Int) -> Int) -> Int)^{_0}" ∷ []) refl;
  type_function = accepted 9 (codes "def a = fun (x: [X <: Any] -> Int) => fun (u: Unit) => x[Int]") (codes "a: (_0: [_T0 <: Any] -> Int) -> ((_1: Unit) -> Int)^{_0}" ∷ []) refl;
  receiver = accepted 9 (codes "def a = fun (x: Console^{cap}) => fun (n: Int) => x.print(n)") (codes "a: (_0: Console^{cap}) -> ((_1: Int) -> Unit)^{_0}" ∷ []) refl;
  given = accepted 9 (codes "def a = fun (x: Int) => fun (u: Unit) => out.print(x)") (codes "a: ((_0: Int) -> ((_1: Unit) -> Unit)^{out, _0})^{out}" ∷ []) refl;
  receiver_of_say = accepted 9 (codes "def a = fun (x: Console^{cap}) => fun (s: Str) => x.say(s)") (codes "a: (_0: Console^{cap}) -> ((_1: Str) -> Unit)^{_0}" ∷ []) refl;
  said = accepted 9 (codes "def a = fun (x: Str) => fun (u: Unit) => out.say(x)") (codes "a: ((_0: Str) -> ((_1: Unit) -> Unit)^{out, _0})^{out}" ∷ []) refl;
  receiver_of_write = accepted 9 (codes "def a = fun (x: File^{cap}) => fun (n: Int) => x.write(n)") (codes "a: (_0: File^{cap}) -> ((_1: Int) -> Unit)^{_0}" ∷ []) refl;
  written = accepted 9 (codes "def a = fun (x: Int) => fun (f: File^{cap}) => f.write(x)") (codes "a: (_0: Int) -> ((_1: File^{cap}) -> Unit)^{_0}" ∷ []) refl;
  receiver_of_read = accepted 9 (codes "def a = fun (x: File^{cap}) => fun (u: Unit) => x.read()") (codes "a: (_0: File^{cap}) -> ((_1: Unit) -> Int)^{_0}" ∷ []) refl;
  receiver_of_tick = accepted 9 (codes "def a = fun (x: Counter^{cap}) => fun (u: Unit) => x.tick()") (codes "a: (_0: Counter^{cap}) -> ((_1: Unit) -> Int)^{_0}" ∷ []) refl;
  box_that_is_opened = accepted 9 (codes "def a = fun (x: Box[Int^{out}]) => fun (u: Unit) => unbox {out} x") (codes "a: ((_0: Box[Int^{out}]) -> ((_1: Unit) -> Int^{out})^{out, _0})^{out}" ∷ []) refl;
  set_of_an_unboxing = accepted 9 (codes "def a = fun (x: Int) => fun (b: Box[Int]) => unbox {x} b") (codes "a: (_0: Int) -> ((_1: Box[Int]) -> Int^{_0})^{_0}" ∷ []) refl;
  omitted_set_of_an_unboxing = accepted 9 (codes "def a = fun (x: Int) => fun (b: Box[Int^{x}]) => unbox b") (codes "a: (_0: Int) -> ((_1: Box[Int^{_0}]) -> Int^{_0})^{_0}" ∷ []) refl;
  exit = accepted 9 (codes "def a = fun (x: Exit[Int]) => fun (n: Int) => exit [Int] (x, n)") (codes "a: (_0: Exit[Int]) -> ((_1: Int) -> Int)^{_0}" ∷ []) refl;
  value_of_an_exit = accepted 9 (codes "def a = fun (x: Int) => fun (e: Exit[Int]) => exit [Int] (e, x)") (codes "a: (_0: Int) -> ((_1: Exit[Int]) -> Int)^{_0}" ∷ []) refl;
  variable = accepted 9 (codes "def a = fun (x: Int) => fun (u: Unit) => x") (codes "a: (_0: Int) -> ((_1: Unit) -> Int^{_0})^{_0}" ∷ []) refl;
  inside_a_function = accepted 9 (codes "def a = fun (x: Int) => fun (u: Unit) => fun (v: Unit) => x") (codes "a: (_0: Int) -> ((_1: Unit) -> ((_2: Unit) -> Int^{_0})^{_0})^{_0}" ∷ []) refl;
  inside_a_type_function = accepted 9 (codes "def a = fun (x: Int) => fun [X <: Any] => x") (codes "a: (_0: Int) -> ([_T1 <: Any] -> Int^{_0})^{_0}" ∷ []) refl;
  parameter_under_a_type = accepted 9 (codes "def a = fun (x: Int) => fun [X <: Any] => fun (y: X) => y") (codes "a: (_0: Int) -> [_T1 <: Any] -> (_2: _T1) -> _T1^{_2}" ∷ []) refl;
  inside_a_boundary = accepted 9 (codes "def a = fun (x: Int) => fun (u: Unit) => boundary [Int] z => x + 1") (codes "a: (_0: Int) -> ((_1: Unit) -> Int)^{_0}" ∷ []) refl;
  device_inside_a_boundary = accepted 9 (codes "def a = fun (x: Int) => fun (u: Unit) => boundary [Int] z => hits.tick()") (codes "a: ((_0: Int) -> ((_1: Unit) -> Int)^{hits})^{hits}" ∷ []) refl;
}

pub not_captured : example.NotCaptured
unfolding text_computing
not_captured = record {
  content_of_a_box = accepted 9 (codes "def a = fun (x: Int) => fun (u: Unit) => box x") (codes "a: (_0: Int) -> (_1: Unit) -> Box[Int^{_0}]" ∷ []) refl;
  box_of_a_device = accepted 9 (codes "def a = fun (u: Unit) => box out") (codes "a: (_0: Unit) -> Box[Console^{out}]" ∷ []) refl;
  literal = accepted 9 (codes "def a = fun (x: Int) => fun (u: Unit) => 1") (codes "a: (_0: Int) -> (_1: Unit) -> Int" ∷ []) refl;
  own_parameter = accepted 9 (codes "def a = fun (x: Int) => x + 1") (codes "a: (_0: Int) -> Int" ∷ []) refl;
  own_parameter_of_a_function_inside = accepted 9 (codes "def a = fun (x: Int) => fun (y: Int) => fun (z: Int) => z + 1") (codes "a: (_0: Int) -> (_1: Int) -> (_2: Int) -> Int" ∷ []) refl;
  exit_of_a_boundary = accepted 9 (codes "def a = fun (x: Int) => boundary [Int] z => exit [Int] (z, 1)") (codes "a: (_0: Int) -> Int" ∷ []) refl;
  bound_by_val = accepted 9 (codes "def a = fun (x: Int) => fun (u: Unit) => val y = 1; y + 1") (codes "a: (_0: Int) -> (_1: Unit) -> Int" ∷ []) refl;
  set_of_a_parameter = accepted 9 (codes "def a = fun (x: Int) => fun (y: Int^{x}) => 1") (codes "a: (_0: Int) -> (_1: Int^{_0}) -> Int" ∷ []) refl;
  set_of_a_choice = accepted 9 (codes "def a = fun (x: Int) => fun (u: Unit) => if [Int^{x}] true then 1 else 2") (codes "a: (_0: Int) -> (_1: Unit) -> Int^{_0}" ∷ []) refl;
  set_of_an_exit = accepted 9 (codes "def a = fun (x: Int) => fun (e: Exit[Int]) => exit [Int^{x}] (e, 1)") (codes "a: (_0: Int) -> (_1: Exit[Int]) -> Int^{_0}" ∷ []) refl;
  set_of_a_val = accepted 9 (codes "def a = fun (x: Int) => fun (u: Unit) => val y: Int^{x} = 1; 2") (codes "a: (_0: Int) -> (_1: Unit) -> Int" ∷ []) refl;
  set_in_a_type_argument = accepted 9 (codes "def a = fun (x: Int) => fun (f: [X <: Any] -> Int) => f[Box[Int^{x}]]") (codes "a: (_0: Int) -> (_1: [_T1 <: Any] -> Int) -> Int" ∷ []) refl;
  set_in_a_bound = accepted 9 (codes "def a = fun (x: Int) => fun [X <: Box[Int^{x}]] => 1") (codes "a: (_0: Int) -> [_T1 <: Box[Int^{_0}]] -> Int" ∷ []) refl;
  set_in_a_boundary = accepted 9 (codes "def a = fun (x: Int) => fun (u: Unit) => boundary [Box[Int^{x}]] z => box x") (codes "a: (_0: Int) -> (_1: Unit) -> Box[Int^{_0}]" ∷ []) refl;
}

pub lets : example.CapturedLets
unfolding text_computing
lets = record {
  body_of_a_val = accepted 9 (codes "def a = fun (x: Int) => fun (u: Unit) => val y = 1; x") (codes "a: (_0: Int) -> ((_1: Unit) -> Int^{_0})^{_0}" ∷ []) refl;
  right_side = accepted 9 (codes "def a = fun (x: (i: Int) -> Int) => fun (n: Int) => val y = x(n); y") (codes "a: (_0: (_0: Int) -> Int) -> ((_1: Int) -> Int)^{_0}" ∷ []) refl;
  unused_function = accepted 9 (codes "def a = fun (x: Int) => fun (u: Unit) => val f = fun (v: Unit) => x; 1") (codes "a: (_0: Int) -> (_1: Unit) -> Int" ∷ []) refl;
  used_function = accepted 9 (codes "def a = fun (x: Int) => fun (u: Unit) => val f = fun (v: Unit) => x; f") (codes "a: (_0: Int) -> ((_1: Unit) -> ((_2: Unit) -> Int^{_0})^{_0})^{_0}" ∷ []) refl;
  called_function = accepted 9 (codes "def a = fun (x: Int) => fun (u: Unit) => val f = fun (v: Unit) => x; f(u)") (codes "a: (_0: Int) -> ((_1: Unit) -> Int^{_0})^{_0}" ∷ []) refl;
  unused_type_function = accepted 9 (codes "def a = fun (x: Int) => fun (u: Unit) => val f = fun [X <: Any] => x; 1") (codes "a: (_0: Int) -> (_1: Unit) -> Int" ∷ []) refl;
  used_type_function = accepted 9 (codes "def a = fun (x: Int) => fun (u: Unit) => val f = fun [X <: Any] => x; f") (codes "a: (_0: Int) -> ((_1: Unit) -> ([_T2 <: Any] -> Int^{_0})^{_0})^{_0}" ∷ []) refl;
  unused_box = accepted 9 (codes "def a = fun (x: Int) => fun (u: Unit) => val b = box x; 1") (codes "a: (_0: Int) -> (_1: Unit) -> Int" ∷ []) refl;
  unused_beside_a_body = accepted 9 (codes "def a = fun (x: Int) => fun (y: Int) => val f = fun (v: Unit) => x; y + 1") (codes "a: (_0: Int) -> (_1: Int) -> Int" ∷ []) refl;
  body_behind_an_unused_value = accepted 9 (codes "def a = fun (x: Int) => fun (y: Int) => val f = fun (v: Unit) => y; x") (codes "a: (_0: Int) -> ((_1: Int) -> Int^{_0})^{_0}" ∷ []) refl;
  unused_variable = accepted 9 (codes "def a = fun (x: Int) => fun (u: Unit) => val y = x; 1") (codes "a: (_0: Int) -> ((_1: Unit) -> Int)^{_0}" ∷ []) refl;
  unused_sum = accepted 9 (codes "def a = fun (x: Int) => fun (u: Unit) => val y = x + x; 1") (codes "a: (_0: Int) -> ((_1: Unit) -> Int)^{_0}" ∷ []) refl;
  unused_call = accepted 9 (codes "def a = fun (x: (i: Unit) -> Int) => fun (u: Unit) => val y = x(u); 1") (codes "a: (_0: (_0: Unit) -> Int) -> ((_1: Unit) -> Int)^{_0}" ∷ []) refl;
  unused_type_application = accepted 9 (codes "def a = fun (x: [X <: Any] -> Int) => fun (u: Unit) => val y = x[Int]; 1") (codes "a: (_0: [_T0 <: Any] -> Int) -> ((_1: Unit) -> Int)^{_0}" ∷ []) refl;
  unused_unboxing = accepted 9 (codes "def a = fun (x: Box[Int]) => fun (u: Unit) => val y = unbox x; 1") (codes "a: (_0: Box[Int]) -> ((_1: Unit) -> Int)^{_0}" ∷ []) refl;
  unused_choice = accepted 9 (codes "def a = fun (x: Bool) => fun (u: Unit) => val y = if [Int] x then 1 else 2; 1") (codes "a: (_0: Bool) -> ((_1: Unit) -> Int)^{_0}" ∷ []) refl;
  unused_repetition = accepted 9 (codes "def a = fun (x: (i: Int) -> Unit) => fun (n: Int) => val y = repeat(n, x); 1") (codes "a: (_0: (_0: Int) -> Unit) -> ((_1: Int) -> Int)^{_0}" ∷ []) refl;
  unused_operation = accepted 9 (codes "def a = fun (x: Int) => fun (u: Unit) => val y = out.print(x); 1") (codes "a: ((_0: Int) -> ((_1: Unit) -> Int)^{out, _0})^{out}" ∷ []) refl;
  unused_boundary = accepted 9 (codes "def a = fun (x: Int) => fun (u: Unit) => val y = boundary [Int] z => x + 1; 1") (codes "a: (_0: Int) -> ((_1: Unit) -> Int)^{_0}" ∷ []) refl;
  unused_exit = accepted 9 (codes "def a = fun (x: Exit[Int]) => fun (n: Int) => val y = exit [Int] (x, n); 1") (codes "a: (_0: Exit[Int]) -> ((_1: Int) -> Int)^{_0}" ∷ []) refl;
  unused_read = accepted 9 (codes "def a = fun (x: File^{cap}) => fun (u: Unit) => val y = x.read(); 1") (codes "a: (_0: File^{cap}) -> ((_1: Unit) -> Int)^{_0}" ∷ []) refl;
  unused_val = accepted 9 (codes "def a = fun (x: Int) => fun (u: Unit) => val y = (val z = x; 1); 1") (codes "a: (_0: Int) -> ((_1: Unit) -> Int)^{_0}" ∷ []) refl;
  unused_where_a_branch_uses = accepted 9 (codes "def a = fun (x: Int) => fun (y: Bool) => val f = fun (v: Int) => x; if [Int] y then f(1) else 2") (codes "a: (_0: Int) -> ((_1: Bool) -> Int)^{_0}" ∷ []) refl;
  unused_in_the_content_of_a_box = accepted 9 (codes "def a = fun (x: Int) => fun (u: Unit) => val f = fun (v: Unit) => x; box f") (codes "a: (_0: Int) -> (_1: Unit) -> Box[((_2: Unit) -> Int^{_0})^{_0}]" ∷ []) refl;
  named_operand = accepted 9 (codes "def a = fun (x: Int) => fun (u: Unit) => (fun (v: Int) => v + x)(1)") (codes "a: (_0: Int) -> ((_1: Unit) -> Int)^{_0}" ∷ []) refl;
}
