-- What functions capture, by the forms of their bodies.
use Rattle.std.specs.Prelude.{codes, [], ◌∷◌}
use Rattle.cc_worked_texts.specs.TextVerdicts.{Accepts}

-- Each part of a body is captured, and what it captures stands in the type of the function.
pub record CapturedParts : Type 0 where
  -- each operand of an operator, one in the body and one outside
  pub left_side : Accepts
      (codes "def a = fun (x: Int) => fun (y: Int) => x + y") (codes "a: (_0: Int) -> ((_1: Int) -> Int)^{_0}" ∷ [])
  pub right_side : Accepts
      (codes "def a = fun (x: Int) => fun (y: Int) => y + x") (codes "a: (_0: Int) -> ((_1: Int) -> Int)^{_0}" ∷ [])
  pub left_side_of_less : Accepts
      (codes "def a = fun (x: Int) => fun (y: Int) => x < y") (codes "a: (_0: Int) -> ((_1: Int) -> Bool)^{_0}" ∷ [])
  pub right_side_of_equals : Accepts
      (codes "def a = fun (x: Int) => fun (y: Int) => y == x") (codes "a: (_0: Int) -> ((_1: Int) -> Bool)^{_0}" ∷ [])
  -- the condition and both branches of a choice
  pub condition : Accepts
      (codes "def a = fun (x: Bool) => fun (u: Unit) => if [Int] x then 1 else 2")
      (codes "a: (_0: Bool) -> ((_1: Unit) -> Int)^{_0}" ∷ [])
  pub first_branch : Accepts
      (codes "def a = fun (x: Int) => fun (y: Bool) => if [Int^{x}] y then x else 2")
      (codes "a: (_0: Int) -> ((_1: Bool) -> Int^{_0})^{_0}" ∷ [])
  pub second_branch : Accepts
      (codes "def a = fun (x: Int) => fun (y: Bool) => if [Int^{x}] y then 1 else x")
      (codes "a: (_0: Int) -> ((_1: Bool) -> Int^{_0})^{_0}" ∷ [])
  pub condition_of_an_omitted_set : Accepts
      (codes "def a = fun (x: Bool) => fun (u: Unit) => if [Int^?] x then 1 else 2")
      (codes "a: (_0: Bool) -> ((_1: Unit) -> Int)^{_0}" ∷ [])
  -- both operands of a repetition
  pub count : Accepts
      (codes "def a = fun (x: Int) => fun (f: (i: Int) -> Unit) => repeat(x, f)")
      (codes "a: (_0: Int) -> ((_1: (_1: Int) -> Unit) -> Unit)^{_0}" ∷ [])
  pub repeated_function : Accepts
      (codes "def a = fun (x: (i: Int) -> Unit) => fun (n: Int) => repeat(n, x)")
      (codes "a: (_0: (_0: Int) -> Unit) -> ((_1: Int) -> Unit)^{_0}" ∷ [])
  -- a function and its argument
  pub function : Accepts
      (codes "def a = fun (x: (i: Int) -> Int) => fun (n: Int) => x(n)")
      (codes "a: (_0: (_0: Int) -> Int) -> ((_1: Int) -> Int)^{_0}" ∷ [])
  pub argument : Accepts
      (codes "def a = fun (x: Int) => fun (f: (i: Int) -> Int) => f(x)")
      (codes "a: (_0: Int) -> ((_1: (_1: Int) -> Int) -> Int)^{_0}" ∷ [])
  pub type_function : Accepts
      (codes "def a = fun (x: [X <: Any] -> Int) => fun (u: Unit) => x[Int]")
      (codes "a: (_0: [_T0 <: Any] -> Int) -> ((_1: Unit) -> Int)^{_0}" ∷ [])
  -- the receiver of an operation and what it is given
  pub receiver : Accepts
      (codes "def a = fun (x: Console^{cap}) => fun (n: Int) => x.print(n)")
      (codes "a: (_0: Console^{cap}) -> ((_1: Int) -> Unit)^{_0}" ∷ [])
  pub given : Accepts
      (codes "def a = fun (x: Int) => fun (u: Unit) => out.print(x)")
      (codes "a: ((_0: Int) -> ((_1: Unit) -> Unit)^{out, _0})^{out}" ∷ [])
  pub receiver_of_say : Accepts
      (codes "def a = fun (x: Console^{cap}) => fun (s: Str) => x.say(s)")
      (codes "a: (_0: Console^{cap}) -> ((_1: Str) -> Unit)^{_0}" ∷ [])
  pub said : Accepts
      (codes "def a = fun (x: Str) => fun (u: Unit) => out.say(x)")
      (codes "a: ((_0: Str) -> ((_1: Unit) -> Unit)^{out, _0})^{out}" ∷ [])
  pub receiver_of_write : Accepts
      (codes "def a = fun (x: File^{cap}) => fun (n: Int) => x.write(n)")
      (codes "a: (_0: File^{cap}) -> ((_1: Int) -> Unit)^{_0}" ∷ [])
  pub written : Accepts
      (codes "def a = fun (x: Int) => fun (f: File^{cap}) => f.write(x)")
      (codes "a: (_0: Int) -> ((_1: File^{cap}) -> Unit)^{_0}" ∷ [])
  pub receiver_of_read : Accepts
      (codes "def a = fun (x: File^{cap}) => fun (u: Unit) => x.read()")
      (codes "a: (_0: File^{cap}) -> ((_1: Unit) -> Int)^{_0}" ∷ [])
  pub receiver_of_tick : Accepts
      (codes "def a = fun (x: Counter^{cap}) => fun (u: Unit) => x.tick()")
      (codes "a: (_0: Counter^{cap}) -> ((_1: Unit) -> Int)^{_0}" ∷ [])
  -- an opened box, and the set under which it is opened
  pub box_that_is_opened : Accepts
      (codes "def a = fun (x: Box[Int^{out}]) => fun (u: Unit) => unbox {out} x")
      (codes "a: ((_0: Box[Int^{out}]) -> ((_1: Unit) -> Int^{out})^{out, _0})^{out}" ∷ [])
  pub set_of_an_unboxing : Accepts
      (codes "def a = fun (x: Int) => fun (b: Box[Int]) => unbox {x} b")
      (codes "a: (_0: Int) -> ((_1: Box[Int]) -> Int^{_0})^{_0}" ∷ [])
  pub omitted_set_of_an_unboxing : Accepts
      (codes "def a = fun (x: Int) => fun (b: Box[Int^{x}]) => unbox b")
      (codes "a: (_0: Int) -> ((_1: Box[Int^{_0}]) -> Int^{_0})^{_0}" ∷ [])
  -- an exit and its value
  pub exit : Accepts
      (codes "def a = fun (x: Exit[Int]) => fun (n: Int) => exit [Int] (x, n)")
      (codes "a: (_0: Exit[Int]) -> ((_1: Int) -> Int)^{_0}" ∷ [])
  pub value_of_an_exit : Accepts
      (codes "def a = fun (x: Int) => fun (e: Exit[Int]) => exit [Int] (e, x)")
      (codes "a: (_0: Int) -> ((_1: Exit[Int]) -> Int)^{_0}" ∷ [])
  pub variable : Accepts
      (codes "def a = fun (x: Int) => fun (u: Unit) => x")
      (codes "a: (_0: Int) -> ((_1: Unit) -> Int^{_0})^{_0}" ∷ [])
  pub inside_a_function : Accepts
      (codes "def a = fun (x: Int) => fun (u: Unit) => fun (v: Unit) => x")
      (codes "a: (_0: Int) -> ((_1: Unit) -> ((_2: Unit) -> Int^{_0})^{_0})^{_0}" ∷ [])
  pub inside_a_type_function : Accepts
      (codes "def a = fun (x: Int) => fun [X <: Any] => x")
      (codes "a: (_0: Int) -> ([_T1 <: Any] -> Int^{_0})^{_0}" ∷ [])
  pub parameter_under_a_type : Accepts
      (codes "def a = fun (x: Int) => fun [X <: Any] => fun (y: X) => y")
      (codes "a: (_0: Int) -> [_T1 <: Any] -> (_2: _T1) -> _T1^{_2}" ∷ [])
  pub inside_a_boundary : Accepts
      (codes "def a = fun (x: Int) => fun (u: Unit) => boundary [Int] z => x + 1")
      (codes "a: (_0: Int) -> ((_1: Unit) -> Int)^{_0}" ∷ [])
  pub device_inside_a_boundary : Accepts
      (codes "def a = fun (x: Int) => fun (u: Unit) => boundary [Int] z => hits.tick()")
      (codes "a: ((_0: Int) -> ((_1: Unit) -> Int)^{hits})^{hits}" ∷ [])

-- What is not captured.
pub record NotCaptured : Type 0 where
  -- a box captures nothing
  pub content_of_a_box : Accepts
      (codes "def a = fun (x: Int) => fun (u: Unit) => box x")
      (codes "a: (_0: Int) -> (_1: Unit) -> Box[Int^{_0}]" ∷ [])
  pub box_of_a_device : Accepts
      (codes "def a = fun (u: Unit) => box out") (codes "a: (_0: Unit) -> Box[Console^{out}]" ∷ [])
  pub literal : Accepts
      (codes "def a = fun (x: Int) => fun (u: Unit) => 1") (codes "a: (_0: Int) -> (_1: Unit) -> Int" ∷ [])
  -- a binder of the body is not captured
  pub own_parameter : Accepts (codes "def a = fun (x: Int) => x + 1") (codes "a: (_0: Int) -> Int" ∷ [])
  pub own_parameter_of_a_function_inside : Accepts
      (codes "def a = fun (x: Int) => fun (y: Int) => fun (z: Int) => z + 1")
      (codes "a: (_0: Int) -> (_1: Int) -> (_2: Int) -> Int" ∷ [])
  pub exit_of_a_boundary : Accepts
      (codes "def a = fun (x: Int) => boundary [Int] z => exit [Int] (z, 1)") (codes "a: (_0: Int) -> Int" ∷ [])
  pub bound_by_val : Accepts
      (codes "def a = fun (x: Int) => fun (u: Unit) => val y = 1; y + 1")
      (codes "a: (_0: Int) -> (_1: Unit) -> Int" ∷ [])
  -- a set that is written for a type is not captured
  pub set_of_a_parameter : Accepts
      (codes "def a = fun (x: Int) => fun (y: Int^{x}) => 1") (codes "a: (_0: Int) -> (_1: Int^{_0}) -> Int" ∷ [])
  pub set_of_a_choice : Accepts
      (codes "def a = fun (x: Int) => fun (u: Unit) => if [Int^{x}] true then 1 else 2")
      (codes "a: (_0: Int) -> (_1: Unit) -> Int^{_0}" ∷ [])
  pub set_of_an_exit : Accepts
      (codes "def a = fun (x: Int) => fun (e: Exit[Int]) => exit [Int^{x}] (e, 1)")
      (codes "a: (_0: Int) -> (_1: Exit[Int]) -> Int^{_0}" ∷ [])
  pub set_of_a_val : Accepts
      (codes "def a = fun (x: Int) => fun (u: Unit) => val y: Int^{x} = 1; 2")
      (codes "a: (_0: Int) -> (_1: Unit) -> Int" ∷ [])
  pub set_in_a_type_argument : Accepts
      (codes "def a = fun (x: Int) => fun (f: [X <: Any] -> Int) => f[Box[Int^{x}]]")
      (codes "a: (_0: Int) -> (_1: [_T1 <: Any] -> Int) -> Int" ∷ [])
  pub set_in_a_bound : Accepts
      (codes "def a = fun (x: Int) => fun [X <: Box[Int^{x}]] => 1")
      (codes "a: (_0: Int) -> [_T1 <: Box[Int^{_0}]] -> Int" ∷ [])
  pub set_in_a_boundary : Accepts
      (codes "def a = fun (x: Int) => fun (u: Unit) => boundary [Box[Int^{x}]] z => box x")
      (codes "a: (_0: Int) -> (_1: Unit) -> Box[Int^{_0}]" ∷ [])

-- What a `val` captures: its right side, unless that is a value that is not used, and what is behind it.
pub record CapturedLets : Type 0 where
  -- the right side of a `val` and what is behind it
  pub body_of_a_val : Accepts
      (codes "def a = fun (x: Int) => fun (u: Unit) => val y = 1; x")
      (codes "a: (_0: Int) -> ((_1: Unit) -> Int^{_0})^{_0}" ∷ [])
  pub right_side : Accepts
      (codes "def a = fun (x: (i: Int) -> Int) => fun (n: Int) => val y = x(n); y")
      (codes "a: (_0: (_0: Int) -> Int) -> ((_1: Int) -> Int)^{_0}" ∷ [])
  -- an unused value captures nothing
  pub unused_function : Accepts
      (codes "def a = fun (x: Int) => fun (u: Unit) => val f = fun (v: Unit) => x; 1")
      (codes "a: (_0: Int) -> (_1: Unit) -> Int" ∷ [])
  pub used_function : Accepts
      (codes "def a = fun (x: Int) => fun (u: Unit) => val f = fun (v: Unit) => x; f")
      (codes "a: (_0: Int) -> ((_1: Unit) -> ((_2: Unit) -> Int^{_0})^{_0})^{_0}" ∷ [])
  pub called_function : Accepts
      (codes "def a = fun (x: Int) => fun (u: Unit) => val f = fun (v: Unit) => x; f(u)")
      (codes "a: (_0: Int) -> ((_1: Unit) -> Int^{_0})^{_0}" ∷ [])
  pub unused_type_function : Accepts
      (codes "def a = fun (x: Int) => fun (u: Unit) => val f = fun [X <: Any] => x; 1")
      (codes "a: (_0: Int) -> (_1: Unit) -> Int" ∷ [])
  pub used_type_function : Accepts
      (codes "def a = fun (x: Int) => fun (u: Unit) => val f = fun [X <: Any] => x; f")
      (codes "a: (_0: Int) -> ((_1: Unit) -> ([_T2 <: Any] -> Int^{_0})^{_0})^{_0}" ∷ [])
  pub unused_box : Accepts
      (codes "def a = fun (x: Int) => fun (u: Unit) => val b = box x; 1")
      (codes "a: (_0: Int) -> (_1: Unit) -> Int" ∷ [])
  pub unused_beside_a_body : Accepts
      (codes "def a = fun (x: Int) => fun (y: Int) => val f = fun (v: Unit) => x; y + 1")
      (codes "a: (_0: Int) -> (_1: Int) -> Int" ∷ [])
  pub body_behind_an_unused_value : Accepts
      (codes "def a = fun (x: Int) => fun (y: Int) => val f = fun (v: Unit) => y; x")
      (codes "a: (_0: Int) -> ((_1: Int) -> Int^{_0})^{_0}" ∷ [])
  -- and all else does, used or not
  pub unused_variable : Accepts
      (codes "def a = fun (x: Int) => fun (u: Unit) => val y = x; 1")
      (codes "a: (_0: Int) -> ((_1: Unit) -> Int)^{_0}" ∷ [])
  pub unused_sum : Accepts
      (codes "def a = fun (x: Int) => fun (u: Unit) => val y = x + x; 1")
      (codes "a: (_0: Int) -> ((_1: Unit) -> Int)^{_0}" ∷ [])
  pub unused_call : Accepts
      (codes "def a = fun (x: (i: Unit) -> Int) => fun (u: Unit) => val y = x(u); 1")
      (codes "a: (_0: (_0: Unit) -> Int) -> ((_1: Unit) -> Int)^{_0}" ∷ [])
  pub unused_type_application : Accepts
      (codes "def a = fun (x: [X <: Any] -> Int) => fun (u: Unit) => val y = x[Int]; 1")
      (codes "a: (_0: [_T0 <: Any] -> Int) -> ((_1: Unit) -> Int)^{_0}" ∷ [])
  pub unused_unboxing : Accepts
      (codes "def a = fun (x: Box[Int]) => fun (u: Unit) => val y = unbox x; 1")
      (codes "a: (_0: Box[Int]) -> ((_1: Unit) -> Int)^{_0}" ∷ [])
  pub unused_choice : Accepts
      (codes "def a = fun (x: Bool) => fun (u: Unit) => val y = if [Int] x then 1 else 2; 1")
      (codes "a: (_0: Bool) -> ((_1: Unit) -> Int)^{_0}" ∷ [])
  pub unused_repetition : Accepts
      (codes "def a = fun (x: (i: Int) -> Unit) => fun (n: Int) => val y = repeat(n, x); 1")
      (codes "a: (_0: (_0: Int) -> Unit) -> ((_1: Int) -> Int)^{_0}" ∷ [])
  pub unused_operation : Accepts
      (codes "def a = fun (x: Int) => fun (u: Unit) => val y = out.print(x); 1")
      (codes "a: ((_0: Int) -> ((_1: Unit) -> Int)^{out, _0})^{out}" ∷ [])
  pub unused_boundary : Accepts
      (codes "def a = fun (x: Int) => fun (u: Unit) => val y = boundary [Int] z => x + 1; 1")
      (codes "a: (_0: Int) -> ((_1: Unit) -> Int)^{_0}" ∷ [])
  pub unused_exit : Accepts
      (codes "def a = fun (x: Exit[Int]) => fun (n: Int) => val y = exit [Int] (x, n); 1")
      (codes "a: (_0: Exit[Int]) -> ((_1: Int) -> Int)^{_0}" ∷ [])
  pub unused_read : Accepts
      (codes "def a = fun (x: File^{cap}) => fun (u: Unit) => val y = x.read(); 1")
      (codes "a: (_0: File^{cap}) -> ((_1: Unit) -> Int)^{_0}" ∷ [])
  pub unused_val : Accepts
      (codes "def a = fun (x: Int) => fun (u: Unit) => val y = (val z = x; 1); 1")
      (codes "a: (_0: Int) -> ((_1: Unit) -> Int)^{_0}" ∷ [])
  pub unused_where_a_branch_uses : Accepts
      (codes "def a = fun (x: Int) => fun (y: Bool) => val f = fun (v: Int) => x; if [Int] y then f(1) else 2")
      (codes "a: (_0: Int) -> ((_1: Bool) -> Int)^{_0}" ∷ [])
  -- a box does not use what it holds
  pub unused_in_the_content_of_a_box : Accepts
      (codes "def a = fun (x: Int) => fun (u: Unit) => val f = fun (v: Unit) => x; box f")
      (codes "a: (_0: Int) -> (_1: Unit) -> Box[((_2: Unit) -> Int^{_0})^{_0}]" ∷ [])
  -- operands that are named are such, too
  pub named_operand : Accepts
      (codes "def a = fun (x: Int) => fun (u: Unit) => (fun (v: Int) => v + x)(1)")
      (codes "a: (_0: Int) -> ((_1: Unit) -> Int)^{_0}" ∷ [])
