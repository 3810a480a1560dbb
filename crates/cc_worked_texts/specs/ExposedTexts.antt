-- Texts in which a type variable stands for its bound.
use Rattle.std.specs.Prelude.{codes, [], ◌∷◌, ◌++◌}
use Rattle.cc_base.specs.declared.code.Code.TheVariants.{E13, E14}
use Rattle.cc_worked_texts.specs.TextVerdicts.{place, Refuses, Accepts}

-- A head of each form may be of a type variable, whose bound counts, and that of its bound.
pub record ExposedHeads : Type 0 where
  pub function : Accepts
      (codes "def a = fun [X <: (i: Int) -> Int] => fun (x: X) => x(1)")
      (codes "a: [_T0 <: (_0: Int) -> Int] -> (_1: _T0) -> Int" ∷ [])
  pub function_of_a_bound : Accepts
      (codes "def a = fun [X <: (i: Int) -> Int] => fun [Y <: X] => fun (x: Y) => x(1)")
      (codes "a: [_T0 <: (_0: Int) -> Int] -> [_T1 <: _T0] -> (_2: _T1) -> Int" ∷ [])
  pub type_function : Accepts
      (codes "def a = fun [X <: [Z <: Any] -> Int] => fun (x: X) => x[Int]")
      (codes "a: [_T0 <: [_T0 <: Any] -> Int] -> (_1: _T0) -> Int" ∷ [])
  pub type_function_of_a_bound : Accepts
      (codes "def a = fun [X <: [Z <: Any] -> Int] => fun [Y <: X] => fun (x: Y) => x[Int]")
      (codes "a: [_T0 <: [_T0 <: Any] -> Int] -> [_T1 <: _T0] -> (_2: _T1) -> Int" ∷ [])
  pub box : Accepts
      (codes "def a = fun [X <: Box[Int]] => fun (x: X) => unbox x")
      (codes "a: [_T0 <: Box[Int]] -> (_1: _T0) -> Int" ∷ [])
  pub box_of_a_bound : Accepts
      (codes "def a = fun [X <: Box[Int]] => fun [Y <: X] => fun (x: Y) => unbox x")
      (codes "a: [_T0 <: Box[Int]] -> [_T1 <: _T0] -> (_2: _T1) -> Int" ∷ [])
  pub box_with_a_set : Accepts
      (codes "def a = fun [X <: Box[Int^{out}]] => fun (x: X) => unbox {out} x")
      (codes "a: ([_T0 <: Box[Int^{out}]] -> ((_1: _T0) -> Int^{out})^{out})^{out}" ∷ [])
  pub box_with_a_set_of_a_bound : Accepts
      (codes "def a = fun [X <: Box[Int^{out}]] => fun [Y <: X] => fun (x: Y) => unbox {out} x")
      (codes "a: ([_T0 <: Box[Int^{out}]] -> ([_T1 <: _T0] -> ((_2: _T1) -> Int^{out})^{out})^{out})^{out}" ∷ [])
  pub exit : Accepts
      (codes "def a = fun [X <: Exit[Int]] => fun (x: X) => exit [Int] (x, 1)")
      (codes "a: [_T0 <: Exit[Int]] -> (_1: _T0) -> Int" ∷ [])
  pub exit_of_a_bound : Accepts
      (codes "def a = fun [X <: Exit[Int]] => fun [Y <: X] => fun (x: Y) => exit [Int] (x, 1)")
      (codes "a: [_T0 <: Exit[Int]] -> [_T1 <: _T0] -> (_2: _T1) -> Int" ∷ [])
  pub printing_console : Accepts
      (codes "def a = fun [X <: Console] => fun (x: X) => x.print(1)")
      (codes "a: [_T0 <: Console] -> (_1: _T0) -> Unit" ∷ [])
  pub printing_console_of_a_bound : Accepts
      (codes "def a = fun [X <: Console] => fun [Y <: X] => fun (x: Y) => x.print(1)")
      (codes "a: [_T0 <: Console] -> [_T1 <: _T0] -> (_2: _T1) -> Unit" ∷ [])
  pub saying_console : Accepts
      (codes "def a = fun [X <: Console] => fun (x: X) => x.say(\"\")")
      (codes "a: [_T0 <: Console] -> (_1: _T0) -> Unit" ∷ [])
  pub saying_console_of_a_bound : Accepts
      (codes "def a = fun [X <: Console] => fun [Y <: X] => fun (x: Y) => x.say(\"\")")
      (codes "a: [_T0 <: Console] -> [_T1 <: _T0] -> (_2: _T1) -> Unit" ∷ [])
  pub read_file : Accepts
      (codes "def a = fun [X <: File] => fun (x: X) => x.read()") (codes "a: [_T0 <: File] -> (_1: _T0) -> Int" ∷ [])
  pub read_file_of_a_bound : Accepts
      (codes "def a = fun [X <: File] => fun [Y <: X] => fun (x: Y) => x.read()")
      (codes "a: [_T0 <: File] -> [_T1 <: _T0] -> (_2: _T1) -> Int" ∷ [])
  pub written_file : Accepts
      (codes "def a = fun [X <: File] => fun (x: X) => x.write(1)")
      (codes "a: [_T0 <: File] -> (_1: _T0) -> Unit" ∷ [])
  pub written_file_of_a_bound : Accepts
      (codes "def a = fun [X <: File] => fun [Y <: X] => fun (x: Y) => x.write(1)")
      (codes "a: [_T0 <: File] -> [_T1 <: _T0] -> (_2: _T1) -> Unit" ∷ [])
  pub counter : Accepts
      (codes "def a = fun [X <: Counter] => fun (x: X) => x.tick()")
      (codes "a: [_T0 <: Counter] -> (_1: _T0) -> Int" ∷ [])
  pub counter_of_a_bound : Accepts
      (codes "def a = fun [X <: Counter] => fun [Y <: X] => fun (x: Y) => x.tick()")
      (codes "a: [_T0 <: Counter] -> [_T1 <: _T0] -> (_2: _T1) -> Int" ∷ [])
  pub bound_of_a_bound_of_a_bound : Accepts
      (codes "def a = fun [X <: (i: Int) -> Int] => fun [Y <: X] => fun [Z <: Y] => fun (x: Z) => x(1)")
      (codes "a: [_T0 <: (_0: Int) -> Int] -> [_T1 <: _T0] -> [_T2 <: _T1] -> (_3: _T2) -> Int" ∷ [])
  -- what is found by a call
  pub result : Accepts
      (codes "def a = fun [X <: (i: Int) -> Int] => fun (f: (u: Unit) -> X) => f(unit)(1)")
      (codes "a: [_T0 <: (_0: Int) -> Int] -> (_1: (_1: Unit) -> _T0) -> Int" ∷ [])
  pub content : Accepts
      (codes "def a = fun [X <: (i: Int) -> Int] => fun (b: Box[X]) => (unbox b)(1)")
      (codes "a: [_T0 <: (_0: Int) -> Int] -> (_1: Box[_T0]) -> Int" ∷ [])
  -- the bounds of other variables do not count
  pub others_between : Accepts
      (codes "def a = fun [X <: (i: Int) -> Int] => fun [Y <: Box[Int]] => fun [Z <: X] => fun (b: Y) => fun "
      ++ codes "(x: Z) => x(1)")
      (codes "a: [_T0 <: (_0: Int) -> Int] -> [_T1 <: Box[Int]] -> [_T2 <: _T0] -> (_3: _T1) -> (_4: _T2) -> Int" ∷ [])

-- A head whose bound has another form is refused.
pub record OtherHeads : Type 0 where
  pub function : Refuses (codes "def a = fun [X <: Any] => fun (x: X) => x(1)") E13 (place 1 41)
  pub type_function : Refuses (codes "def a = fun [X <: Any] => fun (x: X) => x[Int]") E13 (place 1 41)
  pub box : Refuses (codes "def a = fun [X <: Any] => fun (x: X) => unbox x") E13 (place 1 47)
  pub exit : Refuses (codes "def a = fun [X <: Any] => fun (x: X) => exit [Int] (x, 1)") E13 (place 1 53)
  pub device : Refuses (codes "def a = fun [X <: Any] => fun (x: X) => x.print(1)") E13 (place 1 41)
  pub other_device : Refuses (codes "def a = fun [X <: File] => fun (x: X) => x.print(1)") E13 (place 1 42)
  pub other_function : Refuses (codes "def a = fun [X <: [Y <: Any] -> Int] => fun (x: X) => x(1)") E13 (place 1 55)
  pub function_for_a_type_function : Refuses
      (codes "def a = fun [X <: (i: Int) -> Int] => fun (x: X) => x[Int]") E13 (place 1 53)
  pub box_for_a_function : Refuses
      (codes "def a = fun [X <: Box[(i: Int) -> Int]] => fun (x: X) => x(1)") E13 (place 1 58)
  pub exit_for_a_box : Refuses (codes "def a = fun [X <: Exit[Int]] => fun (x: X) => unbox x") E13 (place 1 53)
  pub box_for_an_exit : Refuses
      (codes "def a = fun [X <: Box[Int]] => fun (x: X) => exit [Int] (x, 1)") E13 (place 1 58)

-- An operand of each construct may be of a type variable whose bound is what is wanted.
pub record ExposedOperands : Type 0 where
  pub left_of_plus : Accepts
      (codes "def a = fun [X <: Int] => fun (x: X) => x + 1") (codes "a: [_T0 <: Int] -> (_1: _T0) -> Int" ∷ [])
  pub right_of_plus : Accepts
      (codes "def a = fun [X <: Int] => fun (x: X) => 1 + x") (codes "a: [_T0 <: Int] -> (_1: _T0) -> Int" ∷ [])
  pub left_of_minus : Accepts
      (codes "def a = fun [X <: Int] => fun (x: X) => x - 1") (codes "a: [_T0 <: Int] -> (_1: _T0) -> Int" ∷ [])
  pub right_of_minus : Accepts
      (codes "def a = fun [X <: Int] => fun (x: X) => 1 - x") (codes "a: [_T0 <: Int] -> (_1: _T0) -> Int" ∷ [])
  pub left_of_times : Accepts
      (codes "def a = fun [X <: Int] => fun (x: X) => x * 1") (codes "a: [_T0 <: Int] -> (_1: _T0) -> Int" ∷ [])
  pub right_of_times : Accepts
      (codes "def a = fun [X <: Int] => fun (x: X) => 1 * x") (codes "a: [_T0 <: Int] -> (_1: _T0) -> Int" ∷ [])
  pub left_of_less : Accepts
      (codes "def a = fun [X <: Int] => fun (x: X) => x < 1") (codes "a: [_T0 <: Int] -> (_1: _T0) -> Bool" ∷ [])
  pub right_of_less : Accepts
      (codes "def a = fun [X <: Int] => fun (x: X) => 1 < x") (codes "a: [_T0 <: Int] -> (_1: _T0) -> Bool" ∷ [])
  pub left_of_equals : Accepts
      (codes "def a = fun [X <: Int] => fun (x: X) => x == 1") (codes "a: [_T0 <: Int] -> (_1: _T0) -> Bool" ∷ [])
  pub right_of_equals_of_a_bound : Accepts
      (codes "def a = fun [X <: Int] => fun [Y <: X] => fun (x: Y) => 1 == x")
      (codes "a: [_T0 <: Int] -> [_T1 <: _T0] -> (_2: _T1) -> Bool" ∷ [])
  pub condition_of_a_bound : Accepts
      (codes "def a = fun [X <: Bool] => fun [Y <: X] => fun (x: Y) => if [Int] x then 1 else 2")
      (codes "a: [_T0 <: Bool] -> [_T1 <: _T0] -> (_2: _T1) -> Int" ∷ [])
  pub count : Accepts
      (codes "def a = fun [X <: Int] => fun (x: X) => repeat(x, fun (i: Int) => unit)")
      (codes "a: [_T0 <: Int] -> (_1: _T0) -> Unit" ∷ [])
  pub repeated : Accepts
      (codes "def a = fun [X <: (i: Int) -> Unit] => fun (x: X) => repeat(1, x)")
      (codes "a: [_T0 <: (_0: Int) -> Unit] -> (_1: _T0) -> Unit" ∷ [])
  pub printed : Accepts
      (codes "def a = fun [X <: Int] => fun (x: X) => out.print(x)")
      (codes "a: ([_T0 <: Int] -> ((_1: _T0) -> Unit)^{out})^{out}" ∷ [])
  pub said : Accepts
      (codes "def a = fun [X <: Str] => fun (x: X) => out.say(x)")
      (codes "a: ([_T0 <: Str] -> ((_1: _T0) -> Unit)^{out})^{out}" ∷ [])
  pub argument_of_a_bound : Accepts
      (codes "def a = fun [X <: Int] => fun [Y <: X] => fun (x: Y) => (fun (i: Int) => i)(x)")
      (codes "a: [_T0 <: Int] -> [_T1 <: _T0] -> (_2: _T1) -> Int^{_2}" ∷ [])
  pub branch : Accepts
      (codes "def a = fun [X <: Int] => fun (x: X) => if [Int^{x}] true then x else 1")
      (codes "a: [_T0 <: Int] -> (_1: _T0) -> Int^{_1}" ∷ [])
  pub right_side_of_a_val : Accepts
      (codes "def a = fun [X <: Int] => fun (x: X) => val y: Int^{x} = x; y")
      (codes "a: [_T0 <: Int] -> (_1: _T0) -> Int^{_1}" ∷ [])
  pub type_argument : Accepts
      (codes "def a = fun [X <: Int] => fun (x: X) => (fun [Z <: Int] => 1)[X]")
      (codes "a: [_T0 <: Int] -> (_1: _T0) -> Int" ∷ [])
  pub value_of_an_exit : Accepts
      (codes "def a = fun [X <: Int] => fun (x: X) => boundary [Int] z => exit [Int] (z, x)")
      (codes "a: [_T0 <: Int] -> (_1: _T0) -> Int" ∷ [])
  pub body_of_a_boundary : Accepts
      (codes "def a = fun [X <: Int] => fun (x: X) => boundary [Int] z => x")
      (codes "a: [_T0 <: Int] -> (_1: _T0) -> Int" ∷ [])
  -- a bound that is no number
  pub left_of_any : Refuses (codes "def a = fun [X <: Any] => fun (x: X) => x + 1") E14 (place 1 41)
  pub right_of_any : Refuses (codes "def a = fun [X <: Any] => fun (x: X) => 1 + x") E14 (place 1 45)
  pub left_of_equal_variables : Refuses (codes "def a = fun [X <: Any] => fun (x: X) => x == x") E14 (place 1 41)
  pub condition_of_a_number : Refuses
      (codes "def a = fun [X <: Int] => fun (x: X) => if [Int] x then 1 else 2") E14 (place 1 50)
