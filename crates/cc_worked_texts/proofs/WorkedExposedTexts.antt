-- Texts in which a type variable stands for its bound.
use Rattle.std.proofs.Common.{refl, codes, [], ◌∷◌, ◌++◌}
use Rattle.cc_base.specs.declared.code.Code.TheVariants.{E13, E14}
use Rattle.cc_worked_texts.specs.TextVerdicts.{place}
use Rattle.cc_worked_texts.specs.ExposedTexts as example
use Rattle.cc_worked_texts.proofs.ComputedModules.{text_computing, refused, accepted}

pub heads : example.ExposedHeads
unfolding text_computing
heads = record {
  function = accepted 9 (codes "def a = fun [X <: (i: Int) -> Int] => fun (x: X) => x(1)") (codes "a: [_T0 <: (_0: Int) -> Int] -> (_1: _T0) -> Int" ∷ []) refl;
  function_of_a_bound = accepted 9 (codes "def a = fun [X <: (i: Int) -> Int] => fun [Y <: X] => fun (x: Y) => x(1)") (codes "a: [_T0 <: (_0: Int) -> Int] -> [_T1 <: _T0] -> (_2: _T1) -> Int" ∷ []) refl;
  type_function = accepted 9 (codes "def a = fun [X <: [Z <: Any] -> Int] => fun (x: X) => x[Int]") (codes "a: [_T0 <: [_T0 <: Any] -> Int] -> (_1: _T0) -> Int" ∷ []) refl;
  type_function_of_a_bound = accepted 9 (codes "def a = fun [X <: [Z <: Any] -> Int] => fun [Y <: X] => fun (x: Y) => x[Int]") (codes "a: [_T0 <: [_T0 <: Any] -> Int] -> [_T1 <: _T0] -> (_2: _T1) -> Int" ∷ []) refl;
  box = accepted 9 (codes "def a = fun [X <: Box[Int]] => fun (x: X) => unbox x") (codes "a: [_T0 <: Box[Int]] -> (_1: _T0) -> Int" ∷ []) refl;
  box_of_a_bound = accepted 9 (codes "def a = fun [X <: Box[Int]] => fun [Y <: X] => fun (x: Y) => unbox x") (codes "a: [_T0 <: Box[Int]] -> [_T1 <: _T0] -> (_2: _T1) -> Int" ∷ []) refl;
  box_with_a_set = accepted 9 (codes "def a = fun [X <: Box[Int^{out}]] => fun (x: X) => unbox {out} x") (codes "a: ([_T0 <: Box[Int^{out}]] -> ((_1: _T0) -> Int^{out})^{out})^{out}" ∷ []) refl;
  box_with_a_set_of_a_bound = accepted 9 (codes "def a = fun [X <: Box[Int^{out}]] => fun [Y <: X] => fun (x: Y) => unbox {out} x") (codes "a: ([_T0 <: Box[Int^{out}]] -> ([_T1 <: _T0] -> ((_2: _T1) -> Int^{out})^{out})^{out})^{out}" ∷ []) refl;
  exit = accepted 9 (codes "def a = fun [X <: Exit[Int]] => fun (x: X) => exit [Int] (x, 1)") (codes "a: [_T0 <: Exit[Int]] -> (_1: _T0) -> Int" ∷ []) refl;
  exit_of_a_bound = accepted 9 (codes "def a = fun [X <: Exit[Int]] => fun [Y <: X] => fun (x: Y) => exit [Int] (x, 1)") (codes "a: [_T0 <: Exit[Int]] -> [_T1 <: _T0] -> (_2: _T1) -> Int" ∷ []) refl;
  printing_console = accepted 9 (codes "def a = fun [X <: Console] => fun (x: X) => x.print(1)") (codes "a: [_T0 <: Console] -> (_1: _T0) -> Unit" ∷ []) refl;
  printing_console_of_a_bound = accepted 9 (codes "def a = fun [X <: Console] => fun [Y <: X] => fun (x: Y) => x.print(1)") (codes "a: [_T0 <: Console] -> [_T1 <: _T0] -> (_2: _T1) -> Unit" ∷ []) refl;
  saying_console = accepted 9 (codes "def a = fun [X <: Console] => fun (x: X) => x.say(\"\")") (codes "a: [_T0 <: Console] -> (_1: _T0) -> Unit" ∷ []) refl;
  saying_console_of_a_bound = accepted 9 (codes "def a = fun [X <: Console] => fun [Y <: X] => fun (x: Y) => x.say(\"\")") (codes "a: [_T0 <: Console] -> [_T1 <: _T0] -> (_2: _T1) -> Unit" ∷ []) refl;
  read_file = accepted 9 (codes "def a = fun [X <: File] => fun (x: X) => x.read()") (codes "a: [_T0 <: File] -> (_1: _T0) -> Int" ∷ []) refl;
  read_file_of_a_bound = accepted 9 (codes "def a = fun [X <: File] => fun [Y <: X] => fun (x: Y) => x.read()") (codes "a: [_T0 <: File] -> [_T1 <: _T0] -> (_2: _T1) -> Int" ∷ []) refl;
  written_file = accepted 9 (codes "def a = fun [X <: File] => fun (x: X) => x.write(1)") (codes "a: [_T0 <: File] -> (_1: _T0) -> Unit" ∷ []) refl;
  written_file_of_a_bound = accepted 9 (codes "def a = fun [X <: File] => fun [Y <: X] => fun (x: Y) => x.write(1)") (codes "a: [_T0 <: File] -> [_T1 <: _T0] -> (_2: _T1) -> Unit" ∷ []) refl;
  counter = accepted 9 (codes "def a = fun [X <: Counter] => fun (x: X) => x.tick()") (codes "a: [_T0 <: Counter] -> (_1: _T0) -> Int" ∷ []) refl;
  counter_of_a_bound = accepted 9 (codes "def a = fun [X <: Counter] => fun [Y <: X] => fun (x: Y) => x.tick()") (codes "a: [_T0 <: Counter] -> [_T1 <: _T0] -> (_2: _T1) -> Int" ∷ []) refl;
  bound_of_a_bound_of_a_bound = accepted 9 (codes "def a = fun [X <: (i: Int) -> Int] => fun [Y <: X] => fun [Z <: Y] => fun (x: Z) => x(1)") (codes "a: [_T0 <: (_0: Int) -> Int] -> [_T1 <: _T0] -> [_T2 <: _T1] -> (_3: _T2) -> Int" ∷ []) refl;
  result = accepted 9 (codes "def a = fun [X <: (i: Int) -> Int] => fun (f: (u: Unit) -> X) => f(unit)(1)") (codes "a: [_T0 <: (_0: Int) -> Int] -> (_1: (_1: Unit) -> _T0) -> Int" ∷ []) refl;
  content = accepted 9 (codes "def a = fun [X <: (i: Int) -> Int] => fun (b: Box[X]) => (unbox b)(1)") (codes "a: [_T0 <: (_0: Int) -> Int] -> (_1: Box[_T0]) -> Int" ∷ []) refl;
  others_between = accepted 9 (codes "def a = fun [X <: (i: Int) -> Int] => fun [Y <: Box[Int]] => fun [Z <: X] => fun (b: Y) => fun " ++ codes "(x: Z) => x(1)") (codes "a: [_T0 <: (_0: Int) -> Int] -> [_T1 <: Box[Int]] -> [_T2 <: _T0] -> (_3: _T1) -> (_4: _T2) -> Int" ∷ []) refl;
}

pub other_heads : example.OtherHeads
unfolding text_computing
other_heads = record {
  function = refused 9 (codes "def a = fun [X <: Any] => fun (x: X) => x(1)") E13 (place 1 41) refl;
  type_function = refused 9 (codes "def a = fun [X <: Any] => fun (x: X) => x[Int]") E13 (place 1 41) refl;
  box = refused 9 (codes "def a = fun [X <: Any] => fun (x: X) => unbox x") E13 (place 1 47) refl;
  exit = refused 9 (codes "def a = fun [X <: Any] => fun (x: X) => exit [Int] (x, 1)") E13 (place 1 53) refl;
  device = refused 9 (codes "def a = fun [X <: Any] => fun (x: X) => x.print(1)") E13 (place 1 41) refl;
  other_device = refused 9 (codes "def a = fun [X <: File] => fun (x: X) => x.print(1)") E13 (place 1 42) refl;
  other_function = refused 9 (codes "def a = fun [X <: [Y <: Any] -> Int] => fun (x: X) => x(1)") E13 (place 1 55) refl;
  function_for_a_type_function = refused 9 (codes "def a = fun [X <: (i: Int) -> Int] => fun (x: X) => x[Int]") E13 (place 1 53) refl;
  box_for_a_function = refused 9 (codes "def a = fun [X <: Box[(i: Int) -> Int]] => fun (x: X) => x(1)") E13 (place 1 58) refl;
  exit_for_a_box = refused 9 (codes "def a = fun [X <: Exit[Int]] => fun (x: X) => unbox x") E13 (place 1 53) refl;
  box_for_an_exit = refused 9 (codes "def a = fun [X <: Box[Int]] => fun (x: X) => exit [Int] (x, 1)") E13 (place 1 58) refl;
}

pub operands : example.ExposedOperands
unfolding text_computing
operands = record {
  left_of_plus = accepted 9 (codes "def a = fun [X <: Int] => fun (x: X) => x + 1") (codes "a: [_T0 <: Int] -> (_1: _T0) -> Int" ∷ []) refl;
  right_of_plus = accepted 9 (codes "def a = fun [X <: Int] => fun (x: X) => 1 + x") (codes "a: [_T0 <: Int] -> (_1: _T0) -> Int" ∷ []) refl;
  left_of_minus = accepted 9 (codes "def a = fun [X <: Int] => fun (x: X) => x - 1") (codes "a: [_T0 <: Int] -> (_1: _T0) -> Int" ∷ []) refl;
  right_of_minus = accepted 9 (codes "def a = fun [X <: Int] => fun (x: X) => 1 - x") (codes "a: [_T0 <: Int] -> (_1: _T0) -> Int" ∷ []) refl;
  left_of_times = accepted 9 (codes "def a = fun [X <: Int] => fun (x: X) => x * 1") (codes "a: [_T0 <: Int] -> (_1: _T0) -> Int" ∷ []) refl;
  right_of_times = accepted 9 (codes "def a = fun [X <: Int] => fun (x: X) => 1 * x") (codes "a: [_T0 <: Int] -> (_1: _T0) -> Int" ∷ []) refl;
  left_of_less = accepted 9 (codes "def a = fun [X <: Int] => fun (x: X) => x < 1") (codes "a: [_T0 <: Int] -> (_1: _T0) -> Bool" ∷ []) refl;
  right_of_less = accepted 9 (codes "def a = fun [X <: Int] => fun (x: X) => 1 < x") (codes "a: [_T0 <: Int] -> (_1: _T0) -> Bool" ∷ []) refl;
  left_of_equals = accepted 9 (codes "def a = fun [X <: Int] => fun (x: X) => x == 1") (codes "a: [_T0 <: Int] -> (_1: _T0) -> Bool" ∷ []) refl;
  right_of_equals_of_a_bound = accepted 9 (codes "def a = fun [X <: Int] => fun [Y <: X] => fun (x: Y) => 1 == x") (codes "a: [_T0 <: Int] -> [_T1 <: _T0] -> (_2: _T1) -> Bool" ∷ []) refl;
  condition_of_a_bound = accepted 9 (codes "def a = fun [X <: Bool] => fun [Y <: X] => fun (x: Y) => if [Int] x then 1 else 2") (codes "a: [_T0 <: Bool] -> [_T1 <: _T0] -> (_2: _T1) -> Int" ∷ []) refl;
  count = accepted 9 (codes "def a = fun [X <: Int] => fun (x: X) => repeat(x, fun (i: Int) => unit)") (codes "a: [_T0 <: Int] -> (_1: _T0) -> Unit" ∷ []) refl;
  repeated = accepted 9 (codes "def a = fun [X <: (i: Int) -> Unit] => fun (x: X) => repeat(1, x)") (codes "a: [_T0 <: (_0: Int) -> Unit] -> (_1: _T0) -> Unit" ∷ []) refl;
  printed = accepted 9 (codes "def a = fun [X <: Int] => fun (x: X) => out.print(x)") (codes "a: ([_T0 <: Int] -> ((_1: _T0) -> Unit)^{out})^{out}" ∷ []) refl;
  said = accepted 9 (codes "def a = fun [X <: Str] => fun (x: X) => out.say(x)") (codes "a: ([_T0 <: Str] -> ((_1: _T0) -> Unit)^{out})^{out}" ∷ []) refl;
  argument_of_a_bound = accepted 9 (codes "def a = fun [X <: Int] => fun [Y <: X] => fun (x: Y) => (fun (i: Int) => i)(x)") (codes "a: [_T0 <: Int] -> [_T1 <: _T0] -> (_2: _T1) -> Int^{_2}" ∷ []) refl;
  branch = accepted 9 (codes "def a = fun [X <: Int] => fun (x: X) => if [Int^{x}] true then x else 1") (codes "a: [_T0 <: Int] -> (_1: _T0) -> Int^{_1}" ∷ []) refl;
  right_side_of_a_val = accepted 9 (codes "def a = fun [X <: Int] => fun (x: X) => val y: Int^{x} = x; y") (codes "a: [_T0 <: Int] -> (_1: _T0) -> Int^{_1}" ∷ []) refl;
  type_argument = accepted 9 (codes "def a = fun [X <: Int] => fun (x: X) => (fun [Z <: Int] => 1)[X]") (codes "a: [_T0 <: Int] -> (_1: _T0) -> Int" ∷ []) refl;
  value_of_an_exit = accepted 9 (codes "def a = fun [X <: Int] => fun (x: X) => boundary [Int] z => exit [Int] (z, x)") (codes "a: [_T0 <: Int] -> (_1: _T0) -> Int" ∷ []) refl;
  body_of_a_boundary = accepted 9 (codes "def a = fun [X <: Int] => fun (x: X) => boundary [Int] z => x") (codes "a: [_T0 <: Int] -> (_1: _T0) -> Int" ∷ []) refl;
  left_of_any = refused 9 (codes "def a = fun [X <: Any] => fun (x: X) => x + 1") E14 (place 1 41) refl;
  right_of_any = refused 9 (codes "def a = fun [X <: Any] => fun (x: X) => 1 + x") E14 (place 1 45) refl;
  left_of_equal_variables = refused 9 (codes "def a = fun [X <: Any] => fun (x: X) => x == x") E14 (place 1 41) refl;
  condition_of_a_number = refused 9 (codes "def a = fun [X <: Int] => fun (x: X) => if [Int] x then 1 else 2") E14 (place 1 50) refl;
}
