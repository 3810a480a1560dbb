-- Texts with operators and operations, and what they take and give.
use Rattle.std.proofs.Common.{refl, codes, [], ◌∷◌}
use Rattle.cc_base.specs.declared.code.Code.TheVariants.{E13, E14, E15}
use Rattle.cc_worked_texts.specs.TextVerdicts.{place}
use Rattle.cc_worked_texts.specs.OperandTexts as example
use Rattle.cc_worked_texts.proofs.ComputedModules.{text_computing, refused, accepted}

pub operators : example.OperatorTypes
unfolding text_computing
operators = record {
  plus = accepted 9 (codes "def a = fun (x: Int) => x + 2") (codes "a: (_0: Int) -> Int" ∷ []) refl;
  minus = accepted 9 (codes "def a = fun (x: Int) => x - 2") (codes "a: (_0: Int) -> Int" ∷ []) refl;
  times = accepted 9 (codes "def a = fun (x: Int) => x * 2") (codes "a: (_0: Int) -> Int" ∷ []) refl;
  less = accepted 9 (codes "def a = fun (x: Int) => x < 2") (codes "a: (_0: Int) -> Bool" ∷ []) refl;
  equals = accepted 9 (codes "def a = fun (x: Int) => x == 2") (codes "a: (_0: Int) -> Bool" ∷ []) refl;
  left_of_plus = refused 9 (codes "def a = fun (x: Str) => x + 2") E14 (place 1 25) refl;
  right_of_plus = refused 9 (codes "def a = fun (x: Bool) => 2 + x") E14 (place 1 30) refl;
  left_of_minus = refused 9 (codes "def a = fun (x: Str) => x - 2") E14 (place 1 25) refl;
  right_of_minus = refused 9 (codes "def a = fun (x: Bool) => 2 - x") E14 (place 1 30) refl;
  left_of_times = refused 9 (codes "def a = fun (x: Str) => x * 2") E14 (place 1 25) refl;
  right_of_times = refused 9 (codes "def a = fun (x: Bool) => 2 * x") E14 (place 1 30) refl;
  left_of_less = refused 9 (codes "def a = fun (x: Str) => x < 2") E14 (place 1 25) refl;
  right_of_less = refused 9 (codes "def a = fun (x: Bool) => 2 < x") E14 (place 1 30) refl;
  left_of_equals = refused 9 (codes "def a = fun (x: Str) => x == 2") E14 (place 1 25) refl;
  right_of_equals = refused 9 (codes "def a = fun (x: Bool) => 2 == x") E14 (place 1 31) refl;
  equal_truths = refused 9 (codes "def a = fun (x: Bool) => x == x") E14 (place 1 26) refl;
  equal_texts = refused 9 (codes "def a = fun (x: Str) => x == x") E14 (place 1 25) refl;
  equal_units = refused 9 (codes "def a = fun (x: Unit) => x == x") E14 (place 1 26) refl;
  equal_functions = refused 9 (codes "def a = fun (x: (i: Int) -> Int) => x == x") E14 (place 1 37) refl;
  less_texts = refused 9 (codes "def a = fun (x: Str) => x < x") E14 (place 1 25) refl;
  sum_of_texts = refused 9 (codes "def a = fun (x: Str) => x + x") E14 (place 1 25) refl;
  number_and_text = refused 9 (codes "def a = fun (x: Int) => x == \"1\"") E14 (place 1 30) refl;
  sum_as_a_condition = refused 9 (codes "def a = fun (x: Int) => if [Int] x + 1 then 1 else 2") E14 (place 1 34) refl;
  comparison_as_a_number = refused 9 (codes "def a = fun (x: Int) => (x < 1) + 1") E14 (place 1 25) refl;
  comparison_as_a_condition = accepted 9 (codes "def a = fun (x: Int) => if [Int] x == 1 then 1 else 2") (codes "a: (_0: Int) -> Int" ∷ []) refl;
  sum_is_pure = accepted 9 (codes "def a = fun (x: Int^{out}) => x + x") (codes "a: (_0: Int^{out}) -> Int" ∷ []) refl;
}

pub operations : example.OperationTypes
unfolding text_computing
operations = record {
  print = accepted 9 (codes "def a = fun (x: Console^{cap}) => x.print(1)") (codes "a: (_0: Console^{cap}) -> Unit" ∷ []) refl;
  say = accepted 9 (codes "def a = fun (x: Console^{cap}) => x.say(\"\")") (codes "a: (_0: Console^{cap}) -> Unit" ∷ []) refl;
  read = accepted 9 (codes "def a = fun (x: File^{cap}) => x.read()") (codes "a: (_0: File^{cap}) -> Int" ∷ []) refl;
  write = accepted 9 (codes "def a = fun (x: File^{cap}) => x.write(1)") (codes "a: (_0: File^{cap}) -> Unit" ∷ []) refl;
  tick = accepted 9 (codes "def a = fun (x: Counter^{cap}) => x.tick()") (codes "a: (_0: Counter^{cap}) -> Int" ∷ []) refl;
  print_of_a_file = refused 9 (codes "def a = fun (x: File^{cap}) => x.print(1)") E13 (place 1 32) refl;
  print_of_a_counter = refused 9 (codes "def a = fun (x: Counter^{cap}) => x.print(1)") E13 (place 1 35) refl;
  say_of_a_file = refused 9 (codes "def a = fun (x: File^{cap}) => x.say(\"\")") E13 (place 1 32) refl;
  say_of_a_counter = refused 9 (codes "def a = fun (x: Counter^{cap}) => x.say(\"\")") E13 (place 1 35) refl;
  read_of_a_console = refused 9 (codes "def a = fun (x: Console^{cap}) => x.read()") E13 (place 1 35) refl;
  read_of_a_counter = refused 9 (codes "def a = fun (x: Counter^{cap}) => x.read()") E13 (place 1 35) refl;
  write_of_a_console = refused 9 (codes "def a = fun (x: Console^{cap}) => x.write(1)") E13 (place 1 35) refl;
  write_of_a_counter = refused 9 (codes "def a = fun (x: Counter^{cap}) => x.write(1)") E13 (place 1 35) refl;
  tick_of_a_console = refused 9 (codes "def a = fun (x: Console^{cap}) => x.tick()") E13 (place 1 35) refl;
  tick_of_a_file = refused 9 (codes "def a = fun (x: File^{cap}) => x.tick()") E13 (place 1 32) refl;
  printed_truth = refused 9 (codes "def a = fun (x: Console^{cap}) => x.print(true)") E14 (place 1 43) refl;
  printed_text = refused 9 (codes "def a = fun (x: Console^{cap}) => x.print(\"\")") E14 (place 1 43) refl;
  printed_unit = refused 9 (codes "def a = fun (x: Console^{cap}) => x.print(unit)") E14 (place 1 43) refl;
  said_number = refused 9 (codes "def a = fun (x: Console^{cap}) => x.say(1)") E14 (place 1 41) refl;
  said_truth = refused 9 (codes "def a = fun (x: Console^{cap}) => x.say(true)") E14 (place 1 41) refl;
  said_unit = refused 9 (codes "def a = fun (x: Console^{cap}) => x.say(unit)") E14 (place 1 41) refl;
  written_truth = refused 9 (codes "def a = fun (x: File^{cap}) => x.write(true)") E14 (place 1 40) refl;
  written_text = refused 9 (codes "def a = fun (x: File^{cap}) => x.write(\"\")") E14 (place 1 40) refl;
  written_unit = refused 9 (codes "def a = fun (x: File^{cap}) => x.write(unit)") E14 (place 1 40) refl;
  answers_of_print = accepted 9 (codes "def a = fun (u: Unit) => val x = out.print(1); x") (codes "a: ((_0: Unit) -> Unit)^{out}" ∷ []) refl;
  printed_answer = refused 9 (codes "def a = fun (u: Unit) => out.print(out.print(1))") E14 (place 1 36) refl;
  printed_count = accepted 9 (codes "def a = fun (u: Unit) => out.print(hits.tick())") (codes "a: ((_0: Unit) -> Unit)^{out, hits}" ∷ []) refl;
  printed_number_of_a_file = accepted 9 (codes "def a = fun (f: File^{cap}) => out.print(f.read())") (codes "a: ((_0: File^{cap}) -> Unit)^{out}" ∷ []) refl;
  written_answer = refused 9 (codes "def a = fun (f: File^{cap}) => out.print(f.write(1))") E14 (place 1 42) refl;
  said_answer = refused 9 (codes "def a = fun (u: Unit) => out.print(out.say(\"\"))") E14 (place 1 36) refl;
  any_receiver = refused 9 (codes "def a = fun (x: Any) => x.print(1)") E13 (place 1 25) refl;
  number_as_a_receiver = refused 9 (codes "def a = fun (x: Int) => x.tick()") E13 (place 1 25) refl;
}

pub literals : example.LiteralTypes
unfolding text_computing
literals = record {
  unit = accepted 9 (codes "def a = unit") (codes "a: Unit" ∷ []) refl;
  truth = accepted 9 (codes "def a = true") (codes "a: Bool" ∷ []) refl;
  falsehood = accepted 9 (codes "def a = false") (codes "a: Bool" ∷ []) refl;
  number = accepted 9 (codes "def a = 1") (codes "a: Int" ∷ []) refl;
  text = accepted 9 (codes "def a = \"x\"") (codes "a: Str" ∷ []) refl;
  unit_as_int = refused 9 (codes "def a: Int = unit") E14 (place 1 14) refl;
  unit_as_bool = refused 9 (codes "def a: Bool = unit") E14 (place 1 15) refl;
  unit_as_str = refused 9 (codes "def a: Str = unit") E14 (place 1 14) refl;
  truth_as_int = refused 9 (codes "def a: Int = true") E14 (place 1 14) refl;
  truth_as_str = refused 9 (codes "def a: Str = true") E14 (place 1 14) refl;
  truth_as_unit = refused 9 (codes "def a: Unit = true") E14 (place 1 15) refl;
  number_as_bool = refused 9 (codes "def a: Bool = 1") E14 (place 1 15) refl;
  number_as_str = refused 9 (codes "def a: Str = 1") E14 (place 1 14) refl;
  number_as_unit = refused 9 (codes "def a: Unit = 1") E14 (place 1 15) refl;
  text_as_int = refused 9 (codes "def a: Int = \"x\"") E14 (place 1 14) refl;
  text_as_bool = refused 9 (codes "def a: Bool = \"x\"") E14 (place 1 15) refl;
  text_as_unit = refused 9 (codes "def a: Unit = \"x\"") E14 (place 1 15) refl;
  called_number = refused 9 (codes "def a = fun (x: Int) => 1(2)") E13 (place 1 25) refl;
  called_text = refused 9 (codes "def a = fun (x: Int) => \"x\"[Int]") E13 (place 1 25) refl;
  opened_truth = refused 9 (codes "def a = fun (x: Int) => unbox true") E13 (place 1 31) refl;
  left_number = refused 9 (codes "def a = fun (x: Int) => exit [Int] (1, 2)") E13 (place 1 37) refl;
  condition = refused 9 (codes "def a = fun (x: Int) => if [Int] 1 then 1 else 2") E14 (place 1 34) refl;
  condition_of_unit = refused 9 (codes "def a = fun (x: Unit) => if [Int] x then 1 else 2") E14 (place 1 35) refl;
}

pub repetitions : example.RepetitionTypes
unfolding text_computing
repetitions = record {
  repetition = accepted 9 (codes "def a = fun (f: (i: Int) -> Unit) => repeat(3, f)") (codes "a: (_0: (_0: Int) -> Unit) -> Unit" ∷ []) refl;
  truth_as_a_count = refused 9 (codes "def a = fun (f: (i: Int) -> Unit) => repeat(true, f)") E14 (place 1 45) refl;
  takes_any = accepted 9 (codes "def a = fun (f: (i: Any) -> Unit) => repeat(3, f)") (codes "a: (_0: (_0: Any) -> Unit) -> Unit" ∷ []) refl;
  gives_any = refused 9 (codes "def a = fun (f: (i: Int) -> Any) => repeat(3, f)") E14 (place 1 47) refl;
  gives_number = refused 9 (codes "def a = fun (f: (i: Int) -> Int) => repeat(3, f)") E14 (place 1 47) refl;
  takes_unit = refused 9 (codes "def a = fun (f: (i: Unit) -> Unit) => repeat(3, f)") E14 (place 1 49) refl;
  type_function = refused 9 (codes "def a = fun (f: [X <: Any] -> Unit) => repeat(3, f)") E14 (place 1 50) refl;
  with_a_set = accepted 9 (codes "def a = fun (f: ((i: Int) -> Unit)^{cap}) => repeat(3, f)") (codes "a: (_0: ((_0: Int) -> Unit)^{cap}) -> Unit" ∷ []) refl;
  gives_captured = refused 9 (codes "def a = fun (f: (i: Int) -> Unit^{out}) => repeat(3, f)") E15 (place 1 54) refl;
  takes_pure = accepted 9 (codes "def a = fun (f: (i: Int^{out}) -> Unit) => repeat(3, f)") (codes "a: (_0: (_0: Int^{out}) -> Unit) -> Unit" ∷ []) refl;
  gives_its_number = accepted 9 (codes "def a = fun (f: (i: Int^{cap}) -> Unit^{i}) => repeat(3, f)") (codes "a: (_0: (_0: Int^{cap}) -> Unit^{_0}) -> Unit" ∷ []) refl;
  repetition_as_a_number = refused 9 (codes "def a = fun (f: (i: Int) -> Unit) => repeat(3, f) + 1") E14 (place 1 38) refl;
}
