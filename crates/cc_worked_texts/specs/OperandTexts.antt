-- Texts with operators and operations, and what they take and give.
use Rattle.std.specs.Prelude.{codes, [], ◌∷◌}
use Rattle.cc_base.specs.declared.code.Code.TheVariants.{E13, E14, E15}
use Rattle.cc_worked_texts.specs.TextVerdicts.{place, Refuses, Accepts}

-- Operators take numbers, and give numbers or truths, without a set.
pub record OperatorTypes : Type 0 where
  pub plus : Accepts (codes "def a = fun (x: Int) => x + 2") (codes "a: (_0: Int) -> Int" ∷ [])
  pub minus : Accepts (codes "def a = fun (x: Int) => x - 2") (codes "a: (_0: Int) -> Int" ∷ [])
  pub times : Accepts (codes "def a = fun (x: Int) => x * 2") (codes "a: (_0: Int) -> Int" ∷ [])
  pub less : Accepts (codes "def a = fun (x: Int) => x < 2") (codes "a: (_0: Int) -> Bool" ∷ [])
  pub equals : Accepts (codes "def a = fun (x: Int) => x == 2") (codes "a: (_0: Int) -> Bool" ∷ [])
  -- each side is a number
  pub left_of_plus : Refuses (codes "def a = fun (x: Str) => x + 2") E14 (place 1 25)
  pub right_of_plus : Refuses (codes "def a = fun (x: Bool) => 2 + x") E14 (place 1 30)
  pub left_of_minus : Refuses (codes "def a = fun (x: Str) => x - 2") E14 (place 1 25)
  pub right_of_minus : Refuses (codes "def a = fun (x: Bool) => 2 - x") E14 (place 1 30)
  pub left_of_times : Refuses (codes "def a = fun (x: Str) => x * 2") E14 (place 1 25)
  pub right_of_times : Refuses (codes "def a = fun (x: Bool) => 2 * x") E14 (place 1 30)
  pub left_of_less : Refuses (codes "def a = fun (x: Str) => x < 2") E14 (place 1 25)
  pub right_of_less : Refuses (codes "def a = fun (x: Bool) => 2 < x") E14 (place 1 30)
  pub left_of_equals : Refuses (codes "def a = fun (x: Str) => x == 2") E14 (place 1 25)
  pub right_of_equals : Refuses (codes "def a = fun (x: Bool) => 2 == x") E14 (place 1 31)
  -- and none compares what is no number
  pub equal_truths : Refuses (codes "def a = fun (x: Bool) => x == x") E14 (place 1 26)
  pub equal_texts : Refuses (codes "def a = fun (x: Str) => x == x") E14 (place 1 25)
  pub equal_units : Refuses (codes "def a = fun (x: Unit) => x == x") E14 (place 1 26)
  pub equal_functions : Refuses (codes "def a = fun (x: (i: Int) -> Int) => x == x") E14 (place 1 37)
  pub less_texts : Refuses (codes "def a = fun (x: Str) => x < x") E14 (place 1 25)
  pub sum_of_texts : Refuses (codes "def a = fun (x: Str) => x + x") E14 (place 1 25)
  pub number_and_text : Refuses (codes "def a = fun (x: Int) => x == \"1\"") E14 (place 1 30)
  -- what an operator gives
  pub sum_as_a_condition : Refuses (codes "def a = fun (x: Int) => if [Int] x + 1 then 1 else 2") E14 (place 1 34)
  pub comparison_as_a_number : Refuses (codes "def a = fun (x: Int) => (x < 1) + 1") E14 (place 1 25)
  pub comparison_as_a_condition : Accepts
      (codes "def a = fun (x: Int) => if [Int] x == 1 then 1 else 2") (codes "a: (_0: Int) -> Int" ∷ [])
  pub sum_is_pure : Accepts (codes "def a = fun (x: Int^{out}) => x + x") (codes "a: (_0: Int^{out}) -> Int" ∷ [])

-- Which device each operation is for, what it is given and what it answers.
pub record OperationTypes : Type 0 where
  pub print : Accepts
      (codes "def a = fun (x: Console^{cap}) => x.print(1)") (codes "a: (_0: Console^{cap}) -> Unit" ∷ [])
  pub say : Accepts
      (codes "def a = fun (x: Console^{cap}) => x.say(\"\")") (codes "a: (_0: Console^{cap}) -> Unit" ∷ [])
  pub read : Accepts (codes "def a = fun (x: File^{cap}) => x.read()") (codes "a: (_0: File^{cap}) -> Int" ∷ [])
  pub write : Accepts (codes "def a = fun (x: File^{cap}) => x.write(1)") (codes "a: (_0: File^{cap}) -> Unit" ∷ [])
  pub tick : Accepts (codes "def a = fun (x: Counter^{cap}) => x.tick()") (codes "a: (_0: Counter^{cap}) -> Int" ∷ [])
  -- of no other device
  pub print_of_a_file : Refuses (codes "def a = fun (x: File^{cap}) => x.print(1)") E13 (place 1 32)
  pub print_of_a_counter : Refuses (codes "def a = fun (x: Counter^{cap}) => x.print(1)") E13 (place 1 35)
  pub say_of_a_file : Refuses (codes "def a = fun (x: File^{cap}) => x.say(\"\")") E13 (place 1 32)
  pub say_of_a_counter : Refuses (codes "def a = fun (x: Counter^{cap}) => x.say(\"\")") E13 (place 1 35)
  pub read_of_a_console : Refuses (codes "def a = fun (x: Console^{cap}) => x.read()") E13 (place 1 35)
  pub read_of_a_counter : Refuses (codes "def a = fun (x: Counter^{cap}) => x.read()") E13 (place 1 35)
  pub write_of_a_console : Refuses (codes "def a = fun (x: Console^{cap}) => x.write(1)") E13 (place 1 35)
  pub write_of_a_counter : Refuses (codes "def a = fun (x: Counter^{cap}) => x.write(1)") E13 (place 1 35)
  pub tick_of_a_console : Refuses (codes "def a = fun (x: Console^{cap}) => x.tick()") E13 (place 1 35)
  pub tick_of_a_file : Refuses (codes "def a = fun (x: File^{cap}) => x.tick()") E13 (place 1 32)
  -- and nothing else is given
  pub printed_truth : Refuses (codes "def a = fun (x: Console^{cap}) => x.print(true)") E14 (place 1 43)
  pub printed_text : Refuses (codes "def a = fun (x: Console^{cap}) => x.print(\"\")") E14 (place 1 43)
  pub printed_unit : Refuses (codes "def a = fun (x: Console^{cap}) => x.print(unit)") E14 (place 1 43)
  pub said_number : Refuses (codes "def a = fun (x: Console^{cap}) => x.say(1)") E14 (place 1 41)
  pub said_truth : Refuses (codes "def a = fun (x: Console^{cap}) => x.say(true)") E14 (place 1 41)
  pub said_unit : Refuses (codes "def a = fun (x: Console^{cap}) => x.say(unit)") E14 (place 1 41)
  pub written_truth : Refuses (codes "def a = fun (x: File^{cap}) => x.write(true)") E14 (place 1 40)
  pub written_text : Refuses (codes "def a = fun (x: File^{cap}) => x.write(\"\")") E14 (place 1 40)
  pub written_unit : Refuses (codes "def a = fun (x: File^{cap}) => x.write(unit)") E14 (place 1 40)
  pub answers_of_print : Accepts
      (codes "def a = fun (u: Unit) => val x = out.print(1); x") (codes "a: ((_0: Unit) -> Unit)^{out}" ∷ [])
  -- what they answer
  pub printed_answer : Refuses (codes "def a = fun (u: Unit) => out.print(out.print(1))") E14 (place 1 36)
  pub printed_count : Accepts
      (codes "def a = fun (u: Unit) => out.print(hits.tick())") (codes "a: ((_0: Unit) -> Unit)^{out, hits}" ∷ [])
  pub printed_number_of_a_file : Accepts
      (codes "def a = fun (f: File^{cap}) => out.print(f.read())") (codes "a: ((_0: File^{cap}) -> Unit)^{out}" ∷ [])
  pub written_answer : Refuses (codes "def a = fun (f: File^{cap}) => out.print(f.write(1))") E14 (place 1 42)
  pub said_answer : Refuses (codes "def a = fun (u: Unit) => out.print(out.say(\"\"))") E14 (place 1 36)
  pub any_receiver : Refuses (codes "def a = fun (x: Any) => x.print(1)") E13 (place 1 25)
  pub number_as_a_receiver : Refuses (codes "def a = fun (x: Int) => x.tick()") E13 (place 1 25)

-- The types of literals.
pub record LiteralTypes : Type 0 where
  pub unit : Accepts (codes "def a = unit") (codes "a: Unit" ∷ [])
  pub truth : Accepts (codes "def a = true") (codes "a: Bool" ∷ [])
  pub falsehood : Accepts (codes "def a = false") (codes "a: Bool" ∷ [])
  pub number : Accepts (codes "def a = 1") (codes "a: Int" ∷ [])
  pub text : Accepts (codes "def a = \"x\"") (codes "a: Str" ∷ [])
  pub unit_as_int : Refuses (codes "def a: Int = unit") E14 (place 1 14)
  pub unit_as_bool : Refuses (codes "def a: Bool = unit") E14 (place 1 15)
  pub unit_as_str : Refuses (codes "def a: Str = unit") E14 (place 1 14)
  pub truth_as_int : Refuses (codes "def a: Int = true") E14 (place 1 14)
  pub truth_as_str : Refuses (codes "def a: Str = true") E14 (place 1 14)
  pub truth_as_unit : Refuses (codes "def a: Unit = true") E14 (place 1 15)
  pub number_as_bool : Refuses (codes "def a: Bool = 1") E14 (place 1 15)
  pub number_as_str : Refuses (codes "def a: Str = 1") E14 (place 1 14)
  pub number_as_unit : Refuses (codes "def a: Unit = 1") E14 (place 1 15)
  pub text_as_int : Refuses (codes "def a: Int = \"x\"") E14 (place 1 14)
  pub text_as_bool : Refuses (codes "def a: Bool = \"x\"") E14 (place 1 15)
  pub text_as_unit : Refuses (codes "def a: Unit = \"x\"") E14 (place 1 15)
  -- literals are no heads
  pub called_number : Refuses (codes "def a = fun (x: Int) => 1(2)") E13 (place 1 25)
  pub called_text : Refuses (codes "def a = fun (x: Int) => \"x\"[Int]") E13 (place 1 25)
  pub opened_truth : Refuses (codes "def a = fun (x: Int) => unbox true") E13 (place 1 31)
  pub left_number : Refuses (codes "def a = fun (x: Int) => exit [Int] (1, 2)") E13 (place 1 37)
  -- the condition of a choice is a truth
  pub condition : Refuses (codes "def a = fun (x: Int) => if [Int] 1 then 1 else 2") E14 (place 1 34)
  pub condition_of_unit : Refuses (codes "def a = fun (x: Unit) => if [Int] x then 1 else 2") E14 (place 1 35)

-- A repetition takes a number and a function of numbers that gives nothing.
pub record RepetitionTypes : Type 0 where
  pub repetition : Accepts
      (codes "def a = fun (f: (i: Int) -> Unit) => repeat(3, f)") (codes "a: (_0: (_0: Int) -> Unit) -> Unit" ∷ [])
  pub truth_as_a_count : Refuses (codes "def a = fun (f: (i: Int) -> Unit) => repeat(true, f)") E14 (place 1 45)
  pub takes_any : Accepts
      (codes "def a = fun (f: (i: Any) -> Unit) => repeat(3, f)") (codes "a: (_0: (_0: Any) -> Unit) -> Unit" ∷ [])
  pub gives_any : Refuses (codes "def a = fun (f: (i: Int) -> Any) => repeat(3, f)") E14 (place 1 47)
  pub gives_number : Refuses (codes "def a = fun (f: (i: Int) -> Int) => repeat(3, f)") E14 (place 1 47)
  pub takes_unit : Refuses (codes "def a = fun (f: (i: Unit) -> Unit) => repeat(3, f)") E14 (place 1 49)
  pub type_function : Refuses (codes "def a = fun (f: [X <: Any] -> Unit) => repeat(3, f)") E14 (place 1 50)
  -- the set of the function does not count
  pub with_a_set : Accepts
      (codes "def a = fun (f: ((i: Int) -> Unit)^{cap}) => repeat(3, f)")
      (codes "a: (_0: ((_0: Int) -> Unit)^{cap}) -> Unit" ∷ [])
  -- what it gives is pure
  pub gives_captured : Refuses (codes "def a = fun (f: (i: Int) -> Unit^{out}) => repeat(3, f)") E15 (place 1 54)
  pub takes_pure : Accepts
      (codes "def a = fun (f: (i: Int^{out}) -> Unit) => repeat(3, f)")
      (codes "a: (_0: (_0: Int^{out}) -> Unit) -> Unit" ∷ [])
  pub gives_its_number : Accepts
      (codes "def a = fun (f: (i: Int^{cap}) -> Unit^{i}) => repeat(3, f)")
      (codes "a: (_0: (_0: Int^{cap}) -> Unit^{_0}) -> Unit" ∷ [])
  pub repetition_as_a_number : Refuses
      (codes "def a = fun (f: (i: Int) -> Unit) => repeat(3, f) + 1") E14 (place 1 38)
