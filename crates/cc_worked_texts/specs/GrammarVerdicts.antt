-- Texts whose grammar decides.
use Rattle.std.specs.Prelude.{codes, [], ◌∷◌, ◌++◌}
use Rattle.cc_base.specs.declared.code.Code.TheVariants.{E03, E04, E12, E13, E14}
use Rattle.cc_worked_texts.specs.TextVerdicts.{place, repeated, Refuses, Accepts}
use Rattle.cc_worked_texts.specs.TextMeanings.{over_numbers, SayTheSame}

-- Operators, prefixes, and the words of shapes and of operations.
pub record OperatorTexts : Type 0 where
  -- comparisons do not group
  pub comparison_of_a_comparison : Refuses (codes "def a = fun (x: Int) => x == 1 == 2") E03 (place 1 32)
  -- sums are operands of comparisons
  pub sums_beside_less : Accepts (codes "def a = fun (x: Int) => 1 + x < x + 4") (codes "a: (_0: Int) -> Bool" ∷ [])
  pub sums_beside_equals : Accepts (codes "def a = fun (x: Int) => 1 + x == x + 4") (codes "a: (_0: Int) -> Bool" ∷ [])
  -- products group to the left
  pub products : Accepts (codes "def a = fun (x: Int) => 8 * x * 2") (codes "a: (_0: Int) -> Int" ∷ [])
  -- a box and an opened box are operands of `box` and `unbox`
  pub boxes : Accepts (codes "def a = fun (x: Int) => box box x") (codes "a: (_0: Int) -> Box[Box[Int^{_0}]]" ∷ [])
  pub opened_boxes : Accepts
      (codes "def a = fun (x: Box[Box[Int]]) => unbox unbox x") (codes "a: (_0: Box[Box[Int]]) -> Int" ∷ [])
  -- the words of operations are names elsewhere
  pub operation_names : Accepts
      (codes "def tick = fun (print: Int) => out.print(print)") (codes "tick: ((_0: Int) -> Unit)^{out}" ∷ [])
  pub shape_in_parentheses : Accepts
      (codes "def a = fun (x: Box[(Int)]) => unit") (codes "a: (_0: Box[Int]) -> Unit" ∷ [])
  pub set_of_an_unboxing : Accepts
      (codes "def a = fun (b: Box[Int^{out}]) => unbox {out, hits} b")
      (codes "a: ((_0: Box[Int^{out}]) -> Int^{out, hits})^{out, hits}" ∷ [])
  -- the words for the shapes of devices
  pub devices : Accepts
      (codes "def a = fun (x: File) => fun (y: Counter) => x")
      (codes "a: (_0: File) -> ((_1: Counter) -> File^{_0})^{_0}" ∷ [])

-- How operators and prefixes group, each beside the text with its parentheses; the numbers `a` to `d` are parameters.
pub record Groups : Type 0 where
  -- operators group to the left, and products bind tighter than sums
  pub products_bind_tighter : SayTheSame
      (over_numbers (codes "a + b * c - d")) (over_numbers (codes "(a + (b * c)) - d"))
  pub products_before_sums : SayTheSame (over_numbers (codes "a * b + c")) (over_numbers (codes "(a * b) + c"))
  pub sums_before_comparisons : SayTheSame
      (over_numbers (codes "a + b < c - d")) (over_numbers (codes "(a + b) < (c - d)"))
  pub sums_in_parentheses : SayTheSame
      (over_numbers (codes "a * (b + c)")) (over_numbers (codes "val s = b + c; a * s"))
  -- `box` and `unbox` go on as far as a call, and not as far as a product
  pub boxed_calls : SayTheSame (over_numbers (codes "box a(b)")) (over_numbers (codes "box (a(b))"))
  pub boxed_products : SayTheSame (over_numbers (codes "box a * b")) (over_numbers (codes "(box a) * b"))
  pub opened_calls : SayTheSame (over_numbers (codes "unbox a(b)")) (over_numbers (codes "unbox (a(b))"))
  pub opened_products : SayTheSame (over_numbers (codes "unbox {c} a * b")) (over_numbers (codes "(unbox {c} a) * b"))
  -- a body goes on as far as it can
  pub bodies : SayTheSame
      (over_numbers (codes "fun (x: Int) => x(x) + x")) (over_numbers (codes "fun (x: Int) => ((x(x)) + x)"))

-- Where the tokens of a text begin no module.
pub record GrammarRefusals : Type 0 where
  -- a comparison is no operand of a comparison
  pub comparison_as_operand : Refuses (codes "def f = a < b < c") E03 (place 1 15)
  -- a function is no operand without parentheses
  pub function_as_operand : Refuses (codes "def f = a + fun (x: T) => x") E03 (place 1 13)
  pub reading_takes_nothing : Refuses (codes "def f = x.read(y)") E03 (place 1 16)
  pub printing_takes_something : Refuses (codes "def f = x.print()") E03 (place 1 17)
  -- a type argument has no set
  pub set_of_a_type_argument : Refuses (codes "def f = id[Int^{a}]") E03 (place 1 15)
  -- where all tokens begin a module, the end is refused
  pub end_of_the_text : Refuses (codes "def f = a +") E03 (place 1 12)
  pub import_behind_a_definition : Refuses (codes "def f = d import m.d") E03 (place 1 11)
  pub arrow_is_missing : Refuses (codes "def k = fun (x: Unit) x") E03 (place 1 23)
  pub name_is_missing : Refuses (codes "def rec = fun (x: Unit) => x") E03 (place 1 9)
  -- a definition with `rec` has its type written
  pub type_is_missing : Refuses (codes "def rec f = a") E03 (place 1 11)
  pub element_is_missing : Refuses (codes "def f = unbox {a,} b") E03 (place 1 18)

-- A set behind a type belongs to the innermost type that can take it.
pub record InnermostSets : Type 0 where
  pub of_a_function : Accepts
      (codes "def a = fun (f: (u: Unit) -> Console^{out}) => unit")
      (codes "a: (_0: (_0: Unit) -> Console^{out}) -> Unit" ∷ [])
  pub of_a_type_function : Accepts
      (codes "def a = fun (f: [X <: Any] -> Console^{out}) => unit")
      (codes "a: (_0: [_T0 <: Any] -> Console^{out}) -> Unit" ∷ [])
  pub of_a_result_of_a_result : Accepts
      (codes "def a = fun (f: (u: Unit) -> [X <: Any] -> Console^{out}) => unit")
      (codes "a: (_0: (_0: Unit) -> [_T1 <: Any] -> Console^{out}) -> Unit" ∷ [])
  -- the second set is that of the next type outside
  pub second_set : Accepts
      (codes "def a = fun (f: [X <: Any] -> Console^{out}^{hits}) => unit")
      (codes "a: (_0: ([_T0 <: Any] -> Console^{out})^{hits}) -> Unit" ∷ [])
  -- there is no third
  pub third_set : Refuses (codes "def a = fun (f: [X <: Any] -> Console^{out}^{hits}^{out}) => unit") E03 (place 1 51)

-- A tree of height 100 is read, and one of height 101 is refused at the token behind which all are too high.
pub record Heights : Type 0 where
  pub boxes : Refuses
      (codes "def a: " ++ repeated 99 (codes "Box[") ++ codes "Int" ++ repeated 99 (codes "]") ++ codes " = 1")
      E14 (place 1 509)
  pub one_box_more : Refuses
      (codes "def a: " ++ repeated 99 (codes "Box[") ++ codes "Box[Int" ++ repeated 100 (codes "]") ++ codes " = 1")
      E04 (place 1 404)
  pub sums : Refuses (codes "def a = 1" ++ repeated 99 (codes " + 1")) E12 (place 1 9)
  pub one_sum_more : Refuses (codes "def a = 1" ++ repeated 99 (codes " + 1") ++ codes " + 1") E04 (place 1 407)
  pub parentheses : Accepts
      (codes "def a: " ++ repeated 99 (codes "(") ++ codes "Int" ++ repeated 99 (codes ")") ++ codes " = 1")
      (codes "a: Int" ∷ [])
  pub one_parenthesis_more : Refuses
      (codes "def a: " ++ repeated 99 (codes "(") ++ codes "(Int" ++ repeated 100 (codes ")") ++ codes " = 1")
      E04 (place 1 107)
  -- whatever follows a hundredth parenthesis is too high, and behind 99 there is room for a name
  pub open_parentheses : Refuses (codes "def f = " ++ repeated 99 (codes "(") ++ codes "(") E04 (place 1 108)
  pub fewer_open_parentheses : Refuses (codes "def f = " ++ repeated 99 (codes "(")) E03 (place 1 108)
  -- sets have no height
  pub sets : Refuses
      (codes "def a: " ++ repeated 99 (codes "Box[") ++ codes "Int" ++ repeated 99 (codes "^{cap}]") ++ codes " = 1")
      E14 (place 1 1103)
  pub sets_of_unboxings : Refuses
      (codes "def a = fun (b: Int) => " ++ repeated 98 (codes "unbox {b} ") ++ codes "b") E13 (place 1 1005)
  -- a shape that is an argument is a part
  pub parentheses_of_an_argument : Refuses
      (codes "def a = out[" ++ repeated 98 (codes "(") ++ codes "Int" ++ repeated 98 (codes ")") ++ codes "]")
      E12 (place 1 9)
  pub one_parenthesis_more_of_an_argument : Refuses
      (codes "def a = out[" ++ repeated 98 (codes "(") ++ codes "(Int" ++ repeated 99 (codes ")") ++ codes "]")
      E04 (place 1 111)
  -- so is the type of an `if`
  pub parentheses_of_a_choice : Refuses
      (codes "def a = if [" ++ repeated 98 (codes "(") ++ codes "Int" ++ repeated 98 (codes ")")
      ++ codes "] true then 1 else 2")
      E12 (place 1 9)
  pub one_parenthesis_more_of_a_choice : Refuses
      (codes "def a = if [" ++ repeated 98 (codes "(") ++ codes "(Int" ++ repeated 99 (codes ")")
      ++ codes "] true then 1 else 2")
      E04 (place 1 111)
