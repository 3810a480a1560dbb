-- Texts whose grammar decides.
use Rattle.std.proofs.Common.{refl, codes, [], ◌∷◌, ◌++◌}
use Rattle.cc_base.specs.declared.code.Code.TheVariants.{E03, E04, E12, E13, E14}
use Rattle.cc_worked_texts.specs.TextVerdicts.{place, repeated}
use Rattle.cc_worked_texts.specs.TextMeanings.{over_numbers}
use Rattle.cc_worked_texts.specs.GrammarVerdicts as example
use Rattle.cc_worked_texts.proofs.ComputedModules.{text_computing, refused, accepted, says}

pub operators : example.OperatorTexts
unfolding text_computing
operators = record {
  comparison_of_a_comparison = refused 9 (codes "def a = fun (x: Int) => x == 1 == 2") E03 (place 1 32) refl;
  sums_beside_less = accepted 9 (codes "def a = fun (x: Int) => 1 + x < x + 4") (codes "a: (_0: Int) -> Bool" ∷ []) refl;
  sums_beside_equals = accepted 9 (codes "def a = fun (x: Int) => 1 + x == x + 4") (codes "a: (_0: Int) -> Bool" ∷ []) refl;
  products = accepted 9 (codes "def a = fun (x: Int) => 8 * x * 2") (codes "a: (_0: Int) -> Int" ∷ []) refl;
  boxes = accepted 9 (codes "def a = fun (x: Int) => box box x") (codes "a: (_0: Int) -> Box[Box[Int^{_0}]]" ∷ []) refl;
  opened_boxes = accepted 9 (codes "def a = fun (x: Box[Box[Int]]) => unbox unbox x") (codes "a: (_0: Box[Box[Int]]) -> Int" ∷ []) refl;
  operation_names = accepted 9 (codes "def tick = fun (print: Int) => out.print(print)") (codes "tick: ((_0: Int) -> Unit)^{out}" ∷ []) refl;
  shape_in_parentheses = accepted 9 (codes "def a = fun (x: Box[(Int)]) => unit") (codes "a: (_0: Box[Int]) -> Unit" ∷ []) refl;
  set_of_an_unboxing = accepted 9 (codes "def a = fun (b: Box[Int^{out}]) => unbox {out, hits} b") (codes "a: ((_0: Box[Int^{out}]) -> Int^{out, hits})^{out, hits}" ∷ []) refl;
  devices = accepted 9 (codes "def a = fun (x: File) => fun (y: Counter) => x") (codes "a: (_0: File) -> ((_1: Counter) -> File^{_0})^{_0}" ∷ []) refl;
}

pub groups : example.Groups
unfolding text_computing
groups = record {
  products_bind_tighter = says (over_numbers (codes "a + b * c - d")) (over_numbers (codes "(a + (b * c)) - d")) refl refl;
  products_before_sums = says (over_numbers (codes "a * b + c")) (over_numbers (codes "(a * b) + c")) refl refl;
  sums_before_comparisons = says (over_numbers (codes "a + b < c - d")) (over_numbers (codes "(a + b) < (c - d)")) refl refl;
  sums_in_parentheses = says (over_numbers (codes "a * (b + c)")) (over_numbers (codes "val s = b + c; a * s")) refl refl;
  boxed_calls = says (over_numbers (codes "box a(b)")) (over_numbers (codes "box (a(b))")) refl refl;
  boxed_products = says (over_numbers (codes "box a * b")) (over_numbers (codes "(box a) * b")) refl refl;
  opened_calls = says (over_numbers (codes "unbox a(b)")) (over_numbers (codes "unbox (a(b))")) refl refl;
  opened_products = says (over_numbers (codes "unbox {c} a * b")) (over_numbers (codes "(unbox {c} a) * b")) refl refl;
  bodies = says (over_numbers (codes "fun (x: Int) => x(x) + x")) (over_numbers (codes "fun (x: Int) => ((x(x)) + x)")) refl refl;
}

pub refusals : example.GrammarRefusals
unfolding text_computing
refusals = record {
  comparison_as_operand = refused 9 (codes "def f = a < b < c") E03 (place 1 15) refl;
  function_as_operand = refused 9 (codes "def f = a + fun (x: T) => x") E03 (place 1 13) refl;
  reading_takes_nothing = refused 9 (codes "def f = x.read(y)") E03 (place 1 16) refl;
  printing_takes_something = refused 9 (codes "def f = x.print()") E03 (place 1 17) refl;
  set_of_a_type_argument = refused 9 (codes "def f = id[Int^{a}]") E03 (place 1 15) refl;
  end_of_the_text = refused 9 (codes "def f = a +") E03 (place 1 12) refl;
  import_behind_a_definition = refused 9 (codes "def f = d import m.d") E03 (place 1 11) refl;
  arrow_is_missing = refused 9 (codes "def k = fun (x: Unit) x") E03 (place 1 23) refl;
  name_is_missing = refused 9 (codes "def rec = fun (x: Unit) => x") E03 (place 1 9) refl;
  type_is_missing = refused 9 (codes "def rec f = a") E03 (place 1 11) refl;
  element_is_missing = refused 9 (codes "def f = unbox {a,} b") E03 (place 1 18) refl;
}

pub sets : example.InnermostSets
unfolding text_computing
sets = record {
  of_a_function = accepted 9 (codes "def a = fun (f: (u: Unit) -> Console^{out}) => unit") (codes "a: (_0: (_0: Unit) -> Console^{out}) -> Unit" ∷ []) refl;
  of_a_type_function = accepted 9 (codes "def a = fun (f: [X <: Any] -> Console^{out}) => unit") (codes "a: (_0: [_T0 <: Any] -> Console^{out}) -> Unit" ∷ []) refl;
  of_a_result_of_a_result = accepted 9 (codes "def a = fun (f: (u: Unit) -> [X <: Any] -> Console^{out}) => unit") (codes "a: (_0: (_0: Unit) -> [_T1 <: Any] -> Console^{out}) -> Unit" ∷ []) refl;
  second_set = accepted 9 (codes "def a = fun (f: [X <: Any] -> Console^{out}^{hits}) => unit") (codes "a: (_0: ([_T0 <: Any] -> Console^{out})^{hits}) -> Unit" ∷ []) refl;
  third_set = refused 9 (codes "def a = fun (f: [X <: Any] -> Console^{out}^{hits}^{out}) => unit") E03 (place 1 51) refl;
}

pub heights : example.Heights
unfolding text_computing
heights = record {
  boxes = refused 9 (codes "def a: " ++ repeated 99 (codes "Box[") ++ codes "Int" ++ repeated 99 (codes "]") ++ codes " = 1") E14 (place 1 509) refl;
  one_box_more = refused 9 (codes "def a: " ++ repeated 99 (codes "Box[") ++ codes "Box[Int" ++ repeated 100 (codes "]") ++ codes " = 1") E04 (place 1 404) refl;
  sums = refused 9 (codes "def a = 1" ++ repeated 99 (codes " + 1")) E12 (place 1 9) refl;
  one_sum_more = refused 9 (codes "def a = 1" ++ repeated 99 (codes " + 1") ++ codes " + 1") E04 (place 1 407) refl;
  parentheses = accepted 9 (codes "def a: " ++ repeated 99 (codes "(") ++ codes "Int" ++ repeated 99 (codes ")") ++ codes " = 1") (codes "a: Int" ∷ []) refl;
  one_parenthesis_more = refused 9 (codes "def a: " ++ repeated 99 (codes "(") ++ codes "(Int" ++ repeated 100 (codes ")") ++ codes " = 1") E04 (place 1 107) refl;
  open_parentheses = refused 9 (codes "def f = " ++ repeated 99 (codes "(") ++ codes "(") E04 (place 1 108) refl;
  fewer_open_parentheses = refused 9 (codes "def f = " ++ repeated 99 (codes "(")) E03 (place 1 108) refl;
  sets = refused 9 (codes "def a: " ++ repeated 99 (codes "Box[") ++ codes "Int" ++ repeated 99 (codes "^{cap}]") ++ codes " = 1") E14 (place 1 1103) refl;
  sets_of_unboxings = refused 9 (codes "def a = fun (b: Int) => " ++ repeated 98 (codes "unbox {b} ") ++ codes "b") E13 (place 1 1005) refl;
  parentheses_of_an_argument = refused 9 (codes "def a = out[" ++ repeated 98 (codes "(") ++ codes "Int" ++ repeated 98 (codes ")") ++ codes "]") E12 (place 1 9) refl;
  one_parenthesis_more_of_an_argument = refused 9 (codes "def a = out[" ++ repeated 98 (codes "(") ++ codes "(Int" ++ repeated 99 (codes ")") ++ codes "]") E04 (place 1 111) refl;
  parentheses_of_a_choice = refused 9 (codes "def a = if [" ++ repeated 98 (codes "(") ++ codes "Int" ++ repeated 98 (codes ")") ++ codes "] true then 1 else 2") E12 (place 1 9) refl;
  one_parenthesis_more_of_a_choice = refused 9 (codes "def a = if [" ++ repeated 98 (codes "(") ++ codes "(Int" ++ repeated 99 (codes ")") ++ codes "] true then 1 else 2") E04 (place 1 111) refl;
}
