-- Why elaboration refuses texts, by computation.
use Rattle.std.proofs.Common.{◌≡◌, ◌∙◌, refl, ap, codes, ℕ, List, [], ◌∷◌, Option}
use Rattle.std.specs.Prelude.{encode_utf8_all}
use Rattle.cc_worked_elaboration.specs.ElaborationRows.{Told, told_of}
use Rattle.cc_worked_elaboration.specs.ElaborationRows as example
use Rattle.cc_verdicts.specs.Readings.{reading_of_text}
use Rattle.cc_worked_texts.proofs.ComputedModules.{text_computing, letters_computing}
use Rattle.cc_worked_texts.proofs.QuickTokens.{quick_reading, same_reading}
use Rattle.cc_worked_texts.specs.TextVerdicts.{lines}

-- of a text is told what is found
tells : (text : List ℕ) (said : Option (Option Told)) → told_of (quick_reading text) ≡ said → told_of (reading_of_text text) ≡ said
tells text said e = ap told_of (same_reading text) ∙ e

pub second_names_told : example.SecondNames
unfolding text_computing
second_names_told = record {
  of_a_definition = tells (lines (codes "def a = 1" ∷ codes "def a = 2" ∷ [])) _ refl;
  of_an_import = tells (lines (codes "import m.f" ∷ codes "def f = 1" ∷ [])) _ refl;
  of_a_device = tells (codes "def out = 1") _ refl;
  import_of_a_device = tells (codes "import m.hits") _ refl;
  import_of_an_import = tells (lines (codes "import m.f" ∷ codes "import n.f" ∷ [])) _ refl;
  given_three_times = tells (lines (codes "def a = 1" ∷ codes "def a = 2" ∷ codes "def a = 3" ∷ [])) _ refl;
  among_others = tells (lines (codes "import m.f" ∷ codes "def b = 1" ∷ codes "def rec a: (x: Int) -> Int = fun (x: Int) => a(x)" ∷ codes "def c = 2" ∷ codes "def a = 3" ∷ codes "def b = 4" ∷ [])) _ refl;
  imports_first = tells (lines (codes "import m.f" ∷ codes "import m.f" ∷ codes "def out = 1" ∷ [])) _ refl;
  hidden_by_binders = tells (lines (codes "def b = fun (out: Int) => fun (b: Int) => val b = b; val out = b; boundary [Int] b => out" ∷ codes "def out2 = fun [b <: Int] => 1" ∷ codes "def x = fun (x: Int) => x" ∷ codes "def y = fun (x: Int) => x" ∷ [])) _ refl;
}

pub unknown_names_told : example.UnknownNames
unfolding text_computing
unknown_names_told = record {
  term = tells (codes "def a = fun (x: Unit) => y") _ refl;
  in_a_set = tells (codes "def a = fun (x: Unit^{out, y, z}) => x") _ refl;
  in_parentheses = tells (codes "def a = out(((y)))") _ refl;
  type = tells (codes "def a = fun (x: Q) => x") _ refl;
  no_type_of_a_terms_name = tells (codes "def a = fun (x: Unit) => fun (y: x) => y") _ refl;
  no_term_of_a_types_name = tells (codes "def a = fun [X <: Any] => X") _ refl;
  later_definition = tells (lines (codes "def a = fun (x: Int) => b(x)" ∷ codes "def b = 1" ∷ [])) _ refl;
  own_name = tells (codes "def a = fun (x: Int) => a(x)") _ refl;
  own_name_of_a_recursive_definition = tells (codes "def rec a: (x: Int) -> Int = fun (x: Int) => a(x)") _ refl;
  function_before_argument = tells (codes "def a = y(z)") _ refl;
  argument_behind_a_known_function = tells (codes "def a = (out.tick())(z)") _ refl;
  condition_behind_the_type = tells (codes "def a = if [Int] y then z else 2") _ refl;
  type_before_condition = tells (codes "def a = if [Q] y then 1 else 2") _ refl;
  set_before_operand = tells (codes "def a = unbox {y} z") _ refl;
  operand_behind_its_set = tells (codes "def a = unbox {out} z") _ refl;
  type_before_exit = tells (codes "def a = exit [Q] (y, 1)") _ refl;
  exit_before_its_value = tells (codes "def a = exit [Int] (y, z)") _ refl;
  right_side_before_body = tells (codes "def a = val x = y; z") _ refl;
  second_side = tells (codes "def a = 1 + y") _ refl;
  argument_of_an_operation = tells (codes "def a = out.print(y)") _ refl;
  shape_of_a_type_application = tells (codes "def a = out[Q]") _ refl;
  function_of_a_repetition = tells (codes "def a = repeat(1, y)") _ refl;
  written_type = tells (codes "def a: Q = y") _ refl;
}

pub other_letters_told : example.OtherLetters
unfolding letters_computing
other_letters_told = record {
  unknown = tells (encode_utf8_all (codes "def a = é")) _ refl;
  second_of_two = tells (lines (encode_utf8_all (codes "def é = 1") ∷ encode_utf8_all (codes "def é = 2") ∷ [])) _ refl;
}

pub no_values_told : example.NoValues
unfolding text_computing
no_values_told = record {
  name = tells (codes "def a = ((out))") _ refl;
  val = tells (codes "def a = val x = 1; x") _ refl;
  choice = tells (codes "def a = if [Int] true then 1 else 2") _ refl;
  boundary = tells (codes "def a = boundary [Int] z => 1") _ refl;
  operator = tells (codes "def a = 1 + 2") _ refl;
  operator_in_parentheses = tells (codes "def a = (((1) + 2))") _ refl;
  operator_behind_parentheses = tells (codes "def a = (1) + 2") _ refl;
  unboxing = tells (codes "def a = unbox out") _ refl;
  application = tells (codes "def a = out(1)") _ refl;
  type_application = tells (codes "def a = out[Int]") _ refl;
  operation = tells (codes "def a = hits.tick()") _ refl;
  operation_with_an_argument = tells (codes "def a = out.print(1)") _ refl;
  exit = tells (codes "def a = exit [Int] (out, 1)") _ refl;
  repetition = tells (codes "def a = repeat(1, out)") _ refl;
  box_of_a_literal = tells (codes "def a = box 1") _ refl;
  box_of_a_name = tells (codes "def a = box ((out))") _ refl;
  recursive_literal = tells (codes "def rec f: Int = 5") _ refl;
  recursive_box = tells (codes "def rec f: Int = (box out)") _ refl;
  recursive_name = tells (codes "def rec f: Int = f") _ refl;
  literal = tells (codes "def f: Int = 5") _ refl;
  functions = tells (lines (codes "def a = ((fun (x: Int) => x + 1))" ∷ codes "def b = fun [X <: Any] => 1 + 2" ∷ codes "def rec c: (x: Int) -> Int = ((fun (x: Int) => c(x)))" ∷ codes "def rec d: [X <: Any] -> Int = fun [X <: Any] => d[X]" ∷ [])) _ refl;
  inside_before = tells (codes "def a = 1 + y") _ refl;
  before_the_next_name = tells (lines (codes "def a = 1 + 2" ∷ codes "def a = 3" ∷ [])) _ refl;
}

pub omitted_sets_told : example.OmittedSets
unfolding text_computing
omitted_sets_told = record {
  in_a_box = tells (codes "def a = fun (x: Box[Int^?]) => x") _ refl;
  in_a_parameter = tells (codes "def a = fun (f: (y: Int^?) -> Int) => f") _ refl;
  in_a_result = tells (codes "def a = fun (f: (y: Int) -> Int^?) => f") _ refl;
  in_a_result_of_a_type_function = tells (codes "def a = fun (f: [X <: Any] -> Int^?) => f") _ refl;
  of_an_exit = tells (codes "def a = fun (x: Int) => exit [Int^?] (x, x)") _ refl;
  of_a_recursive_definition = tells (codes "def rec f: ((u: Unit) -> Unit)^? = fun (u: Unit) => u") _ refl;
  box_that_may_omit_its_own = tells (codes "def a = fun (x: Box[Int^?]^?) => x") _ refl;
  result_in_a_box = tells (codes "def a = fun (x: Box[(y: Int) -> Int^?]) => x") _ refl;
  box_in_a_parameter = tells (codes "def a = fun (f: (y: Box[Int^?]^?) -> Int) => f") _ refl;
  parameter_in_a_recursive_definition = tells (codes "def rec f: (u: Unit^?) -> Unit = fun (u: Unit) => u") _ refl;
  parentheses_around = tells (codes "def a = fun (x: Box[((Int))^?]) => x") _ refl;
  box_in_an_exit_shape = tells (codes "def a = fun (x: Exit[Box[Int^?]]) => x") _ refl;
  box_in_a_boundary = tells (codes "def a = boundary [Box[Int^?]] z => 1") _ refl;
  box_in_a_bound = tells (codes "def a = fun [X <: Box[Int^?]] => 1") _ refl;
  box_in_a_type_argument = tells (codes "def a = out[Box[Int^?]]") _ refl;
  inside_the_type_of_a_val = tells (codes "def a = val f: (y: Int^?) -> Int = out; f") _ refl;
  allowed = tells (codes "def a: ((x: Int) -> Int)^? = fun (x: Int^?) => val y: Int^? = x; if [Int^?] true then x else y") _ refl;
  the_shape_comes_before_the_set = tells (codes "def a = fun (x: Box[Q^?]) => x") _ refl;
  before_the_right_side = tells (codes "def rec f: Int^? = 1") _ refl;
  behind_the_name = tells (codes "def rec out: Int^? = y") _ refl;
}
