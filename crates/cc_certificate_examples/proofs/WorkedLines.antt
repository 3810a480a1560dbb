-- What fits as a line of a certificate, and what does not.
use Rattle.std.proofs.Common.{refl, codes, ◌++◌}
use Rattle.std.specs.Prelude.{encode_utf8_all}
use Rattle.cc_certificate_judging.specs.Answers.{HasBadLine, HasBadNode}
use Rattle.cc_certificate_examples.specs.FoundTexts.{around_term, around_type, around_set, behind_term}
use Rattle.cc_certificate_examples.specs.CertificateTexts as example
use Rattle.cc_certificate_examples.proofs.ComputedAnswers.{found_in, says}
use Rattle.cc_certificate_examples.proofs.ComputedLines.{line_computing}

pub first_lines : example.FirstLines
unfolding line_computing
first_lines = record {
  no_form = found_in 60 (codes "term 1\n1 t-lit [] : Int\n") (HasBadLine 1) tt refl;
  another_form = found_in 60 (codes "cert 2\nterm 1\n1 t-lit [] : Int\n") (HasBadLine 1) tt refl;
  form_with_more = found_in 60 (codes "cert 1 \nterm 1\n1 t-lit [] : Int\n") (HasBadLine 1) tt refl;
  form_twice = found_in 60 (codes "cert 1\ncert 1\nterm 1\n1 t-lit [] : Int\n") (HasBadLine 2) tt refl;
  no_term = found_in 60 (codes "cert 1\n1 t-lit [] : Int\n") (HasBadLine 2) tt refl;
  no_term_behind_binds = found_in 60 (codes "cert 1\nbind x: Int\n1 t-var [] : Int^{x}\n") (HasBadLine 3) tt refl;
  term_twice = found_in 60 (codes "cert 1\nterm 1\nterm 1\n1 t-lit [] : Int\n") (HasBadLine 3) tt refl;
  bind_behind_the_term = found_in 60 (codes "cert 1\nterm 1\nbind x: Int\n1 t-lit [] : Int\n") (HasBadLine 3) tt refl;
  term_behind_nodes = found_in 60 (codes "cert 1\nterm 1\n1 t-lit [] : Int\nterm 1\n") (HasBadLine 4) tt refl;
  form_alone = found_in 60 (codes "cert 1\n") (HasBadLine 2) tt refl;
  binds_alone = found_in 60 (codes "cert 1\nbind x: Int\n") (HasBadLine 3) tt refl;
}

pub bind_lines : example.BindLines
unfolding line_computing
bind_lines = record {
  of_one_letter =
      says 60 (codes "cert 1\nbind x: Int\nterm x\n1 t-var [] : Int^{x}\n")
      (codes "valid Int^{x}") refl refl;
  of_many_letters =
      says 60 (codes "cert 1\nbind the_x1: Int\nterm the_x1\n1 t-var [] : Int^{the_x1}\n")
      (codes "valid Int^{the_x1}") refl refl;
  of_letters_beyond_ascii =
      says 60 (encode_utf8_all (codes "cert 1\nbind äß: Int\nterm äß\n1 t-var [] : Int^{äß}\n"))
      (encode_utf8_all (codes "valid Int^{äß}")) refl refl;
  twice = found_in 60 (codes "cert 1\nbind x: Int\nbind x: Int\nterm x\n1 t-var [] : Int^{x}\n") (HasBadLine 3) tt refl;
  twice_with_one_between = found_in 60 (codes "cert 1\nbind x: Int\nbind y: Int\nbind x: Bool\nterm x\n1 t-var [] : Int^{x}\n") (HasBadLine 4) tt refl;
  of_a_word_of_certificates =
      says 60 (codes "cert 1\nbind let: Int\nterm 1\n1 t-lit [] : Int\n")
      (codes "valid Int") refl refl;
  of_a_word_of_texts = found_in 60 (codes "cert 1\nbind fun: Int\nterm 1\n1 t-lit [] : Int\n") (HasBadLine 2) tt refl;
  of_a_digit = found_in 60 (codes "cert 1\nbind 1x: Int\nterm 1\n1 t-lit [] : Int\n") (HasBadLine 2) tt refl;
  of_a_local_variable = found_in 60 (codes "cert 1\nbind _0: Int\nterm 1\n1 t-lit [] : Int\n") (HasBadLine 2) tt refl;
  of_nothing = found_in 60 (codes "cert 1\nbind : Int\nterm 1\n1 t-lit [] : Int\n") (HasBadLine 2) tt refl;
  without_a_type = found_in 60 (codes "cert 1\nbind x:\nterm 1\n1 t-lit [] : Int\n") (HasBadLine 2) tt refl;
  without_a_space = found_in 60 (codes "cert 1\nbind x:Int\nterm 1\n1 t-lit [] : Int\n") (HasBadLine 2) tt refl;
  with_a_space_before_the_colon = found_in 60 (codes "cert 1\nbind x : Int\nterm 1\n1 t-lit [] : Int\n") (HasBadLine 2) tt refl;
  with_two_spaces = found_in 60 (codes "cert 1\nbind  x: Int\nterm 1\n1 t-lit [] : Int\n") (HasBadLine 2) tt refl;
  with_a_space_at_the_end = found_in 60 (codes "cert 1\nbind x: Int \nterm 1\n1 t-lit [] : Int\n") (HasBadLine 2) tt refl;
  with_an_older_one =
      says 60 (codes "cert 1\nbind x: Int\nbind y: Int^{x}\nterm y\n1 t-var [] : Int^{y}\n")
      (codes "valid Int^{y}") refl refl;
  with_itself = found_in 60 (codes "cert 1\nbind x: Int^{x}\nterm 1\n1 t-lit [] : Int\n") (HasBadLine 2) tt refl;
  with_a_newer_one = found_in 60 (codes "cert 1\nbind y: Int^{x}\nbind x: Int\nterm 1\n1 t-lit [] : Int\n") (HasBadLine 2) tt refl;
  with_a_name_as_a_shape = found_in 60 (codes "cert 1\nbind x: Int\nbind y: _T0\nterm 1\n1 t-lit [] : Int\n") (HasBadLine 3) tt refl;
  with_a_local_variable = found_in 60 (codes "cert 1\nbind x: Int^{_0}\nterm 1\n1 t-lit [] : Int\n") (HasBadLine 2) tt refl;
  with_binders =
      says 60 (
      codes "cert 1\nbind x: Int\nbind f: (_0: Int) -> (_1: Int) -> Int^{_0, _1}\nterm 1\n"
      ++ codes "1 t-lit [] : Int\n")
      (codes "valid Int") refl refl;
  with_a_binder_of_another_number = found_in 60 (codes "cert 1\nbind x: Int\nbind f: (_1: Int) -> Int\nterm 1\n1 t-lit [] : Int\n") (HasBadLine 3) tt refl;
  with_an_omitted_set = found_in 60 (codes "cert 1\nbind x: Int^?\nterm 1\n1 t-lit [] : Int\n") (HasBadLine 2) tt refl;
}

pub set_lines : example.SetLines
unfolding line_computing
set_lines = record {
  one = found_in 60 (around_set (codes "a")) (HasBadNode 1) refl refl;
  two_names = found_in 60 (around_set (codes "b, a")) (HasBadNode 1) refl refl;
  local_variables = found_in 60 (around_set (codes "_0, _1")) (HasBadNode 1) refl refl;
  name_and_local_variable = found_in 60 (around_set (codes "a, _0")) (HasBadNode 1) refl refl;
  local_variables_by_their_numbers = found_in 60 (around_set (codes "_9, _10")) (HasBadNode 1) refl refl;
  name_and_universal_capability = found_in 60 (around_set (codes "b, cap")) (HasBadNode 1) refl refl;
  all = found_in 60 (around_set (codes "b, a, _0, _1, cap")) (HasBadNode 1) refl refl;
  universal_capability = found_in 60 (around_set (codes "cap")) (HasBadNode 1) refl refl;
  two_names_in_the_other_order = found_in 60 (around_set (codes "a, b")) (HasBadLine 5) tt refl;
  local_variables_in_the_other_order = found_in 60 (around_set (codes "_1, _0")) (HasBadLine 5) tt refl;
  local_variables_by_their_letters = found_in 60 (around_set (codes "_10, _9")) (HasBadLine 5) tt refl;
  local_variable_before_a_name = found_in 60 (around_set (codes "_0, a")) (HasBadLine 5) tt refl;
  universal_capability_before_a_name = found_in 60 (around_set (codes "cap, a")) (HasBadLine 5) tt refl;
  universal_capability_before_a_local_variable = found_in 60 (around_set (codes "cap, _0")) (HasBadLine 5) tt refl;
  name_twice = found_in 60 (around_set (codes "a, a")) (HasBadLine 5) tt refl;
  local_variable_twice = found_in 60 (around_set (codes "_0, _0")) (HasBadLine 5) tt refl;
  universal_capability_twice = found_in 60 (around_set (codes "cap, cap")) (HasBadLine 5) tt refl;
  without_a_space = found_in 60 (around_set (codes "b,a")) (HasBadLine 5) tt refl;
  with_two_spaces = found_in 60 (around_set (codes "b,  a")) (HasBadLine 5) tt refl;
  with_a_space_before_the_comma = found_in 60 (around_set (codes "b , a")) (HasBadLine 5) tt refl;
  without_a_comma = found_in 60 (around_set (codes "b a")) (HasBadLine 5) tt refl;
  with_a_comma_behind = found_in 60 (around_set (codes "b, a, ")) (HasBadLine 5) tt refl;
  with_a_comma_alone_behind = found_in 60 (around_set (codes "b, a,")) (HasBadLine 5) tt refl;
  with_a_space_in_front = found_in 60 (around_set (codes " a")) (HasBadLine 5) tt refl;
  without_elements = found_in 60 (around_set (codes "")) (HasBadLine 5) tt refl;
  of_no_name = found_in 60 (around_set (codes "c")) (HasBadLine 5) tt refl;
  of_a_front_of_a_name = found_in 60 (around_set (codes "bc")) (HasBadLine 5) tt refl;
  of_a_number = found_in 60 (around_set (codes "0")) (HasBadLine 5) tt refl;
  of_a_type_variable = found_in 60 (around_set (codes "_T0")) (HasBadLine 5) tt refl;
  of_a_number_with_a_zero = found_in 60 (around_set (codes "_00")) (HasBadLine 5) tt refl;
  of_a_low_line = found_in 60 (around_set (codes "_")) (HasBadLine 5) tt refl;
  omitted = found_in 60 (around_set (codes "?")) (HasBadLine 5) tt refl;
  in_an_unboxing =
      says 60 (
      codes "cert 1\nbind b: Box[Int]\nterm fun (_0: Int) => fun (_1: Int) => unbox {_0, _1} b\n"
      ++ codes "1 t-lit [] : Int\n")
      (codes "bad node 1") refl refl;
  in_an_unboxing_in_the_other_order = found_in 60 (
      codes "cert 1\nbind b: Box[Int]\nterm fun (_0: Int) => fun (_1: Int) => unbox {_1, _0} b\n"
      ++ codes "1 t-lit [] : Int\n") (HasBadLine 3) tt refl;
}

pub term_lines : example.TermLines
unfolding line_computing
term_lines = record {
  variable = found_in 60 (around_term (codes "x")) (HasBadNode 1) refl refl;
  of_no_name = found_in 60 (around_term (codes "y")) (HasBadLine 4) tt refl;
  local_variable_without_a_binder = found_in 60 (around_term (codes "_0")) (HasBadLine 4) tt refl;
  local_variable_without_its_binder = found_in 60 (around_term (codes "fun (_0: Int) => _1")) (HasBadLine 4) tt refl;
  unit_value = found_in 60 (around_term (codes "unit")) (HasBadNode 1) refl refl;
  truths = found_in 60 (around_term (codes "let _0 = true in false")) (HasBadNode 1) refl refl;
  greatest_number = found_in 60 (around_term (codes "9223372036854775807")) (HasBadNode 1) refl refl;
  greater_number = found_in 60 (around_term (codes "9223372036854775808")) (HasBadLine 4) tt refl;
  negative_number = found_in 60 (around_term (codes "-1")) (HasBadLine 4) tt refl;
  number_with_a_zero = found_in 60 (around_term (codes "01")) (HasBadLine 4) tt refl;
  text = found_in 60 (around_term (codes "\"a b\"")) (HasBadNode 1) refl refl;
  text_beyond_ascii = found_in 60 (around_term (encode_utf8_all (codes "\"ä\""))) (HasBadNode 1) refl refl;
  empty_text = found_in 60 (around_term (codes "\"\"")) (HasBadNode 1) refl refl;
  text_without_an_end = found_in 60 (around_term (codes "\"a")) (HasBadLine 4) tt refl;
  text_with_a_quote = found_in 60 (around_term (codes "\"a\"b\"")) (HasBadLine 4) tt refl;
  text_with_a_tab = found_in 60 (around_term (codes "\"a\tb\"")) (HasBadLine 4) tt refl;
  function = found_in 60 (around_term (codes "fun (_0: Int^{x}) => _0")) (HasBadNode 1) refl refl;
  function_of_another_number = found_in 60 (around_term (codes "fun (_1: Int) => _1")) (HasBadLine 4) tt refl;
  function_with_a_name = found_in 60 (around_term (codes "fun (y: Int) => 1")) (HasBadLine 4) tt refl;
  function_without_a_type = found_in 60 (around_term (codes "fun (_0) => 1")) (HasBadLine 4) tt refl;
  function_of_an_omitted_set = found_in 60 (around_term (codes "fun (_0: Int^?) => 1")) (HasBadLine 4) tt refl;
  function_of_two_parameters = found_in 60 (around_term (codes "fun (_0: Int) => fun (_1: Int^{_0}) => _1")) (HasBadNode 1) refl refl;
  function_in_its_own_type = found_in 60 (around_term (codes "fun (_0: Int^{_0}) => 1")) (HasBadLine 4) tt refl;
  type_function = found_in 60 (around_term (codes "fun [_T0 <: Box[Int^{x}]] => fun (_1: _T0) => _1")) (HasBadNode 1) refl refl;
  type_function_of_another_number = found_in 60 (around_term (codes "fun [_T1 <: Any] => 1")) (HasBadLine 4) tt refl;
  type_function_in_its_own_bound = found_in 60 (around_term (codes "fun [_T0 <: _T0] => 1")) (HasBadLine 4) tt refl;
  type_function_of_a_type = found_in 60 (around_term (codes "fun [_T0 <: Int^{x}] => 1")) (HasBadLine 4) tt refl;
  type_variable_as_a_term = found_in 60 (around_term (codes "fun [_T0 <: Any] => _0")) (HasBadLine 4) tt refl;
  type_variable_in_a_set = found_in 60 (around_term (codes "fun [_T0 <: Any] => fun (_1: Int^{_0}) => 1")) (HasBadLine 4) tt refl;
  variable_as_a_shape = found_in 60 (around_term (codes "fun (_0: Int) => fun (_1: _T0) => 1")) (HasBadLine 4) tt refl;
  box = found_in 60 (around_term (codes "box x")) (HasBadNode 1) refl refl;
  box_of_a_term = found_in 60 (around_term (codes "box 1")) (HasBadLine 4) tt refl;
  application = found_in 60 (around_term (codes "f(x)")) (HasBadNode 1) refl refl;
  application_to_a_term = found_in 60 (around_term (codes "f(1)")) (HasBadLine 4) tt refl;
  application_to_nothing = found_in 60 (around_term (codes "f()")) (HasBadLine 4) tt refl;
  application_with_a_space = found_in 60 (around_term (codes "f (x)")) (HasBadLine 4) tt refl;
  type_application = found_in 60 (around_term (codes "f[Box[Int^{x}]]")) (HasBadNode 1) refl refl;
  type_application_to_a_type = found_in 60 (around_term (codes "f[Int^{x}]")) (HasBadLine 4) tt refl;
  unboxing = found_in 60 (around_term (codes "unbox {x, f} x")) (HasBadNode 1) refl refl;
  unboxing_with_nothing = found_in 60 (around_term (codes "unbox {} x")) (HasBadNode 1) refl refl;
  unboxing_of_an_omitted_set = found_in 60 (around_term (codes "unbox x")) (HasBadLine 4) tt refl;
  unboxing_in_the_other_order = found_in 60 (around_term (codes "unbox {f, x} x")) (HasBadLine 4) tt refl;
  let_of_no_type = found_in 60 (around_term (codes "let _0 = x in _0")) (HasBadNode 1) refl refl;
  let_with_a_type = found_in 60 (around_term (codes "let _0: Int^{x} = 1 in let _1: (_1: Int) -> Int = f in _1")) (HasBadNode 1) refl refl;
  let_of_another_number = found_in 60 (around_term (codes "let _1 = 1 in 2")) (HasBadLine 4) tt refl;
  let_of_an_omitted_set = found_in 60 (around_term (codes "let _0: Int^? = 1 in 2")) (HasBadLine 4) tt refl;
  let_in_its_own_right_side = found_in 60 (around_term (codes "let _0 = _0 in 1")) (HasBadLine 4) tt refl;
  let_in_its_own_type = found_in 60 (around_term (codes "let _0: Int^{_0} = 1 in 1")) (HasBadLine 4) tt refl;
  let_in_a_let = found_in 60 (around_term (codes "let _0 = let _0 = 1 in _0 in _0")) (HasBadNode 1) refl refl;
  operators = found_in 60 (around_term (codes "let _0 = x + x in let _1 = x - _0 in let _2 = _0 * _1 in let _3 = x < x in x == x")) (HasBadNode 1) refl refl;
  operator_on_a_number = found_in 60 (around_term (codes "x + 1")) (HasBadLine 4) tt refl;
  operator_without_spaces = found_in 60 (around_term (codes "x+x")) (HasBadLine 4) tt refl;
  division = found_in 60 (around_term (codes "x / x")) (HasBadLine 4) tt refl;
  choice = found_in 60 (around_term (codes "if [Int^{x}] x then 1 else 2")) (HasBadNode 1) refl refl;
  choice_of_no_type = found_in 60 (around_term (codes "if x then 1 else 2")) (HasBadLine 4) tt refl;
  choice_of_an_omitted_set = found_in 60 (around_term (codes "if [Int^?] x then 1 else 2")) (HasBadLine 4) tt refl;
  choice_by_a_term = found_in 60 (around_term (codes "if [Int] true then 1 else 2")) (HasBadLine 4) tt refl;
  choice_with_one_branch = found_in 60 (around_term (codes "if [Int] x then 1")) (HasBadLine 4) tt refl;
  choice_of_lets = found_in 60 (around_term (codes "if [Int] x then let _0 = 1 in _0 else let _0 = 2 in _0")) (HasBadNode 1) refl refl;
  repetition = found_in 60 (around_term (codes "repeat(x, f)")) (HasBadNode 1) refl refl;
  repetition_without_a_space = found_in 60 (around_term (codes "repeat(x,f)")) (HasBadLine 4) tt refl;
  repetition_of_a_number = found_in 60 (around_term (codes "repeat(1, f)")) (HasBadLine 4) tt refl;
  operations = found_in 60 (around_term (
      codes "let _0 = x.print(x) in let _1 = x.say(x) in let _2 = x.read() in let _3 = "
      ++ codes "x.write(x) in x.tick()")) (HasBadNode 1) refl refl;
  printing_nothing = found_in 60 (around_term (codes "x.print()")) (HasBadLine 4) tt refl;
  saying_nothing = found_in 60 (around_term (codes "x.say()")) (HasBadLine 4) tt refl;
  reading_something = found_in 60 (around_term (codes "x.read(x)")) (HasBadLine 4) tt refl;
  writing_nothing = found_in 60 (around_term (codes "x.write()")) (HasBadLine 4) tt refl;
  ticking_something = found_in 60 (around_term (codes "x.tick(x)")) (HasBadLine 4) tt refl;
  operation_of_no_name = found_in 60 (around_term (codes "x.open()")) (HasBadLine 4) tt refl;
  boundary = found_in 60 (around_term (codes "boundary [Int] _0 => exit [Int^{x}] (_0, x)")) (HasBadNode 1) refl refl;
  boundary_of_another_number = found_in 60 (around_term (codes "boundary [Int] _1 => 1")) (HasBadLine 4) tt refl;
  boundary_of_a_type = found_in 60 (around_term (codes "boundary [Int^{x}] _0 => 1")) (HasBadLine 4) tt refl;
  boundary_under_its_exit = found_in 60 (around_term (codes "boundary [Box[Int^{_0}]] _0 => 1")) (HasBadLine 4) tt refl;
  exit = found_in 60 (around_term (codes "exit [Int^{x}] (x, f)")) (HasBadNode 1) refl refl;
  exit_of_no_type = found_in 60 (around_term (codes "exit (x, f)")) (HasBadLine 4) tt refl;
  exit_of_an_omitted_set = found_in 60 (around_term (codes "exit [Int^?] (x, f)")) (HasBadLine 4) tt refl;
  exit_without_a_space = found_in 60 (around_term (codes "exit [Int] (x,f)")) (HasBadLine 4) tt refl;
  term_in_parentheses = found_in 60 (around_term (codes "(x)")) (HasBadLine 4) tt refl;
  term_with_a_space_behind = found_in 60 (around_term (codes "x ")) (HasBadLine 4) tt refl;
}

pub type_lines : example.TypeLines
unfolding line_computing
type_lines = record {
  unit = found_in 60 (around_type (codes "Unit")) (HasBadNode 1) refl refl;
  bool = found_in 60 (around_type (codes "Bool")) (HasBadNode 1) refl refl;
  int = found_in 60 (around_type (codes "Int")) (HasBadNode 1) refl refl;
  str = found_in 60 (around_type (codes "Str")) (HasBadNode 1) refl refl;
  console = found_in 60 (around_type (codes "Console")) (HasBadNode 1) refl refl;
  file = found_in 60 (around_type (codes "File")) (HasBadNode 1) refl refl;
  counter = found_in 60 (around_type (codes "Counter")) (HasBadNode 1) refl refl;
  any = found_in 60 (around_type (codes "Any")) (HasBadNode 1) refl refl;
  no_shape = found_in 60 (around_type (codes "Number")) (HasBadLine 3) tt refl;
  longer_word = found_in 60 (around_type (codes "Ints")) (HasBadLine 3) tt refl;
  word_of_small_letters = found_in 60 (around_type (codes "int")) (HasBadLine 3) tt refl;
  with_a_set = found_in 60 (around_type (codes "Int^{x}")) (HasBadNode 1) refl refl;
  with_an_empty_set = found_in 60 (around_type (codes "Int^{}")) (HasBadLine 3) tt refl;
  with_a_space = found_in 60 (around_type (codes "Int ^{x}")) (HasBadLine 3) tt refl;
  in_parentheses = found_in 60 (around_type (codes "(Int)^{x}")) (HasBadLine 3) tt refl;
  function = found_in 60 (around_type (codes "(_0: Int) -> Int")) (HasBadNode 1) refl refl;
  function_with_a_set = found_in 60 (around_type (codes "((_0: Int) -> Int)^{x}")) (HasBadNode 1) refl refl;
  function_whose_result_has_a_set = found_in 60 (around_type (codes "(_0: Int) -> Int^{x}")) (HasBadNode 1) refl refl;
  function_in_parentheses = found_in 60 (around_type (codes "((_0: Int) -> Int)")) (HasBadLine 3) tt refl;
  function_with_an_empty_set = found_in 60 (around_type (codes "((_0: Int) -> Int)^{}")) (HasBadLine 3) tt refl;
  function_that_takes_one = found_in 60 (around_type (codes "(_0: (_0: Int) -> Int) -> Int")) (HasBadNode 1) refl refl;
  function_that_takes_one_with_a_set = found_in 60 (around_type (codes "(_0: ((_0: Int) -> Int)^{x}) -> Int")) (HasBadNode 1) refl refl;
  function_that_gives_one = found_in 60 (around_type (codes "(_0: Int) -> (_1: Int) -> Int")) (HasBadNode 1) refl refl;
  function_that_gives_one_with_a_set = found_in 60 (around_type (codes "(_0: Int) -> ((_1: Int) -> Int)^{x, _0}")) (HasBadNode 1) refl refl;
  function_that_gives_one_in_parentheses = found_in 60 (around_type (codes "(_0: Int) -> ((_1: Int) -> Int)")) (HasBadLine 3) tt refl;
  function_without_a_name = found_in 60 (around_type (codes "(Int) -> Int")) (HasBadLine 3) tt refl;
  function_without_a_space = found_in 60 (around_type (codes "(_0:Int) -> Int")) (HasBadLine 3) tt refl;
  function_without_a_space_before_its_arrow = found_in 60 (around_type (codes "(_0: Int)-> Int")) (HasBadLine 3) tt refl;
  type_function = found_in 60 (around_type (codes "[_T0 <: Any] -> _T0")) (HasBadNode 1) refl refl;
  type_function_with_a_set = found_in 60 (around_type (codes "([_T0 <: Any] -> Int)^{x}")) (HasBadNode 1) refl refl;
  type_function_under_another = found_in 60 (around_type (codes "[_T0 <: Any] -> [_T1 <: _T0] -> Box[_T1]")) (HasBadNode 1) refl refl;
  parameter_as_a_shape = found_in 60 (around_type (codes "(_0: Int) -> _T0")) (HasBadLine 3) tt refl;
  type_parameter_in_a_set = found_in 60 (around_type (codes "[_T0 <: Any] -> Int^{_0}")) (HasBadLine 3) tt refl;
  type_function_without_a_bound = found_in 60 (around_type (codes "[_T0] -> Int")) (HasBadLine 3) tt refl;
  type_function_whose_bound_has_a_set = found_in 60 (around_type (codes "[_T0 <: Int^{x}] -> Int")) (HasBadLine 3) tt refl;
  type_variable_with_a_set = found_in 60 (around_type (codes "[_T0 <: Any] -> _T0^{x}")) (HasBadNode 1) refl refl;
  box = found_in 60 (around_type (codes "Box[Int^{x}]")) (HasBadNode 1) refl refl;
  box_with_a_set = found_in 60 (around_type (codes "Box[Int^{x}]^{x}")) (HasBadNode 1) refl refl;
  box_of_a_function = found_in 60 (around_type (codes "Box[((_0: Int) -> Int)^{x}]")) (HasBadNode 1) refl refl;
  box_of_nothing = found_in 60 (around_type (codes "Box[]")) (HasBadLine 3) tt refl;
  box_with_a_space = found_in 60 (around_type (codes "Box [Int]")) (HasBadLine 3) tt refl;
  exit = found_in 60 (around_type (codes "Exit[(_0: Int) -> Int]^{x}")) (HasBadNode 1) refl refl;
  exit_whose_shape_has_a_set = found_in 60 (around_type (codes "Exit[Int^{x}]")) (HasBadLine 3) tt refl;
}

pub node_lines : example.NodeLines
unfolding line_computing
node_lines = record {
  whole = says 60 (behind_term (codes "1 t-lit [] : Int\n")) (codes "valid Int") refl refl;
  of_another_number = found_in 60 (behind_term (codes "2 t-lit [] : Int\n")) (HasBadLine 3) tt refl;
  of_number_zero = found_in 60 (behind_term (codes "0 t-lit [] : Int\n")) (HasBadLine 3) tt refl;
  of_no_number = found_in 60 (behind_term (codes "t-lit [] : Int\n")) (HasBadLine 3) tt refl;
  of_no_rule = found_in 60 (behind_term (codes "1 t-int [] : Int\n")) (HasBadLine 3) tt refl;
  of_a_longer_rule = found_in 60 (behind_term (codes "1 t-lits [] : Int\n")) (HasBadLine 3) tt refl;
  without_a_space = found_in 60 (behind_term (codes "1 t-lit[] : Int\n")) (HasBadLine 3) tt refl;
  without_a_space_behind_premises = found_in 60 (behind_term (codes "1 t-lit []: Int\n")) (HasBadLine 3) tt refl;
  without_brackets = found_in 60 (behind_term (codes "1 t-lit : Int\n")) (HasBadLine 3) tt refl;
  without_a_colon = found_in 60 (behind_term (codes "1 t-lit [] Int\n")) (HasBadLine 3) tt refl;
  with_a_space_behind = found_in 60 (behind_term (codes "1 t-lit [] : Int \n")) (HasBadLine 3) tt refl;
  with_a_zero_in_front = found_in 60 (behind_term (codes "01 t-lit [] : Int\n")) (HasBadLine 3) tt refl;
  of_sets_under_a_rule_of_typing = found_in 60 (behind_term (codes "1 t-lit [] {} <: {}\n")) (HasBadLine 3) tt refl;
  of_shapes_under_a_rule_of_sets = found_in 60 (behind_term (codes "1 set [] Int <: Int\n")) (HasBadLine 3) tt refl;
  of_terms_under_a_rule_of_shapes = found_in 60 (behind_term (codes "1 refl [] : Int\n")) (HasBadLine 3) tt refl;
  of_sets_under_a_rule_of_types = found_in 60 (behind_term (codes "1 capt [] {} <: {}\n")) (HasBadLine 3) tt refl;
  of_types_under_a_rule_of_shapes = found_in 60 (behind_term (codes "1 refl [] Int^{cap} <: Int^{cap}\n")) (HasBadLine 3) tt refl;
  of_shapes_in_parentheses = found_in 60 (behind_term (codes "1 refl [] ((_0: Int) -> Int) <: Int\n")) (HasBadLine 3) tt refl;
  with_one_premise = says 60 (behind_term (codes "1 t-lit [] : Int\n2 t-lit [1] : Int\n")) (codes "bad node 2") refl refl;
  with_two_premises = says 60 (behind_term (codes "1 t-lit [] : Int\n2 t-lit [] : Int\n3 t-lit [1 2] : Int\n")) (codes "bad node 3") refl refl;
  with_premises_in_the_other_order = found_in 60 (behind_term (codes "1 t-lit [] : Int\n2 t-lit [] : Int\n3 t-lit [2 1] : Int\n")) (HasBadLine 5) tt refl;
  with_the_first_of_two = found_in 60 (behind_term (codes "1 t-lit [] : Int\n2 t-lit [] : Int\n3 t-lit [1] : Int\n")) (HasBadLine 5) tt refl;
  with_the_last_of_two = says 60 (behind_term (codes "1 t-lit [] : Int\n2 t-lit [] : Int\n3 t-lit [2] : Int\n4 t-lit [1 3] : Int\n")) (codes "bad node 4") refl refl;
  with_a_premise_twice = found_in 60 (behind_term (codes "1 t-lit [] : Int\n2 t-lit [1 1] : Int\n")) (HasBadLine 4) tt refl;
  with_a_premise_of_two_nodes = found_in 60 (behind_term (codes "1 t-lit [] : Int\n2 t-lit [1] : Int\n3 t-lit [1] : Int\n")) (HasBadLine 5) tt refl;
  with_itself = found_in 60 (behind_term (codes "1 t-lit [1] : Int\n")) (HasBadLine 3) tt refl;
  with_a_later_one = found_in 60 (behind_term (codes "1 t-lit [2] : Int\n2 t-lit [] : Int\n")) (HasBadLine 3) tt refl;
  with_two_spaces = found_in 60 (behind_term (codes "1 t-lit [] : Int\n2 t-lit [] : Int\n3 t-lit [1  2] : Int\n")) (HasBadLine 5) tt refl;
  with_a_comma = found_in 60 (behind_term (codes "1 t-lit [] : Int\n2 t-lit [] : Int\n3 t-lit [1, 2] : Int\n")) (HasBadLine 5) tt refl;
  with_a_space_in_brackets = found_in 60 (behind_term (codes "1 t-lit [ ] : Int\n")) (HasBadLine 3) tt refl;
  with_a_zero_before_a_premise = found_in 60 (behind_term (codes "1 t-lit [] : Int\n2 t-lit [01] : Int\n")) (HasBadLine 4) tt refl;
  unused = found_in 60 (behind_term (codes "1 t-lit [] : Int\n2 t-lit [] : Int\n")) (HasBadLine 5) tt refl;
  unused_in_front = found_in 60 (behind_term (codes "1 t-lit [] : Int\n2 t-lit [] : Int\n3 t-lit [2] : Int\n")) (HasBadLine 6) tt refl;
  below_without_spaces = found_in 60 (behind_term (codes "1 refl [] Int<:Int\n")) (HasBadLine 3) tt refl;
  below_nothing = found_in 60 (behind_term (codes "1 refl [] Int <: \n")) (HasBadLine 3) tt refl;
  sets_without_a_brace = found_in 60 (behind_term (codes "1 elem [] {} <: cap\n")) (HasBadLine 3) tt refl;
  of_an_omitted_set = found_in 60 (behind_term (codes "1 t-lit [] : Int^{?}\n")) (HasBadLine 3) tt refl;
  of_binders_of_one_number = says 60 (behind_term (codes "1 refl [] (_3: Int) -> Int <: (_3: Int) -> Int\n")) (codes "bad node 1") refl refl;
  of_binders_of_two_numbers = found_in 60 (behind_term (codes "1 refl [] (_3: Int) -> Int <: (_4: Int) -> Int\n")) (HasBadLine 3) tt refl;
  of_a_binder_on_the_right_side = says 60 (behind_term (codes "1 refl [] Int <: Box[(_3: Int) -> Int]\n")) (codes "bad node 1") refl refl;
  of_a_binder_in_an_exit = says 60 (behind_term (codes "1 refl [] Exit[(_3: Int) -> (_4: Int) -> Int] <: Int\n")) (codes "bad node 1") refl refl;
  of_types_with_binders_of_two_numbers = found_in 60 (behind_term (codes "1 capt [] ((_3: Int) -> Int)^{cap} <: (_2: Int) -> Int\n")) (HasBadLine 3) tt refl;
  of_binders_that_skip_a_number = found_in 60 (behind_term (codes "1 t-lit [] : (_0: Int) -> (_2: Int) -> Int\n")) (HasBadLine 3) tt refl;
  of_binders_of_one_number_inside = found_in 60 (behind_term (codes "1 t-lit [] : (_0: Int) -> (_0: Int) -> Int\n")) (HasBadLine 3) tt refl;
  of_a_shape_with_a_name = found_in 60 (behind_term (codes "1 refl [] _Tx <: Any\n")) (HasBadLine 3) tt refl;
}
