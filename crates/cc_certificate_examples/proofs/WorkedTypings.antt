-- Certificates of each rule of typing, with what is found of them: one that is valid, and for each condition of the
-- rule one in which it alone does not hold.
use Rattle.std.proofs.Common.{refl, codes, ◌++◌}
use Rattle.cc_certificate_examples.specs.TypingCertificates as example
use Rattle.cc_certificate_examples.proofs.ComputedAnswers.{says}
use Rattle.cc_certificate_examples.proofs.ComputedLines.{line_computing}

pub variables_and_literals : example.VariablesAndLiterals
unfolding line_computing
variables_and_literals = record {
  variable =
      says 60 (codes "cert 1\nbind x: Int\nterm x\n1 t-var [] : Int^{x}\n")
      (codes "valid Int^{x}") refl refl;
  variable_of_a_device =
      says 60 (codes "cert 1\nbind out: Console^{cap}\nterm out\n1 t-var [] : Console^{out}\n")
      (codes "valid Console^{out}") refl refl;
  declared_set =
      says 60 (codes "cert 1\nbind out: Console^{cap}\nterm out\n1 t-var [] : Console^{cap}\n")
      (codes "bad node 1") refl refl;
  another_shape =
      says 60 (codes "cert 1\nbind x: Int\nterm x\n1 t-var [] : Bool^{x}\n")
      (codes "bad node 1") refl refl;
  another_variable =
      says 60 (codes "cert 1\nbind x: Int\nbind y: Int\nterm x\n1 t-var [] : Int^{y}\n")
      (codes "bad node 1") refl refl;
  two_variables =
      says 60 (codes "cert 1\nbind x: Int\nbind y: Int\nterm x\n1 t-var [] : Int^{x, y}\n")
      (codes "bad node 1") refl refl;
  older_variable =
      says 60 (codes "cert 1\nbind x: Int\nbind y: Bool\nterm x\n1 t-var [] : Int^{x}\n")
      (codes "valid Int^{x}") refl refl;
  unit_value =
      says 60 (codes "cert 1\nterm unit\n1 t-lit [] : Unit\n")
      (codes "valid Unit") refl refl;
  truth =
      says 60 (codes "cert 1\nterm true\n1 t-lit [] : Bool\n")
      (codes "valid Bool") refl refl;
  falsehood =
      says 60 (codes "cert 1\nterm false\n1 t-lit [] : Bool\n")
      (codes "valid Bool") refl refl;
  number =
      says 60 (codes "cert 1\nterm 0\n1 t-lit [] : Int\n")
      (codes "valid Int") refl refl;
  text =
      says 60 (codes "cert 1\nterm \"\"\n1 t-lit [] : Str\n")
      (codes "valid Str") refl refl;
  truth_is_no_number =
      says 60 (codes "cert 1\nterm true\n1 t-lit [] : Int\n")
      (codes "bad node 1") refl refl;
  literal_that_captures =
      says 60 (codes "cert 1\nterm 1\n1 t-lit [] : Int^{cap}\n")
      (codes "bad node 1") refl refl;
}

pub functions : example.Functions
unfolding line_computing
functions = record {
  of_its_parameter =
      says 60 (
      codes "cert 1\nterm fun (_0: Int) => _0\n1 t-var [] : Int^{_0}\n"
      ++ codes "2 t-abs [1] : (_0: Int) -> Int^{_0}\n")
      (codes "valid (_0: Int) -> Int^{_0}") refl refl;
  of_a_device =
      says 60 (
      codes "cert 1\nbind out: Console^{cap}\nterm fun (_0: Int) => out\n1 t-var [] : Console^{out}\n"
      ++ codes "2 t-abs [1] : ((_0: Int) -> Console^{out})^{out}\n")
      (codes "valid ((_0: Int) -> Console^{out})^{out}") refl refl;
  that_hides_a_device =
      says 60 (
      codes "cert 1\nbind out: Console^{cap}\nterm fun (_0: Int) => out\n1 t-var [] : Console^{out}\n"
      ++ codes "2 t-abs [1] : (_0: Int) -> Console^{out}\n")
      (codes "bad node 2") refl refl;
  that_captures_too_much =
      says 60 (
      codes "cert 1\nbind out: Console^{cap}\nterm fun (_0: Int) => _0\n1 t-var [] : Int^{_0}\n"
      ++ codes "2 t-abs [1] : ((_0: Int) -> Int^{_0})^{out}\n")
      (codes "bad node 2") refl refl;
  of_another_parameter =
      says 60 (
      codes "cert 1\nterm fun (_0: Int) => _0\n1 t-var [] : Int^{_0}\n"
      ++ codes "2 t-abs [1] : (_0: Int^{cap}) -> Int^{_0}\n")
      (codes "bad node 2") refl refl;
  of_another_result =
      says 60 (
      codes "cert 1\nbind x: Int\nterm fun (_0: Int) => x\n1 t-var [] : Int^{x}\n"
      ++ codes "2 t-abs [1] : ((_0: Int) -> Int)^{x}\n")
      (codes "bad node 2") refl refl;
  in_a_function =
      says 60 (
      codes "cert 1\nterm fun (_0: Unit) => fun (_1: Int) => _0\n1 t-var [] : Unit^{_0}\n"
      ++ codes "2 t-abs [1] : ((_1: Int) -> Unit^{_0})^{_0}\n"
      ++ codes "3 t-abs [2] : (_0: Unit) -> ((_1: Int) -> Unit^{_0})^{_0}\n")
      (codes "valid (_0: Unit) -> ((_1: Int) -> Unit^{_0})^{_0}") refl refl;
  of_a_shape =
      says 60 (
      codes "cert 1\nterm fun [_T0 <: Int] => fun (_1: _T0) => _1\n1 t-var [] : _T0^{_1}\n"
      ++ codes "2 t-abs [1] : (_1: _T0) -> _T0^{_1}\n3 t-tabs [2] : [_T0 <: Int] -> (_1: _T0) -> _T0^{_1}\n")
      (codes "valid [_T0 <: Int] -> (_1: _T0) -> _T0^{_1}") refl refl;
  of_another_bound =
      says 60 (codes "cert 1\nterm fun [_T0 <: Int] => 1\n1 t-lit [] : Int\n2 t-tabs [1] : [_T0 <: Any] -> Int\n")
      (codes "bad node 2") refl refl;
  of_a_shape_and_a_device =
      says 60 (
      codes "cert 1\nbind out: Console^{cap}\nterm fun [_T0 <: Any] => out\n1 t-var [] : Console^{out}\n"
      ++ codes "2 t-tabs [1] : ([_T0 <: Any] -> Console^{out})^{out}\n")
      (codes "valid ([_T0 <: Any] -> Console^{out})^{out}") refl refl;
  of_a_shape_that_hides_a_device =
      says 60 (
      codes "cert 1\nbind out: Console^{cap}\nterm fun [_T0 <: Any] => out\n1 t-var [] : Console^{out}\n"
      ++ codes "2 t-tabs [1] : [_T0 <: Any] -> Console^{out}\n")
      (codes "bad node 2") refl refl;
}

pub applications : example.Applications
unfolding line_computing
applications = record {
  whole =
      says 60 (
      codes "cert 1\nbind x: Int\nbind f: (_0: Int^{x}) -> Box[Int^{_0}]^{_0}\nterm f(x)\n"
      ++ codes "1 t-var [] : ((_0: Int^{x}) -> Box[Int^{_0}]^{_0})^{f}\n2 t-var [] : Int^{x}\n"
      ++ codes "3 t-app [1 2] : Box[Int^{x}]^{x}\n")
      (codes "valid Box[Int^{x}]^{x}") refl refl;
  argument_with_a_set_more =
      says 60 (
      codes "cert 1\nbind x: Int\nbind f: (_0: Int) -> Int\nterm f(x)\n"
      ++ codes "1 t-var [] : ((_0: Int) -> Int)^{f}\n2 t-var [] : Int^{x}\n3 t-app [1 2] : Int\n")
      (codes "bad node 3") refl refl;
  argument_of_another_shape =
      says 60 (
      codes "cert 1\nbind x: Int\nbind f: (_0: Any^{x}) -> Int\nterm f(x)\n"
      ++ codes "1 t-var [] : ((_0: Any^{x}) -> Int)^{f}\n2 t-var [] : Int^{x}\n3 t-app [1 2] : Int\n")
      (codes "bad node 3") refl refl;
  result_without_the_argument =
      says 60 (
      codes "cert 1\nbind x: Int\nbind f: (_0: Int^{x}) -> Int^{_0}\nterm f(x)\n"
      ++ codes "1 t-var [] : ((_0: Int^{x}) -> Int^{_0})^{f}\n2 t-var [] : Int^{x}\n3 t-app [1 2] : Int\n")
      (codes "bad node 3") refl refl;
  of_no_function =
      says 60 (
      codes "cert 1\nbind x: Int\nterm x(x)\n1 t-var [] : Int^{x}\n2 t-var [] : Int^{x}\n"
      ++ codes "3 t-app [1 2] : Int\n")
      (codes "bad node 3") refl refl;
  to_a_shape =
      says 60 (
      codes "cert 1\nbind f: [_T0 <: Any] -> Box[_T0]\nterm f[Int]\n"
      ++ codes "1 t-var [] : ([_T0 <: Any] -> Box[_T0])^{f}\n2 top [] Int <: Any\n"
      ++ codes "3 t-tapp [1 2] : Box[Int]\n")
      (codes "valid Box[Int]") refl refl;
  comparison_of_another_shape =
      says 60 (
      codes "cert 1\nbind f: [_T0 <: Any] -> Box[_T0]\nterm f[Int]\n"
      ++ codes "1 t-var [] : ([_T0 <: Any] -> Box[_T0])^{f}\n2 top [] Bool <: Any\n"
      ++ codes "3 t-tapp [1 2] : Box[Int]\n")
      (codes "bad node 3") refl refl;
  comparison_with_another_bound =
      says 60 (
      codes "cert 1\nbind f: [_T0 <: Any] -> Box[_T0]\nterm f[Int]\n"
      ++ codes "1 t-var [] : ([_T0 <: Any] -> Box[_T0])^{f}\n2 refl [] Int <: Int\n"
      ++ codes "3 t-tapp [1 2] : Box[Int]\n")
      (codes "bad node 3") refl refl;
  result_of_another_shape =
      says 60 (
      codes "cert 1\nbind f: [_T0 <: Any] -> Box[_T0]\nterm f[Int]\n"
      ++ codes "1 t-var [] : ([_T0 <: Any] -> Box[_T0])^{f}\n2 top [] Int <: Any\n"
      ++ codes "3 t-tapp [1 2] : Box[Any]\n")
      (codes "bad node 3") refl refl;
  of_no_type_function =
      says 60 (
      codes "cert 1\nbind x: Int\nterm x[Int]\n1 t-var [] : Int^{x}\n2 top [] Int <: Any\n"
      ++ codes "3 t-tapp [1 2] : Int\n")
      (codes "bad node 3") refl refl;
}

pub boxes : example.Boxes
unfolding line_computing
boxes = record {
  of_a_variable =
      says 60 (codes "cert 1\nbind x: Int\nterm box x\n1 t-var [] : Int^{x}\n2 t-box [1] : Box[Int^{x}]\n")
      (codes "valid Box[Int^{x}]") refl refl;
  that_captures =
      says 60 (codes "cert 1\nbind x: Int\nterm box x\n1 t-var [] : Int^{x}\n2 t-box [1] : Box[Int^{x}]^{x}\n")
      (codes "bad node 2") refl refl;
  of_another_content =
      says 60 (codes "cert 1\nbind x: Int\nterm box x\n1 t-var [] : Int^{x}\n2 t-box [1] : Box[Int]\n")
      (codes "bad node 2") refl refl;
  of_the_universal_capability =
      says 60 (
      codes "cert 1\nbind out: Console^{cap}\nterm box out\n1 t-var [] : Console^{out}\n"
      ++ codes "2 elem [] {cap} <: {cap}\n3 set [2] {cap} <: {cap}\n4 var [3] {out} <: {cap}\n"
      ++ codes "5 set [4] {out} <: {cap}\n6 refl [] Console <: Console\n"
      ++ codes "7 capt [5 6] Console^{out} <: Console^{cap}\n8 t-sub [1 7] : Console^{cap}\n"
      ++ codes "9 t-box [8] : Box[Console^{cap}]\n")
      (codes "bad node 9") refl refl;
  opened =
      says 60 (
      codes "cert 1\nbind x: Int\nbind b: Box[Int^{x}]\nterm unbox {x} b\n1 t-var [] : Box[Int^{x}]^{b}\n"
      ++ codes "2 t-unbox [1] : Int^{x}\n")
      (codes "valid Int^{x}") refl refl;
  opened_with_nothing =
      says 60 (codes "cert 1\nbind b: Box[Int]\nterm unbox {} b\n1 t-var [] : Box[Int]^{b}\n2 t-unbox [1] : Int\n")
      (codes "valid Int") refl refl;
  opened_under_another_set =
      says 60 (
      codes "cert 1\nbind x: Int\nbind b: Box[Int^{x}]\nterm unbox {} b\n1 t-var [] : Box[Int^{x}]^{b}\n"
      ++ codes "2 t-unbox [1] : Int\n")
      (codes "bad node 2") refl refl;
  opened_under_a_set_more =
      says 60 (
      codes "cert 1\nbind x: Int\nbind b: Box[Int]\nterm unbox {x} b\n1 t-var [] : Box[Int]^{b}\n"
      ++ codes "2 t-unbox [1] : Int^{x}\n")
      (codes "bad node 2") refl refl;
  opened_as_another_type =
      says 60 (
      codes "cert 1\nbind x: Int\nbind b: Box[Int^{x}]\nterm unbox {x} b\n1 t-var [] : Box[Int^{x}]^{b}\n"
      ++ codes "2 t-unbox [1] : Int\n")
      (codes "bad node 2") refl refl;
  opened_under_the_universal_capability =
      says 60 (
      codes "cert 1\nbind b: Box[Console^{cap}]\nterm unbox {cap} b\n"
      ++ codes "1 t-var [] : Box[Console^{cap}]^{b}\n2 t-unbox [1] : Console^{cap}\n")
      (codes "bad node 2") refl refl;
  that_is_none =
      says 60 (codes "cert 1\nbind b: Int\nterm unbox {} b\n1 t-var [] : Int^{b}\n2 t-unbox [1] : Int\n")
      (codes "bad node 2") refl refl;
}

pub lets : example.Lets
unfolding line_computing
lets = record {
  with_no_type =
      says 60 (codes "cert 1\nterm let _0 = 1 in 2\n1 t-lit [] : Int\n2 t-lit [] : Int\n3 t-let [1 2] : Int\n")
      (codes "valid Int") refl refl;
  with_a_type =
      says 60 (
      codes "cert 1\nbind x: Int\nterm let _0: Int^{x} = x in 2\n1 t-var [] : Int^{x}\n2 t-lit [] : Int\n"
      ++ codes "3 t-let [1 2] : Int\n")
      (codes "valid Int") refl refl;
  with_another_set =
      says 60 (
      codes "cert 1\nbind x: Int\nterm let _0: Int = x in 2\n1 t-var [] : Int^{x}\n2 t-lit [] : Int\n"
      ++ codes "3 t-let [1 2] : Int\n")
      (codes "bad node 3") refl refl;
  with_another_shape =
      says 60 (codes "cert 1\nterm let _0: Any = 1 in 2\n1 t-lit [] : Int\n2 t-lit [] : Int\n3 t-let [1 2] : Int\n")
      (codes "bad node 3") refl refl;
  of_another_type =
      says 60 (codes "cert 1\nterm let _0 = 1 in 2\n1 t-lit [] : Int\n2 t-lit [] : Int\n3 t-let [1 2] : Any\n")
      (codes "bad node 3") refl refl;
  whose_body_is_its_variable =
      says 60 (
      codes "cert 1\nbind x: Int\nterm let _0 = x in _0\n1 t-var [] : Int^{x}\n2 t-var [] : Int^{_0}\n"
      ++ codes "3 elem [] {x} <: {x}\n4 set [3] {x} <: {x}\n5 var [4] {_0} <: {x}\n6 set [5] {_0} <: {x}\n"
      ++ codes "7 refl [] Int <: Int\n8 capt [6 7] Int^{_0} <: Int^{x}\n9 t-sub [2 8] : Int^{x}\n"
      ++ codes "10 t-let [1 9] : Int^{x}\n")
      (codes "valid Int^{x}") refl refl;
  whose_right_side_is_a_function =
      says 60 (
      codes "cert 1\nterm let _0 = fun (_0: Int) => 1 in 2\n1 t-lit [] : Int\n"
      ++ codes "2 t-abs [1] : (_0: Int) -> Int\n3 t-lit [] : Int\n4 t-let [2 3] : Int\n")
      (codes "valid Int") refl refl;
  that_names_its_variable =
      says 60 (
      codes "cert 1\nterm let _0 = 1 in _0\n1 t-lit [] : Int\n2 t-var [] : Int^{_0}\n"
      ++ codes "3 t-let [1 2] : Int^{_0}\n")
      (codes "bad node 3") refl refl;
  whose_variable_has_another_shape =
      says 60 (
      codes "cert 1\nterm let _0 = 1 in _0\n1 t-lit [] : Int\n2 t-var [] : Bool^{_0}\n"
      ++ codes "3 t-let [1 2] : Bool\n")
      (codes "bad node 2") refl refl;
}

pub operators : example.Operators
unfolding line_computing
operators = record {
  sum =
      says 60 (
      codes "cert 1\nbind x: Int\nbind y: Int\nterm x + y\n1 t-var [] : Int^{x}\n2 t-var [] : Int^{y}\n"
      ++ codes "3 t-prim [1 2] : Int\n")
      (codes "valid Int") refl refl;
  difference =
      says 60 (
      codes "cert 1\nbind x: Int\nbind y: Int\nterm x - y\n1 t-var [] : Int^{x}\n2 t-var [] : Int^{y}\n"
      ++ codes "3 t-prim [1 2] : Int\n")
      (codes "valid Int") refl refl;
  product =
      says 60 (
      codes "cert 1\nbind x: Int\nbind y: Int\nterm x * y\n1 t-var [] : Int^{x}\n2 t-var [] : Int^{y}\n"
      ++ codes "3 t-prim [1 2] : Int\n")
      (codes "valid Int") refl refl;
  less =
      says 60 (
      codes "cert 1\nbind x: Int\nbind y: Int\nterm x < y\n1 t-var [] : Int^{x}\n2 t-var [] : Int^{y}\n"
      ++ codes "3 t-prim [1 2] : Bool\n")
      (codes "valid Bool") refl refl;
  equal =
      says 60 (
      codes "cert 1\nbind x: Int\nbind y: Int\nterm x == y\n1 t-var [] : Int^{x}\n2 t-var [] : Int^{y}\n"
      ++ codes "3 t-prim [1 2] : Bool\n")
      (codes "valid Bool") refl refl;
  left_side_is_no_number =
      says 60 (
      codes "cert 1\nbind b: Bool\nbind y: Int\nterm b == y\n1 t-var [] : Bool^{b}\n"
      ++ codes "2 t-var [] : Int^{y}\n3 t-prim [1 2] : Bool\n")
      (codes "bad node 3") refl refl;
  right_side_is_no_number =
      says 60 (
      codes "cert 1\nbind x: Int\nbind b: Bool\nterm x == b\n1 t-var [] : Int^{x}\n"
      ++ codes "2 t-var [] : Bool^{b}\n3 t-prim [1 2] : Bool\n")
      (codes "bad node 3") refl refl;
  comparison_gives_no_number =
      says 60 (
      codes "cert 1\nbind x: Int\nterm x < x\n1 t-var [] : Int^{x}\n2 t-var [] : Int^{x}\n"
      ++ codes "3 t-prim [1 2] : Int\n")
      (codes "bad node 3") refl refl;
  sum_captures_nothing =
      says 60 (
      codes "cert 1\nbind x: Int\nterm x + x\n1 t-var [] : Int^{x}\n2 t-var [] : Int^{x}\n"
      ++ codes "3 t-prim [1 2] : Int^{x}\n")
      (codes "bad node 3") refl refl;
  sides_in_order =
      says 60 (
      codes "cert 1\nbind x: Int\nbind y: Int\nterm x - y\n1 t-var [] : Int^{y}\n2 t-var [] : Int^{x}\n"
      ++ codes "3 t-prim [1 2] : Int\n")
      (codes "bad node 1") refl refl;
}

pub choices : example.Choices
unfolding line_computing
choices = record {
  of_numbers =
      says 60 (
      codes "cert 1\nbind b: Bool\nterm if [Int] b then 1 else 2\n1 t-var [] : Bool^{b}\n"
      ++ codes "2 t-lit [] : Int\n3 t-lit [] : Int\n4 t-if [1 2 3] : Int\n")
      (codes "valid Int") refl refl;
  of_a_type_with_a_set =
      says 60 (
      codes "cert 1\nbind b: Bool\nbind x: Int\nterm if [Int^{x}] b then x else x\n"
      ++ codes "1 t-var [] : Bool^{b}\n2 t-var [] : Int^{x}\n3 t-var [] : Int^{x}\n"
      ++ codes "4 t-if [1 2 3] : Int^{x}\n")
      (codes "valid Int^{x}") refl refl;
  by_a_number =
      says 60 (
      codes "cert 1\nbind x: Int\nterm if [Int] x then 1 else 2\n1 t-var [] : Int^{x}\n2 t-lit [] : Int\n"
      ++ codes "3 t-lit [] : Int\n4 t-if [1 2 3] : Int\n")
      (codes "bad node 4") refl refl;
  first_branch_captures =
      says 60 (
      codes "cert 1\nbind b: Bool\nbind x: Int\nterm if [Int] b then x else 1\n1 t-var [] : Bool^{b}\n"
      ++ codes "2 t-var [] : Int^{x}\n3 t-lit [] : Int\n4 t-if [1 2 3] : Int\n")
      (codes "bad node 4") refl refl;
  second_branch_captures =
      says 60 (
      codes "cert 1\nbind b: Bool\nbind x: Int\nterm if [Int] b then 1 else x\n1 t-var [] : Bool^{b}\n"
      ++ codes "2 t-lit [] : Int\n3 t-var [] : Int^{x}\n4 t-if [1 2 3] : Int\n")
      (codes "bad node 4") refl refl;
  first_branch_has_another_shape =
      says 60 (
      codes "cert 1\nbind b: Bool\nterm if [Int] b then unit else 1\n1 t-var [] : Bool^{b}\n"
      ++ codes "2 t-lit [] : Unit\n3 t-lit [] : Int\n4 t-if [1 2 3] : Int\n")
      (codes "bad node 4") refl refl;
  second_branch_has_another_shape =
      says 60 (
      codes "cert 1\nbind b: Bool\nterm if [Int] b then 1 else unit\n1 t-var [] : Bool^{b}\n"
      ++ codes "2 t-lit [] : Int\n3 t-lit [] : Unit\n4 t-if [1 2 3] : Int\n")
      (codes "bad node 4") refl refl;
  of_another_type =
      says 60 (
      codes "cert 1\nbind b: Bool\nbind x: Int\nterm if [Int^{x}] b then x else x\n"
      ++ codes "1 t-var [] : Bool^{b}\n2 t-var [] : Int^{x}\n3 t-var [] : Int^{x}\n4 t-if [1 2 3] : Int\n")
      (codes "bad node 4") refl refl;
  branches_in_order =
      says 60 (
      codes "cert 1\nbind b: Bool\nterm if [Int] b then 1 else unit\n1 t-var [] : Bool^{b}\n"
      ++ codes "2 t-lit [] : Unit\n3 t-lit [] : Int\n4 t-if [1 2 3] : Int\n")
      (codes "bad node 2") refl refl;
}

pub repetitions : example.Repetitions
unfolding line_computing
repetitions = record {
  of_a_function =
      says 60 (
      codes "cert 1\nbind n: Int\nbind f: (_0: Int) -> Unit\nterm repeat(n, f)\n1 t-var [] : Int^{n}\n"
      ++ codes "2 t-var [] : ((_0: Int) -> Unit)^{f}\n3 t-repeat [1 2] : Unit\n")
      (codes "valid Unit") refl refl;
  by_no_number =
      says 60 (
      codes "cert 1\nbind n: Bool\nbind f: (_0: Int) -> Unit\nterm repeat(n, f)\n1 t-var [] : Bool^{n}\n"
      ++ codes "2 t-var [] : ((_0: Int) -> Unit)^{f}\n3 t-repeat [1 2] : Unit\n")
      (codes "bad node 3") refl refl;
  of_another_parameter =
      says 60 (
      codes "cert 1\nbind n: Int\nbind f: (_0: Bool) -> Unit\nterm repeat(n, f)\n1 t-var [] : Int^{n}\n"
      ++ codes "2 t-var [] : ((_0: Bool) -> Unit)^{f}\n3 t-repeat [1 2] : Unit\n")
      (codes "bad node 3") refl refl;
  of_another_result =
      says 60 (
      codes "cert 1\nbind n: Int\nbind f: (_0: Int) -> Int\nterm repeat(n, f)\n1 t-var [] : Int^{n}\n"
      ++ codes "2 t-var [] : ((_0: Int) -> Int)^{f}\n3 t-repeat [1 2] : Unit\n")
      (codes "bad node 3") refl refl;
  of_a_parameter_that_captures =
      says 60 (
      codes "cert 1\nbind n: Int\nbind f: (_0: Int^{cap}) -> Unit\nterm repeat(n, f)\n"
      ++ codes "1 t-var [] : Int^{n}\n2 t-var [] : ((_0: Int^{cap}) -> Unit)^{f}\n3 t-repeat [1 2] : Unit\n")
      (codes "bad node 3") refl refl;
  of_a_result_that_captures =
      says 60 (
      codes "cert 1\nbind n: Int\nbind f: (_0: Int) -> Unit^{_0}\nterm repeat(n, f)\n"
      ++ codes "1 t-var [] : Int^{n}\n2 t-var [] : ((_0: Int) -> Unit^{_0})^{f}\n3 t-repeat [1 2] : Unit\n")
      (codes "bad node 3") refl refl;
  gives_no_number =
      says 60 (
      codes "cert 1\nbind n: Int\nbind f: (_0: Int) -> Unit\nterm repeat(n, f)\n1 t-var [] : Int^{n}\n"
      ++ codes "2 t-var [] : ((_0: Int) -> Unit)^{f}\n3 t-repeat [1 2] : Int\n")
      (codes "bad node 3") refl refl;
  gives_nothing_captured =
      says 60 (
      codes "cert 1\nbind n: Int\nbind f: (_0: Int) -> Unit\nterm repeat(n, f)\n1 t-var [] : Int^{n}\n"
      ++ codes "2 t-var [] : ((_0: Int) -> Unit)^{f}\n3 t-repeat [1 2] : Unit^{f}\n")
      (codes "bad node 3") refl refl;
}

pub operations : example.Operations
unfolding line_computing
operations = record {
  printing =
      says 60 (
      codes "cert 1\nbind d: Console^{cap}\nbind a: Int\nterm d.print(a)\n1 t-var [] : Console^{d}\n"
      ++ codes "2 t-var [] : Int^{a}\n3 t-op [1 2] : Unit\n")
      (codes "valid Unit") refl refl;
  saying =
      says 60 (
      codes "cert 1\nbind d: Console^{cap}\nbind a: Str\nterm d.say(a)\n1 t-var [] : Console^{d}\n"
      ++ codes "2 t-var [] : Str^{a}\n3 t-op [1 2] : Unit\n")
      (codes "valid Unit") refl refl;
  reading =
      says 60 (codes "cert 1\nbind d: File^{cap}\nterm d.read()\n1 t-var [] : File^{d}\n2 t-op [1] : Int\n")
      (codes "valid Int") refl refl;
  writing =
      says 60 (
      codes "cert 1\nbind d: File^{cap}\nbind a: Int\nterm d.write(a)\n1 t-var [] : File^{d}\n"
      ++ codes "2 t-var [] : Int^{a}\n3 t-op [1 2] : Unit\n")
      (codes "valid Unit") refl refl;
  ticking =
      says 60 (codes "cert 1\nbind d: Counter^{cap}\nterm d.tick()\n1 t-var [] : Counter^{d}\n2 t-op [1] : Int\n")
      (codes "valid Int") refl refl;
  printing_on_another_device =
      says 60 (
      codes "cert 1\nbind d: File^{cap}\nbind a: Int\nterm d.print(a)\n1 t-var [] : File^{d}\n"
      ++ codes "2 t-var [] : Int^{a}\n3 t-op [1 2] : Unit\n")
      (codes "bad node 3") refl refl;
  saying_on_another_device =
      says 60 (
      codes "cert 1\nbind d: File^{cap}\nbind a: Str\nterm d.say(a)\n1 t-var [] : File^{d}\n"
      ++ codes "2 t-var [] : Str^{a}\n3 t-op [1 2] : Unit\n")
      (codes "bad node 3") refl refl;
  reading_on_another_device =
      says 60 (codes "cert 1\nbind d: Counter^{cap}\nterm d.read()\n1 t-var [] : Counter^{d}\n2 t-op [1] : Int\n")
      (codes "bad node 2") refl refl;
  writing_on_another_device =
      says 60 (
      codes "cert 1\nbind d: Counter^{cap}\nbind a: Int\nterm d.write(a)\n1 t-var [] : Counter^{d}\n"
      ++ codes "2 t-var [] : Int^{a}\n3 t-op [1 2] : Unit\n")
      (codes "bad node 3") refl refl;
  ticking_on_another_device =
      says 60 (codes "cert 1\nbind d: Console^{cap}\nterm d.tick()\n1 t-var [] : Console^{d}\n2 t-op [1] : Int\n")
      (codes "bad node 2") refl refl;
  printing_another_argument =
      says 60 (
      codes "cert 1\nbind d: Console^{cap}\nbind a: Str\nterm d.print(a)\n1 t-var [] : Console^{d}\n"
      ++ codes "2 t-var [] : Str^{a}\n3 t-op [1 2] : Unit\n")
      (codes "bad node 3") refl refl;
  saying_another_argument =
      says 60 (
      codes "cert 1\nbind d: Console^{cap}\nbind a: Int\nterm d.say(a)\n1 t-var [] : Console^{d}\n"
      ++ codes "2 t-var [] : Int^{a}\n3 t-op [1 2] : Unit\n")
      (codes "bad node 3") refl refl;
  writing_another_argument =
      says 60 (
      codes "cert 1\nbind d: File^{cap}\nbind a: Str\nterm d.write(a)\n1 t-var [] : File^{d}\n"
      ++ codes "2 t-var [] : Str^{a}\n3 t-op [1 2] : Unit\n")
      (codes "bad node 3") refl refl;
  printing_with_another_answer =
      says 60 (
      codes "cert 1\nbind d: Console^{cap}\nbind a: Int\nterm d.print(a)\n1 t-var [] : Console^{d}\n"
      ++ codes "2 t-var [] : Int^{a}\n3 t-op [1 2] : Bool\n")
      (codes "bad node 3") refl refl;
  saying_with_another_answer =
      says 60 (
      codes "cert 1\nbind d: Console^{cap}\nbind a: Str\nterm d.say(a)\n1 t-var [] : Console^{d}\n"
      ++ codes "2 t-var [] : Str^{a}\n3 t-op [1 2] : Bool\n")
      (codes "bad node 3") refl refl;
  reading_with_another_answer =
      says 60 (codes "cert 1\nbind d: File^{cap}\nterm d.read()\n1 t-var [] : File^{d}\n2 t-op [1] : Bool\n")
      (codes "bad node 2") refl refl;
  writing_with_another_answer =
      says 60 (
      codes "cert 1\nbind d: File^{cap}\nbind a: Int\nterm d.write(a)\n1 t-var [] : File^{d}\n"
      ++ codes "2 t-var [] : Int^{a}\n3 t-op [1 2] : Bool\n")
      (codes "bad node 3") refl refl;
  ticking_with_another_answer =
      says 60 (codes "cert 1\nbind d: Counter^{cap}\nterm d.tick()\n1 t-var [] : Counter^{d}\n2 t-op [1] : Bool\n")
      (codes "bad node 2") refl refl;
  answer_captures_nothing =
      says 60 (
      codes "cert 1\nbind d: Counter^{cap}\nterm d.tick()\n1 t-var [] : Counter^{d}\n"
      ++ codes "2 t-op [1] : Int^{d}\n")
      (codes "bad node 2") refl refl;
}

pub boundaries : example.Boundaries
unfolding line_computing
boundaries = record {
  of_a_number =
      says 60 (codes "cert 1\nterm boundary [Int] _0 => 1\n1 t-lit [] : Int\n2 t-boundary [1] : Int\n")
      (codes "valid Int") refl refl;
  whose_body_captures =
      says 60 (
      codes "cert 1\nbind x: Int\nterm boundary [Int] _0 => x\n1 t-var [] : Int^{x}\n"
      ++ codes "2 t-boundary [1] : Int\n")
      (codes "bad node 2") refl refl;
  whose_body_has_another_shape =
      says 60 (codes "cert 1\nterm boundary [Any] _0 => 1\n1 t-lit [] : Int\n2 t-boundary [1] : Any\n")
      (codes "bad node 2") refl refl;
  that_captures =
      says 60 (codes "cert 1\nterm boundary [Int] _0 => 1\n1 t-lit [] : Int\n2 t-boundary [1] : Int^{cap}\n")
      (codes "bad node 2") refl refl;
  that_is_left =
      says 60 (
      codes "cert 1\nbind x: Int\nterm boundary [Int] _0 => exit [Int] (_0, x)\n"
      ++ codes "1 t-var [] : Exit[Int]^{_0}\n2 t-var [] : Int^{x}\n3 set [] {} <: {}\n4 var [3] {x} <: {}\n"
      ++ codes "5 set [4] {x} <: {}\n6 refl [] Int <: Int\n7 capt [5 6] Int^{x} <: Int\n"
      ++ codes "8 t-sub [2 7] : Int\n9 t-exit [1 8] : Int\n10 t-boundary [9] : Int\n")
      (codes "valid Int") refl refl;
  that_its_exit_leaves =
      says 60 (
      codes "cert 1\nterm boundary [Any] _0 => _0\n1 t-var [] : Exit[Any]^{_0}\n2 set [] {} <: {}\n"
      ++ codes "3 var [2] {_0} <: {}\n4 set [3] {_0} <: {}\n5 top [] Exit[Any] <: Any\n"
      ++ codes "6 capt [4 5] Exit[Any]^{_0} <: Any\n7 t-sub [1 6] : Any\n8 t-boundary [7] : Any\n")
      (codes "bad node 3") refl refl;
  whose_exit_is_widened =
      says 60 (
      codes "cert 1\nterm boundary [Int] _0 => let _1: Exit[Int]^{cap} = _0 in 1\n"
      ++ codes "1 t-var [] : Exit[Int]^{_0}\n2 elem [] {cap} <: {cap}\n3 set [2] {cap} <: {cap}\n"
      ++ codes "4 var [3] {_0} <: {cap}\n5 set [4] {_0} <: {cap}\n6 refl [] Exit[Int] <: Exit[Int]\n"
      ++ codes "7 capt [5 6] Exit[Int]^{_0} <: Exit[Int]^{cap}\n8 t-sub [1 7] : Exit[Int]^{cap}\n"
      ++ codes "9 t-lit [] : Int\n10 t-let [8 9] : Int\n11 t-boundary [10] : Int\n")
      (codes "valid Int") refl refl;
  left_as_another_type =
      says 60 (
      codes "cert 1\nbind e: Exit[Unit]\nbind u: Unit\nbind x: Int\nterm exit [Bool^{x}] (e, u)\n"
      ++ codes "1 t-var [] : Exit[Unit]^{e}\n2 t-var [] : Unit^{u}\n3 set [] {} <: {}\n4 var [3] {u} <: {}\n"
      ++ codes "5 set [4] {u} <: {}\n6 refl [] Unit <: Unit\n7 capt [5 6] Unit^{u} <: Unit\n"
      ++ codes "8 t-sub [2 7] : Unit\n9 t-exit [1 8] : Bool^{x}\n")
      (codes "valid Bool^{x}") refl refl;
  left_with_what_captures =
      says 60 (
      codes "cert 1\nbind e: Exit[Unit]\nbind u: Unit\nterm exit [Bool] (e, u)\n"
      ++ codes "1 t-var [] : Exit[Unit]^{e}\n2 t-var [] : Unit^{u}\n3 t-exit [1 2] : Bool\n")
      (codes "bad node 3") refl refl;
  left_with_another_shape =
      says 60 (
      codes "cert 1\nbind e: Exit[Unit]\nbind u: Int\nterm exit [Bool] (e, u)\n"
      ++ codes "1 t-var [] : Exit[Unit]^{e}\n2 t-var [] : Int^{u}\n3 set [] {} <: {}\n4 var [3] {u} <: {}\n"
      ++ codes "5 set [4] {u} <: {}\n6 refl [] Int <: Int\n7 capt [5 6] Int^{u} <: Int\n"
      ++ codes "8 t-sub [2 7] : Int\n9 t-exit [1 8] : Bool\n")
      (codes "bad node 9") refl refl;
  left_as_what_is_not_written =
      says 60 (
      codes "cert 1\nbind e: Exit[Unit]\nbind u: Unit\nterm exit [Bool] (e, u)\n"
      ++ codes "1 t-var [] : Exit[Unit]^{e}\n2 t-var [] : Unit^{u}\n3 set [] {} <: {}\n4 var [3] {u} <: {}\n"
      ++ codes "5 set [4] {u} <: {}\n6 refl [] Unit <: Unit\n7 capt [5 6] Unit^{u} <: Unit\n"
      ++ codes "8 t-sub [2 7] : Unit\n9 t-exit [1 8] : Unit\n")
      (codes "bad node 9") refl refl;
  left_by_no_exit =
      says 60 (
      codes "cert 1\nbind e: Unit\nterm exit [Bool] (e, e)\n1 t-var [] : Unit^{e}\n"
      ++ codes "2 t-var [] : Unit^{e}\n3 t-exit [1 2] : Bool\n")
      (codes "bad node 3") refl refl;
}

pub widening : example.Widening
unfolding line_computing
widening = record {
  to_the_greatest_shape =
      says 60 (
      codes "cert 1\nterm 1\n1 t-lit [] : Int\n2 set [] {} <: {}\n3 top [] Int <: Any\n"
      ++ codes "4 capt [2 3] Int <: Any\n5 t-sub [1 4] : Any\n")
      (codes "valid Any") refl refl;
  from_another_type =
      says 60 (
      codes "cert 1\nterm 1\n1 t-lit [] : Int\n2 set [] {} <: {}\n3 top [] Bool <: Any\n"
      ++ codes "4 capt [2 3] Bool <: Any\n5 t-sub [1 4] : Any\n")
      (codes "bad node 5") refl refl;
  from_another_set =
      says 60 (
      codes "cert 1\nbind x: Int\nterm x\n1 t-var [] : Int^{x}\n2 set [] {} <: {}\n3 refl [] Int <: Int\n"
      ++ codes "4 capt [2 3] Int <: Int\n5 t-sub [1 4] : Int\n")
      (codes "bad node 5") refl refl;
  to_what_is_not_claimed =
      says 60 (
      codes "cert 1\nterm 1\n1 t-lit [] : Int\n2 set [] {} <: {}\n3 top [] Int <: Any\n"
      ++ codes "4 capt [2 3] Int <: Any\n5 t-sub [1 4] : Int\n")
      (codes "bad node 5") refl refl;
  twice =
      says 60 (
      codes "cert 1\nterm 1\n1 t-lit [] : Int\n2 set [] {} <: {}\n3 refl [] Int <: Int\n"
      ++ codes "4 capt [2 3] Int <: Int\n5 t-sub [1 4] : Int\n6 set [] {} <: {}\n7 top [] Int <: Any\n"
      ++ codes "8 capt [6 7] Int <: Any\n9 t-sub [5 8] : Any\n")
      (codes "valid Any") refl refl;
}
