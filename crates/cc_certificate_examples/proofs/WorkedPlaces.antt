-- Certificates with what is found of them by the places of their nodes: which names may stand there, and which
-- numbers binders have.
use Rattle.std.proofs.Common.{refl, codes, ◌++◌}
use Rattle.cc_certificate_judging.specs.Answers.{HasBadLine}
use Rattle.cc_certificate_examples.specs.PlacedCertificates as example
use Rattle.cc_certificate_examples.proofs.ComputedAnswers.{found_in, says}
use Rattle.cc_certificate_examples.proofs.ComputedLines.{line_computing}

pub names_on_both_sides : example.NamesOnBothSides
unfolding line_computing
names_on_both_sides = record {
  left_set =
      says 60 (
      codes "cert 1\nbind x: Int\nterm x\n1 t-var [] : Int^{x}\n2 elem [] {} <: {}\n"
      ++ codes "3 var [2] {_0} <: {}\n4 var [3] {x} <: {}\n5 set [4] {x} <: {}\n6 refl [] Int <: Int\n"
      ++ codes "7 capt [5 6] Int^{x} <: Int\n8 t-sub [1 7] : Int\n")
      (codes "bad node 3") refl refl;
  right_set =
      says 60 (
      codes "cert 1\nbind x: Int\nterm x\n1 t-var [] : Int^{x}\n2 elem [] {} <: {}\n"
      ++ codes "3 var [2] {x} <: {_0}\n4 refl [] Int <: Int\n5 capt [3 4] Int^{x} <: Int^{x}\n"
      ++ codes "6 t-sub [1 5] : Int^{x}\n")
      (codes "bad node 3") refl refl;
  both_sets =
      says 60 (
      codes "cert 1\nterm 1\n1 t-lit [] : Int\n2 elem [] {_0} <: {_0}\n3 refl [] Int <: Int\n"
      ++ codes "4 capt [2 3] Int <: Int\n5 t-sub [1 4] : Int\n")
      (codes "bad node 2") refl refl;
  left_shape =
      says 60 (
      codes "cert 1\nterm 1\n1 t-lit [] : Int\n2 set [] {} <: {}\n3 top [] Box[Int^{_0}] <: Any\n"
      ++ codes "4 capt [2 3] Int <: Any\n5 t-sub [1 4] : Any\n")
      (codes "bad node 3") refl refl;
  right_shape =
      says 60 (
      codes "cert 1\nterm 1\n1 t-lit [] : Int\n2 set [] {} <: {}\n3 top [] Int <: Int\n"
      ++ codes "4 top [] Int <: Any\n5 tran [3 4] Int <: Box[Int^{_0}]\n6 capt [2 5] Int <: Any\n"
      ++ codes "7 t-sub [1 6] : Any\n")
      (codes "bad node 5") refl refl;
  both_shapes =
      says 60 (
      codes "cert 1\nterm 1\n1 t-lit [] : Int\n2 set [] {} <: {}\n3 refl [] _T0 <: _T0\n"
      ++ codes "4 capt [2 3] Int <: Any\n5 t-sub [1 4] : Any\n")
      (codes "bad node 3") refl refl;
  shape_of_a_left_type =
      says 60 (
      codes "cert 1\nterm 1\n1 t-lit [] : Int\n2 elem [] {} <: {}\n3 refl [] Int <: Int\n"
      ++ codes "4 capt [2 3] _T0 <: Int\n5 t-sub [1 4] : Int\n")
      (codes "bad node 4") refl refl;
  set_of_a_left_type =
      says 60 (
      codes "cert 1\nterm 1\n1 t-lit [] : Int\n2 elem [] {} <: {}\n3 refl [] Int <: Int\n"
      ++ codes "4 capt [2 3] Int^{_0} <: Int\n5 t-sub [1 4] : Int\n")
      (codes "bad node 4") refl refl;
  shape_of_a_right_type =
      says 60 (
      codes "cert 1\nterm 1\n1 t-lit [] : Int\n2 elem [] {} <: {}\n3 refl [] Int <: Int\n"
      ++ codes "4 capt [2 3] Int <: _T0\n5 t-sub [1 4] : Int\n")
      (codes "bad node 4") refl refl;
  set_of_a_right_type =
      says 60 (
      codes "cert 1\nterm 1\n1 t-lit [] : Int\n2 elem [] {} <: {}\n3 refl [] Int <: Int\n"
      ++ codes "4 capt [2 3] Int <: Int^{_0}\n5 t-sub [1 4] : Int\n")
      (codes "bad node 4") refl refl;
  shape_of_a_term =
      says 60 (
      codes "cert 1\nterm 1\n1 t-lit [] : Bool\n2 set [] {} <: {}\n3 refl [] Int <: Int\n"
      ++ codes "4 capt [2 3] Int <: Int\n5 t-sub [1 4] : _T0\n")
      (codes "bad node 5") refl refl;
  set_of_a_term =
      says 60 (
      codes "cert 1\nterm 1\n1 t-lit [] : Bool\n2 set [] {} <: {}\n3 refl [] Int <: Int\n"
      ++ codes "4 capt [2 3] Int <: Int\n5 t-sub [1 4] : Int^{_0}\n")
      (codes "bad node 5") refl refl;
}

pub kinds_of_names : example.KindsOfNames
unfolding line_computing
kinds_of_names = record {
  variable_of_terms_in_a_set =
      says 60 (
      codes "cert 1\nterm fun [_T0 <: Any] => fun (_1: Int) => 1\n1 t-lit [] : Int\n2 set [] {} <: {_1}\n"
      ++ codes "3 refl [] Int <: Int\n4 capt [2 3] Int <: Int^{_1}\n5 t-sub [1 4] : Int^{_1}\n"
      ++ codes "6 t-abs [5] : (_1: Int) -> Int^{_1}\n7 t-tabs [6] : [_T0 <: Any] -> (_1: Int) -> Int^{_1}\n")
      (codes "valid [_T0 <: Any] -> (_1: Int) -> Int^{_1}") refl refl;
  type_variable_in_a_set =
      says 60 (
      codes "cert 1\nterm fun [_T0 <: Any] => fun (_1: Int) => 1\n1 t-lit [] : Int\n2 set [] {} <: {_0}\n"
      ++ codes "3 refl [] Int <: Int\n4 capt [2 3] Int <: Int\n5 t-sub [1 4] : Int\n"
      ++ codes "6 t-abs [5] : (_1: Int) -> Int\n7 t-tabs [6] : [_T0 <: Any] -> (_1: Int) -> Int\n")
      (codes "bad node 2") refl refl;
  type_variable_beside_a_variable =
      says 60 (
      codes "cert 1\nterm fun [_T0 <: Any] => fun (_1: Int) => 1\n1 t-lit [] : Int\n"
      ++ codes "2 set [] {} <: {_0, _1}\n3 refl [] Int <: Int\n4 capt [2 3] Int <: Int\n"
      ++ codes "5 t-sub [1 4] : Int\n6 t-abs [5] : (_1: Int) -> Int\n"
      ++ codes "7 t-tabs [6] : [_T0 <: Any] -> (_1: Int) -> Int\n")
      (codes "bad node 2") refl refl;
  variable_of_terms_as_a_shape =
      says 60 (
      codes "cert 1\nterm fun [_T0 <: Any] => fun (_1: Int) => 1\n1 t-lit [] : Int\n2 set [] {} <: {}\n"
      ++ codes "3 refl [] Int <: Int\n4 top [] Box[_T1] <: Any\n5 tran [3 4] Int <: Any\n"
      ++ codes "6 capt [2 5] Int <: Any\n7 t-sub [1 6] : Any\n8 t-abs [7] : (_1: Int) -> Any\n"
      ++ codes "9 t-tabs [8] : [_T0 <: Any] -> (_1: Int) -> Any\n")
      (codes "bad node 4") refl refl;
  type_variable_as_a_shape =
      says 60 (
      codes "cert 1\nterm fun [_T0 <: Any] => fun (_1: Int) => 1\n1 t-lit [] : Int\n2 set [] {} <: {}\n"
      ++ codes "3 refl [] Int <: Int\n4 top [] Box[_T0] <: Any\n5 tran [3 4] Int <: Any\n"
      ++ codes "6 capt [2 5] Int <: Any\n7 t-sub [1 6] : Any\n8 t-abs [7] : (_1: Int) -> Any\n"
      ++ codes "9 t-tabs [8] : [_T0 <: Any] -> (_1: Int) -> Any\n")
      (codes "bad node 5") refl refl;
  type_variable_in_a_set_of_a_shape =
      says 60 (
      codes "cert 1\nterm fun [_T0 <: Any] => fun (_1: Int) => 1\n1 t-lit [] : Int\n2 set [] {} <: {}\n"
      ++ codes "3 refl [] Int <: Int\n4 top [] Box[Int^{_0}] <: Any\n5 tran [3 4] Int <: Any\n"
      ++ codes "6 capt [2 5] Int <: Any\n7 t-sub [1 6] : Any\n8 t-abs [7] : (_1: Int) -> Any\n"
      ++ codes "9 t-tabs [8] : [_T0 <: Any] -> (_1: Int) -> Any\n")
      (codes "bad node 4") refl refl;
  variable_in_a_set_of_a_shape =
      says 60 (
      codes "cert 1\nterm fun [_T0 <: Any] => fun (_1: Int) => 1\n1 t-lit [] : Int\n2 set [] {} <: {}\n"
      ++ codes "3 refl [] Int <: Int\n4 top [] Box[Int^{_1}] <: Any\n5 tran [3 4] Int <: Any\n"
      ++ codes "6 capt [2 5] Int <: Any\n7 t-sub [1 6] : Any\n8 t-abs [7] : (_1: Int) -> Any\n"
      ++ codes "9 t-tabs [8] : [_T0 <: Any] -> (_1: Int) -> Any\n")
      (codes "bad node 5") refl refl;
  set_of_a_parameter =
      says 60 (
      codes "cert 1\nterm fun [_T0 <: Any] => fun (_1: Int) => 1\n1 t-lit [] : Int\n2 set [] {} <: {}\n"
      ++ codes "3 refl [] Int <: Int\n4 top [] (_2: Int^{_0}) -> Int <: Any\n5 tran [3 4] Int <: Any\n"
      ++ codes "6 capt [2 5] Int <: Any\n7 t-sub [1 6] : Any\n8 t-abs [7] : (_1: Int) -> Any\n"
      ++ codes "9 t-tabs [8] : [_T0 <: Any] -> (_1: Int) -> Any\n")
      (codes "bad node 4") refl refl;
  set_of_a_result =
      says 60 (
      codes "cert 1\nterm fun [_T0 <: Any] => fun (_1: Int) => 1\n1 t-lit [] : Int\n2 set [] {} <: {}\n"
      ++ codes "3 refl [] Int <: Int\n4 top [] (_2: Int) -> Int^{_0} <: Any\n5 tran [3 4] Int <: Any\n"
      ++ codes "6 capt [2 5] Int <: Any\n7 t-sub [1 6] : Any\n8 t-abs [7] : (_1: Int) -> Any\n"
      ++ codes "9 t-tabs [8] : [_T0 <: Any] -> (_1: Int) -> Any\n")
      (codes "bad node 4") refl refl;
  parameter_in_a_set_of_its_result =
      says 60 (
      codes "cert 1\nterm fun [_T0 <: Any] => fun (_1: Int) => 1\n1 t-lit [] : Int\n2 set [] {} <: {}\n"
      ++ codes "3 refl [] Int <: Int\n4 top [] (_2: Int) -> Int^{_2} <: Any\n5 tran [3 4] Int <: Any\n"
      ++ codes "6 capt [2 5] Int <: Any\n7 t-sub [1 6] : Any\n8 t-abs [7] : (_1: Int) -> Any\n"
      ++ codes "9 t-tabs [8] : [_T0 <: Any] -> (_1: Int) -> Any\n")
      (codes "bad node 5") refl refl;
  parameter_in_a_set_of_its_own_type =
      says 60 (
      codes "cert 1\nterm fun [_T0 <: Any] => fun (_1: Int) => 1\n1 t-lit [] : Int\n2 set [] {} <: {}\n"
      ++ codes "3 refl [] Int <: Int\n4 top [] (_2: Int^{_2}) -> Int <: Any\n5 tran [3 4] Int <: Any\n"
      ++ codes "6 capt [2 5] Int <: Any\n7 t-sub [1 6] : Any\n8 t-abs [7] : (_1: Int) -> Any\n"
      ++ codes "9 t-tabs [8] : [_T0 <: Any] -> (_1: Int) -> Any\n")
      (codes "bad node 4") refl refl;
  parameter_as_a_shape =
      says 60 (
      codes "cert 1\nterm fun [_T0 <: Any] => fun (_1: Int) => 1\n1 t-lit [] : Int\n2 set [] {} <: {}\n"
      ++ codes "3 refl [] Int <: Int\n4 top [] (_2: Int) -> _T2 <: Any\n5 tran [3 4] Int <: Any\n"
      ++ codes "6 capt [2 5] Int <: Any\n7 t-sub [1 6] : Any\n8 t-abs [7] : (_1: Int) -> Any\n"
      ++ codes "9 t-tabs [8] : [_T0 <: Any] -> (_1: Int) -> Any\n")
      (codes "bad node 4") refl refl;
  type_parameter_as_a_shape =
      says 60 (
      codes "cert 1\nterm fun [_T0 <: Any] => fun (_1: Int) => 1\n1 t-lit [] : Int\n2 set [] {} <: {}\n"
      ++ codes "3 refl [] Int <: Int\n4 top [] [_T2 <: Int] -> _T2 <: Any\n5 tran [3 4] Int <: Any\n"
      ++ codes "6 capt [2 5] Int <: Any\n7 t-sub [1 6] : Any\n8 t-abs [7] : (_1: Int) -> Any\n"
      ++ codes "9 t-tabs [8] : [_T0 <: Any] -> (_1: Int) -> Any\n")
      (codes "bad node 5") refl refl;
  type_parameter_in_a_set =
      says 60 (
      codes "cert 1\nterm fun [_T0 <: Any] => fun (_1: Int) => 1\n1 t-lit [] : Int\n2 set [] {} <: {}\n"
      ++ codes "3 refl [] Int <: Int\n4 top [] [_T2 <: Int] -> Int^{_2} <: Any\n5 tran [3 4] Int <: Any\n"
      ++ codes "6 capt [2 5] Int <: Any\n7 t-sub [1 6] : Any\n8 t-abs [7] : (_1: Int) -> Any\n"
      ++ codes "9 t-tabs [8] : [_T0 <: Any] -> (_1: Int) -> Any\n")
      (codes "bad node 4") refl refl;
  type_parameter_in_its_bound =
      says 60 (
      codes "cert 1\nterm fun [_T0 <: Any] => fun (_1: Int) => 1\n1 t-lit [] : Int\n2 set [] {} <: {}\n"
      ++ codes "3 refl [] Int <: Int\n4 top [] [_T2 <: _T2] -> Int <: Any\n5 tran [3 4] Int <: Any\n"
      ++ codes "6 capt [2 5] Int <: Any\n7 t-sub [1 6] : Any\n8 t-abs [7] : (_1: Int) -> Any\n"
      ++ codes "9 t-tabs [8] : [_T0 <: Any] -> (_1: Int) -> Any\n")
      (codes "bad node 4") refl refl;
  set_of_a_result_of_a_type_function =
      says 60 (
      codes "cert 1\nterm fun [_T0 <: Any] => fun (_1: Int) => 1\n1 t-lit [] : Int\n2 set [] {} <: {}\n"
      ++ codes "3 refl [] Int <: Int\n4 top [] [_T2 <: Int] -> Int^{_0} <: Any\n5 tran [3 4] Int <: Any\n"
      ++ codes "6 capt [2 5] Int <: Any\n7 t-sub [1 6] : Any\n8 t-abs [7] : (_1: Int) -> Any\n"
      ++ codes "9 t-tabs [8] : [_T0 <: Any] -> (_1: Int) -> Any\n")
      (codes "bad node 4") refl refl;
  in_an_exit =
      says 60 (
      codes "cert 1\nterm fun [_T0 <: Any] => fun (_1: Int) => 1\n1 t-lit [] : Int\n2 set [] {} <: {}\n"
      ++ codes "3 refl [] Int <: Int\n4 top [] Exit[_T1] <: Any\n5 tran [3 4] Int <: Any\n"
      ++ codes "6 capt [2 5] Int <: Any\n7 t-sub [1 6] : Any\n8 t-abs [7] : (_1: Int) -> Any\n"
      ++ codes "9 t-tabs [8] : [_T0 <: Any] -> (_1: Int) -> Any\n")
      (codes "bad node 4") refl refl;
}

pub numbers_of_binders : example.NumbersOfBinders
unfolding line_computing
numbers_of_binders = record {
  at_the_root =
      says 60 (
      codes "cert 1\nterm fun (_0: Int) => fun (_1: Int) => 1\n1 t-lit [] : Int\n"
      ++ codes "2 t-abs [1] : (_1: Int) -> Int\n3 t-abs [2] : (_0: Int) -> (_1: Int) -> Int\n")
      (codes "valid (_0: Int) -> (_1: Int) -> Int") refl refl;
  too_low =
      says 60 (
      codes "cert 1\nterm fun (_0: Int) => fun (_1: Int) => 1\n1 t-lit [] : Int\n"
      ++ codes "2 t-abs [1] : (_0: Int) -> Int\n3 t-abs [2] : (_0: Int) -> (_1: Int) -> Int\n")
      (codes "bad node 2") refl refl;
  too_high =
      says 60 (
      codes "cert 1\nterm fun (_0: Int) => fun (_1: Int) => 1\n1 t-lit [] : Int\n"
      ++ codes "2 t-abs [1] : (_2: Int) -> Int\n3 t-abs [2] : (_0: Int) -> (_1: Int) -> Int\n")
      (codes "bad node 2") refl refl;
  binds_are_not_counted =
      says 60 (
      codes "cert 1\nbind x: Int\nbind y: Int\nterm fun (_0: Int) => 1\n1 t-lit [] : Int\n"
      ++ codes "2 t-abs [1] : (_0: Int) -> Int\n")
      (codes "valid (_0: Int) -> Int") refl refl;
  binds_are_counted =
      says 60 (
      codes "cert 1\nbind x: Int\nterm fun (_0: Int) => 1\n1 t-lit [] : Int\n"
      ++ codes "2 t-abs [1] : (_1: Int) -> Int\n")
      (codes "bad node 2") refl refl;
  side_by_side =
      says 60 (
      codes "cert 1\nterm fun (_0: (_0: Int) -> Int) => 1\n1 t-lit [] : Int\n"
      ++ codes "2 t-abs [1] : (_0: (_0: Int) -> Int) -> Int\n")
      (codes "valid (_0: (_0: Int) -> Int) -> Int") refl refl;
  in_the_other_order =
      says 60 (
      codes "cert 1\nterm fun (_0: Unit) => fun (_1: Int) => _0\n1 t-var [] : Unit^{_0}\n"
      ++ codes "2 t-abs [1] : ((_1: Int) -> Unit^{_1})^{_0}\n"
      ++ codes "3 t-abs [2] : (_0: Unit) -> ((_1: Int) -> Unit^{_1})^{_0}\n")
      (codes "bad node 2") refl refl;
  greatest =
      says 60 (codes "cert 1\nterm unit\n1 t-lit [] : (_4294967295: Unit) -> Unit\n")
      (codes "bad node 1") refl refl;
  greater = found_in 60 (codes "cert 1\nterm unit\n1 t-lit [] : (_4294967296: Unit) -> Unit\n") (HasBadLine 3) tt refl;
  greatest_inside =
      says 60 (codes "cert 1\nterm unit\n1 t-lit [] : (_4294967294: Unit) -> (_4294967295: Unit) -> Unit\n")
      (codes "bad node 1") refl refl;
  greater_inside = found_in 60 (codes "cert 1\nterm unit\n1 t-lit [] : (_4294967295: Unit) -> (_4294967296: Unit) -> Unit\n") (HasBadLine 3) tt refl;
  greatest_of_a_type_function =
      says 60 (codes "cert 1\nterm unit\n1 t-lit [] : [_T4294967295 <: Any] -> Unit\n")
      (codes "bad node 1") refl refl;
  greater_of_a_type_function = found_in 60 (codes "cert 1\nterm unit\n1 t-lit [] : [_T4294967296 <: Any] -> Unit\n") (HasBadLine 3) tt refl;
  greatest_type_variable =
      says 60 (codes "cert 1\nterm unit\n1 t-lit [] : _T4294967295\n")
      (codes "bad node 1") refl refl;
  greater_type_variable = found_in 60 (codes "cert 1\nterm unit\n1 t-lit [] : _T4294967296\n") (HasBadLine 3) tt refl;
  greatest_on_a_right_side =
      says 60 (codes "cert 1\nterm unit\n1 refl [] Unit <: (_4294967295: Unit) -> Unit\n")
      (codes "bad node 1") refl refl;
  greater_on_a_right_side = found_in 60 (codes "cert 1\nterm unit\n1 refl [] Unit <: (_4294967296: Unit) -> Unit\n") (HasBadLine 3) tt refl;
  greater_in_sets = found_in 60 (codes "cert 1\nterm unit\n1 elem [] {} <: {_4294967296}\n") (HasBadLine 3) tt refl;
  greatest_in_sets =
      says 60 (codes "cert 1\nterm unit\n1 elem [] {_4294967295} <: {_4294967295}\n")
      (codes "bad node 1") refl refl;
}

pub places_of_premises : example.PlacesOfPremises
unfolding line_computing
places_of_premises = record {
  first_of_a_let =
      says 60 (codes "cert 1\nterm let _0 = 1 in 2\n1 t-lit [] : Int^{_0}\n2 t-lit [] : Int\n3 t-let [1 2] : Int\n")
      (codes "bad node 1") refl refl;
  body_of_a_let_without_a_type =
      says 60 (
      codes "cert 1\nterm let _0 = 1 in 2\n1 t-lit [] : Int^{_0}\n2 t-lit [] : Bool\n"
      ++ codes "3 t-let [1 2] : Int\n")
      (codes "bad node 1") refl refl;
  two_bad_nodes =
      says 60 (
      codes "cert 1\nbind x: Int\nterm x + x\n1 t-var [] : Bool\n2 t-var [] : Bool\n"
      ++ codes "3 t-prim [1 2] : Int\n")
      (codes "bad node 1") refl refl;
  second_of_two =
      says 60 (
      codes "cert 1\nbind x: Int\nterm x + x\n1 t-var [] : Int^{x}\n2 t-var [] : Bool\n"
      ++ codes "3 t-prim [1 2] : Int\n")
      (codes "bad node 2") refl refl;
  rule_of_another_term =
      says 60 (codes "cert 1\nterm 1\n1 t-lit [] : Bool\n2 t-abs [1] : (_0: Int) -> Bool\n")
      (codes "bad node 2") refl refl;
  premises_are_missing =
      says 60 (codes "cert 1\nterm fun (_0: Int) => 1\n1 t-abs [] : (_0: Int) -> Int\n")
      (codes "bad node 1") refl refl;
  premises_are_too_many =
      says 60 (codes "cert 1\nterm 1\n1 t-lit [] : Bool\n2 t-lit [1] : Int\n")
      (codes "bad node 2") refl refl;
  two_widenings_of_one_term = found_in 60 (
      codes "cert 1\nterm 1\n1 t-lit [] : Int\n2 set [] {} <: {}\n3 top [] Int <: Any\n"
      ++ codes "4 capt [2 3] Int <: Any\n5 t-sub [4 1] : Any\n") (HasBadLine 7) tt refl;
  premises_of_a_widening_in_the_other_order =
      says 60 (
      codes "cert 1\nterm 1\n1 set [] {} <: {}\n2 top [] Int <: Any\n3 capt [1 2] Int <: Any\n"
      ++ codes "4 t-lit [] : Int\n5 t-sub [3 4] : Any\n")
      (codes "bad node 3") refl refl;
  first_of_functions =
      says 60 (
      codes "cert 1\nbind f: (_0: Int) -> Int\nterm f\n1 t-var [] : ((_0: Int) -> Int)^{f}\n"
      ++ codes "2 elem [] {f} <: {f}\n3 set [2] {f} <: {f}\n4 set [] {} <: {_0}\n5 refl [] Int <: Int\n"
      ++ codes "6 capt [4 5] Int <: Int^{_0}\n7 set [] {} <: {}\n8 refl [] Int <: Int\n"
      ++ codes "9 capt [7 8] Int <: Int\n10 fun [6 9] (_0: Int) -> Int <: (_0: Int) -> Int\n"
      ++ codes "11 capt [3 10] ((_0: Int) -> Int)^{f} <: ((_0: Int) -> Int)^{f}\n"
      ++ codes "12 t-sub [1 11] : ((_0: Int) -> Int)^{f}\n")
      (codes "bad node 6") refl refl;
  second_of_functions =
      says 60 (
      codes "cert 1\nbind f: (_0: Int) -> Int\nterm f\n1 t-var [] : ((_0: Int) -> Int)^{f}\n"
      ++ codes "2 elem [] {f} <: {f}\n3 set [2] {f} <: {f}\n4 set [] {} <: {}\n5 refl [] Int <: Int\n"
      ++ codes "6 capt [4 5] Int <: Int\n7 set [] {} <: {_0}\n8 refl [] Int <: Int\n"
      ++ codes "9 capt [7 8] Int <: Int^{_0}\n10 fun [6 9] (_0: Int) -> Int <: (_0: Int) -> Int^{_0}\n"
      ++ codes "11 capt [3 10] ((_0: Int) -> Int)^{f} <: ((_0: Int) -> Int^{_0})^{f}\n"
      ++ codes "12 t-sub [1 11] : ((_0: Int) -> Int^{_0})^{f}\n")
      (codes "valid ((_0: Int) -> Int^{_0})^{f}") refl refl;
  first_of_type_functions =
      says 60 (
      codes "cert 1\nbind f: [_T0 <: Int] -> Int\nterm f\n1 t-var [] : ([_T0 <: Int] -> Int)^{f}\n"
      ++ codes "2 elem [] {f} <: {f}\n3 set [2] {f} <: {f}\n4 refl [] _T0 <: _T0\n5 set [] {} <: {}\n"
      ++ codes "6 refl [] Int <: Int\n7 capt [5 6] Int <: Int\n"
      ++ codes "8 tfun [4 7] [_T0 <: Int] -> Int <: [_T0 <: Int] -> Int\n"
      ++ codes "9 capt [3 8] ([_T0 <: Int] -> Int)^{f} <: ([_T0 <: Int] -> Int)^{f}\n"
      ++ codes "10 t-sub [1 9] : ([_T0 <: Int] -> Int)^{f}\n")
      (codes "bad node 4") refl refl;
}
