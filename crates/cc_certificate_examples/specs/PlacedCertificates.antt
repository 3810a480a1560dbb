-- Certificates with what is found of them by the places of their nodes: which names may stand there, and which
-- numbers binders have.
use Rattle.std.specs.Prelude.{codes, ◌++◌}
use Rattle.cc_certificate_text.specs.Certificates.{IsBadLine}
use Rattle.cc_certificate_examples.specs.FoundTexts.{Says}

-- On both sides of a claim each name has its binder. A node in which one has none breaks its rule, and its premises
-- have no place, so that none of them is told, even where it would break its rule.
pub record NamesOnBothSides : Type 0 where
  pub left_set :
      Says (
      codes "cert 1\nbind x: Int\nterm x\n1 t-var [] : Int^{x}\n2 elem [] {} <: {}\n"
      ++ codes "3 var [2] {_0} <: {}\n4 var [3] {x} <: {}\n5 set [4] {x} <: {}\n6 refl [] Int <: Int\n"
      ++ codes "7 capt [5 6] Int^{x} <: Int\n8 t-sub [1 7] : Int\n")
      (codes "bad node 3")
  pub right_set :
      Says (
      codes "cert 1\nbind x: Int\nterm x\n1 t-var [] : Int^{x}\n2 elem [] {} <: {}\n"
      ++ codes "3 var [2] {x} <: {_0}\n4 refl [] Int <: Int\n5 capt [3 4] Int^{x} <: Int^{x}\n"
      ++ codes "6 t-sub [1 5] : Int^{x}\n")
      (codes "bad node 3")
  pub both_sets :
      Says (
      codes "cert 1\nterm 1\n1 t-lit [] : Int\n2 elem [] {_0} <: {_0}\n3 refl [] Int <: Int\n"
      ++ codes "4 capt [2 3] Int <: Int\n5 t-sub [1 4] : Int\n")
      (codes "bad node 2")
  pub left_shape :
      Says (
      codes "cert 1\nterm 1\n1 t-lit [] : Int\n2 set [] {} <: {}\n3 top [] Box[Int^{_0}] <: Any\n"
      ++ codes "4 capt [2 3] Int <: Any\n5 t-sub [1 4] : Any\n")
      (codes "bad node 3")
  pub right_shape :
      Says (
      codes "cert 1\nterm 1\n1 t-lit [] : Int\n2 set [] {} <: {}\n3 top [] Int <: Int\n"
      ++ codes "4 top [] Int <: Any\n5 tran [3 4] Int <: Box[Int^{_0}]\n6 capt [2 5] Int <: Any\n"
      ++ codes "7 t-sub [1 6] : Any\n")
      (codes "bad node 5")
  pub both_shapes :
      Says (
      codes "cert 1\nterm 1\n1 t-lit [] : Int\n2 set [] {} <: {}\n3 refl [] _T0 <: _T0\n"
      ++ codes "4 capt [2 3] Int <: Any\n5 t-sub [1 4] : Any\n")
      (codes "bad node 3")
  pub shape_of_a_left_type :
      Says (
      codes "cert 1\nterm 1\n1 t-lit [] : Int\n2 elem [] {} <: {}\n3 refl [] Int <: Int\n"
      ++ codes "4 capt [2 3] _T0 <: Int\n5 t-sub [1 4] : Int\n")
      (codes "bad node 4")
  pub set_of_a_left_type :
      Says (
      codes "cert 1\nterm 1\n1 t-lit [] : Int\n2 elem [] {} <: {}\n3 refl [] Int <: Int\n"
      ++ codes "4 capt [2 3] Int^{_0} <: Int\n5 t-sub [1 4] : Int\n")
      (codes "bad node 4")
  pub shape_of_a_right_type :
      Says (
      codes "cert 1\nterm 1\n1 t-lit [] : Int\n2 elem [] {} <: {}\n3 refl [] Int <: Int\n"
      ++ codes "4 capt [2 3] Int <: _T0\n5 t-sub [1 4] : Int\n")
      (codes "bad node 4")
  pub set_of_a_right_type :
      Says (
      codes "cert 1\nterm 1\n1 t-lit [] : Int\n2 elem [] {} <: {}\n3 refl [] Int <: Int\n"
      ++ codes "4 capt [2 3] Int <: Int^{_0}\n5 t-sub [1 4] : Int\n")
      (codes "bad node 4")
  pub shape_of_a_term :
      Says (
      codes "cert 1\nterm 1\n1 t-lit [] : Bool\n2 set [] {} <: {}\n3 refl [] Int <: Int\n"
      ++ codes "4 capt [2 3] Int <: Int\n5 t-sub [1 4] : _T0\n")
      (codes "bad node 5")
  pub set_of_a_term :
      Says (
      codes "cert 1\nterm 1\n1 t-lit [] : Bool\n2 set [] {} <: {}\n3 refl [] Int <: Int\n"
      ++ codes "4 capt [2 3] Int <: Int\n5 t-sub [1 4] : Int^{_0}\n")
      (codes "bad node 5")

-- A name in a set is that of a variable of terms, and a name that stands for a shape is that of a type variable.
pub record KindsOfNames : Type 0 where
  pub variable_of_terms_in_a_set :
      Says (
      codes "cert 1\nterm fun [_T0 <: Any] => fun (_1: Int) => 1\n1 t-lit [] : Int\n2 set [] {} <: {_1}\n"
      ++ codes "3 refl [] Int <: Int\n4 capt [2 3] Int <: Int^{_1}\n5 t-sub [1 4] : Int^{_1}\n"
      ++ codes "6 t-abs [5] : (_1: Int) -> Int^{_1}\n7 t-tabs [6] : [_T0 <: Any] -> (_1: Int) -> Int^{_1}\n")
      (codes "valid [_T0 <: Any] -> (_1: Int) -> Int^{_1}")
  pub type_variable_in_a_set :
      Says (
      codes "cert 1\nterm fun [_T0 <: Any] => fun (_1: Int) => 1\n1 t-lit [] : Int\n2 set [] {} <: {_0}\n"
      ++ codes "3 refl [] Int <: Int\n4 capt [2 3] Int <: Int\n5 t-sub [1 4] : Int\n"
      ++ codes "6 t-abs [5] : (_1: Int) -> Int\n7 t-tabs [6] : [_T0 <: Any] -> (_1: Int) -> Int\n")
      (codes "bad node 2")
  pub type_variable_beside_a_variable :
      Says (
      codes "cert 1\nterm fun [_T0 <: Any] => fun (_1: Int) => 1\n1 t-lit [] : Int\n"
      ++ codes "2 set [] {} <: {_0, _1}\n3 refl [] Int <: Int\n4 capt [2 3] Int <: Int\n"
      ++ codes "5 t-sub [1 4] : Int\n6 t-abs [5] : (_1: Int) -> Int\n"
      ++ codes "7 t-tabs [6] : [_T0 <: Any] -> (_1: Int) -> Int\n")
      (codes "bad node 2")
  pub variable_of_terms_as_a_shape :
      Says (
      codes "cert 1\nterm fun [_T0 <: Any] => fun (_1: Int) => 1\n1 t-lit [] : Int\n2 set [] {} <: {}\n"
      ++ codes "3 refl [] Int <: Int\n4 top [] Box[_T1] <: Any\n5 tran [3 4] Int <: Any\n"
      ++ codes "6 capt [2 5] Int <: Any\n7 t-sub [1 6] : Any\n8 t-abs [7] : (_1: Int) -> Any\n"
      ++ codes "9 t-tabs [8] : [_T0 <: Any] -> (_1: Int) -> Any\n")
      (codes "bad node 4")
  -- the two steps are not joined at their middle
  pub type_variable_as_a_shape :
      Says (
      codes "cert 1\nterm fun [_T0 <: Any] => fun (_1: Int) => 1\n1 t-lit [] : Int\n2 set [] {} <: {}\n"
      ++ codes "3 refl [] Int <: Int\n4 top [] Box[_T0] <: Any\n5 tran [3 4] Int <: Any\n"
      ++ codes "6 capt [2 5] Int <: Any\n7 t-sub [1 6] : Any\n8 t-abs [7] : (_1: Int) -> Any\n"
      ++ codes "9 t-tabs [8] : [_T0 <: Any] -> (_1: Int) -> Any\n")
      (codes "bad node 5")
  pub type_variable_in_a_set_of_a_shape :
      Says (
      codes "cert 1\nterm fun [_T0 <: Any] => fun (_1: Int) => 1\n1 t-lit [] : Int\n2 set [] {} <: {}\n"
      ++ codes "3 refl [] Int <: Int\n4 top [] Box[Int^{_0}] <: Any\n5 tran [3 4] Int <: Any\n"
      ++ codes "6 capt [2 5] Int <: Any\n7 t-sub [1 6] : Any\n8 t-abs [7] : (_1: Int) -> Any\n"
      ++ codes "9 t-tabs [8] : [_T0 <: Any] -> (_1: Int) -> Any\n")
      (codes "bad node 4")
  pub variable_in_a_set_of_a_shape :
      Says (
      codes "cert 1\nterm fun [_T0 <: Any] => fun (_1: Int) => 1\n1 t-lit [] : Int\n2 set [] {} <: {}\n"
      ++ codes "3 refl [] Int <: Int\n4 top [] Box[Int^{_1}] <: Any\n5 tran [3 4] Int <: Any\n"
      ++ codes "6 capt [2 5] Int <: Any\n7 t-sub [1 6] : Any\n8 t-abs [7] : (_1: Int) -> Any\n"
      ++ codes "9 t-tabs [8] : [_T0 <: Any] -> (_1: Int) -> Any\n")
      (codes "bad node 5")
  pub set_of_a_parameter :
      Says (
      codes "cert 1\nterm fun [_T0 <: Any] => fun (_1: Int) => 1\n1 t-lit [] : Int\n2 set [] {} <: {}\n"
      ++ codes "3 refl [] Int <: Int\n4 top [] (_2: Int^{_0}) -> Int <: Any\n5 tran [3 4] Int <: Any\n"
      ++ codes "6 capt [2 5] Int <: Any\n7 t-sub [1 6] : Any\n8 t-abs [7] : (_1: Int) -> Any\n"
      ++ codes "9 t-tabs [8] : [_T0 <: Any] -> (_1: Int) -> Any\n")
      (codes "bad node 4")
  pub set_of_a_result :
      Says (
      codes "cert 1\nterm fun [_T0 <: Any] => fun (_1: Int) => 1\n1 t-lit [] : Int\n2 set [] {} <: {}\n"
      ++ codes "3 refl [] Int <: Int\n4 top [] (_2: Int) -> Int^{_0} <: Any\n5 tran [3 4] Int <: Any\n"
      ++ codes "6 capt [2 5] Int <: Any\n7 t-sub [1 6] : Any\n8 t-abs [7] : (_1: Int) -> Any\n"
      ++ codes "9 t-tabs [8] : [_T0 <: Any] -> (_1: Int) -> Any\n")
      (codes "bad node 4")
  pub parameter_in_a_set_of_its_result :
      Says (
      codes "cert 1\nterm fun [_T0 <: Any] => fun (_1: Int) => 1\n1 t-lit [] : Int\n2 set [] {} <: {}\n"
      ++ codes "3 refl [] Int <: Int\n4 top [] (_2: Int) -> Int^{_2} <: Any\n5 tran [3 4] Int <: Any\n"
      ++ codes "6 capt [2 5] Int <: Any\n7 t-sub [1 6] : Any\n8 t-abs [7] : (_1: Int) -> Any\n"
      ++ codes "9 t-tabs [8] : [_T0 <: Any] -> (_1: Int) -> Any\n")
      (codes "bad node 5")
  pub parameter_in_a_set_of_its_own_type :
      Says (
      codes "cert 1\nterm fun [_T0 <: Any] => fun (_1: Int) => 1\n1 t-lit [] : Int\n2 set [] {} <: {}\n"
      ++ codes "3 refl [] Int <: Int\n4 top [] (_2: Int^{_2}) -> Int <: Any\n5 tran [3 4] Int <: Any\n"
      ++ codes "6 capt [2 5] Int <: Any\n7 t-sub [1 6] : Any\n8 t-abs [7] : (_1: Int) -> Any\n"
      ++ codes "9 t-tabs [8] : [_T0 <: Any] -> (_1: Int) -> Any\n")
      (codes "bad node 4")
  pub parameter_as_a_shape :
      Says (
      codes "cert 1\nterm fun [_T0 <: Any] => fun (_1: Int) => 1\n1 t-lit [] : Int\n2 set [] {} <: {}\n"
      ++ codes "3 refl [] Int <: Int\n4 top [] (_2: Int) -> _T2 <: Any\n5 tran [3 4] Int <: Any\n"
      ++ codes "6 capt [2 5] Int <: Any\n7 t-sub [1 6] : Any\n8 t-abs [7] : (_1: Int) -> Any\n"
      ++ codes "9 t-tabs [8] : [_T0 <: Any] -> (_1: Int) -> Any\n")
      (codes "bad node 4")
  pub type_parameter_as_a_shape :
      Says (
      codes "cert 1\nterm fun [_T0 <: Any] => fun (_1: Int) => 1\n1 t-lit [] : Int\n2 set [] {} <: {}\n"
      ++ codes "3 refl [] Int <: Int\n4 top [] [_T2 <: Int] -> _T2 <: Any\n5 tran [3 4] Int <: Any\n"
      ++ codes "6 capt [2 5] Int <: Any\n7 t-sub [1 6] : Any\n8 t-abs [7] : (_1: Int) -> Any\n"
      ++ codes "9 t-tabs [8] : [_T0 <: Any] -> (_1: Int) -> Any\n")
      (codes "bad node 5")
  pub type_parameter_in_a_set :
      Says (
      codes "cert 1\nterm fun [_T0 <: Any] => fun (_1: Int) => 1\n1 t-lit [] : Int\n2 set [] {} <: {}\n"
      ++ codes "3 refl [] Int <: Int\n4 top [] [_T2 <: Int] -> Int^{_2} <: Any\n5 tran [3 4] Int <: Any\n"
      ++ codes "6 capt [2 5] Int <: Any\n7 t-sub [1 6] : Any\n8 t-abs [7] : (_1: Int) -> Any\n"
      ++ codes "9 t-tabs [8] : [_T0 <: Any] -> (_1: Int) -> Any\n")
      (codes "bad node 4")
  pub type_parameter_in_its_bound :
      Says (
      codes "cert 1\nterm fun [_T0 <: Any] => fun (_1: Int) => 1\n1 t-lit [] : Int\n2 set [] {} <: {}\n"
      ++ codes "3 refl [] Int <: Int\n4 top [] [_T2 <: _T2] -> Int <: Any\n5 tran [3 4] Int <: Any\n"
      ++ codes "6 capt [2 5] Int <: Any\n7 t-sub [1 6] : Any\n8 t-abs [7] : (_1: Int) -> Any\n"
      ++ codes "9 t-tabs [8] : [_T0 <: Any] -> (_1: Int) -> Any\n")
      (codes "bad node 4")
  pub set_of_a_result_of_a_type_function :
      Says (
      codes "cert 1\nterm fun [_T0 <: Any] => fun (_1: Int) => 1\n1 t-lit [] : Int\n2 set [] {} <: {}\n"
      ++ codes "3 refl [] Int <: Int\n4 top [] [_T2 <: Int] -> Int^{_0} <: Any\n5 tran [3 4] Int <: Any\n"
      ++ codes "6 capt [2 5] Int <: Any\n7 t-sub [1 6] : Any\n8 t-abs [7] : (_1: Int) -> Any\n"
      ++ codes "9 t-tabs [8] : [_T0 <: Any] -> (_1: Int) -> Any\n")
      (codes "bad node 4")
  pub in_an_exit :
      Says (
      codes "cert 1\nterm fun [_T0 <: Any] => fun (_1: Int) => 1\n1 t-lit [] : Int\n2 set [] {} <: {}\n"
      ++ codes "3 refl [] Int <: Int\n4 top [] Exit[_T1] <: Any\n5 tran [3 4] Int <: Any\n"
      ++ codes "6 capt [2 5] Int <: Any\n7 t-sub [1 6] : Any\n8 t-abs [7] : (_1: Int) -> Any\n"
      ++ codes "9 t-tabs [8] : [_T0 <: Any] -> (_1: Int) -> Any\n")
      (codes "bad node 4")

-- The outermost binders of a claim have the number of the local variables in scope, and those inside the next ones.
pub record NumbersOfBinders : Type 0 where
  pub at_the_root :
      Says (
      codes "cert 1\nterm fun (_0: Int) => fun (_1: Int) => 1\n1 t-lit [] : Int\n"
      ++ codes "2 t-abs [1] : (_1: Int) -> Int\n3 t-abs [2] : (_0: Int) -> (_1: Int) -> Int\n")
      (codes "valid (_0: Int) -> (_1: Int) -> Int")
  pub too_low :
      Says (
      codes "cert 1\nterm fun (_0: Int) => fun (_1: Int) => 1\n1 t-lit [] : Int\n"
      ++ codes "2 t-abs [1] : (_0: Int) -> Int\n3 t-abs [2] : (_0: Int) -> (_1: Int) -> Int\n")
      (codes "bad node 2")
  pub too_high :
      Says (
      codes "cert 1\nterm fun (_0: Int) => fun (_1: Int) => 1\n1 t-lit [] : Int\n"
      ++ codes "2 t-abs [1] : (_2: Int) -> Int\n3 t-abs [2] : (_0: Int) -> (_1: Int) -> Int\n")
      (codes "bad node 2")
  pub binds_are_not_counted :
      Says (
      codes "cert 1\nbind x: Int\nbind y: Int\nterm fun (_0: Int) => 1\n1 t-lit [] : Int\n"
      ++ codes "2 t-abs [1] : (_0: Int) -> Int\n")
      (codes "valid (_0: Int) -> Int")
  pub binds_are_counted :
      Says (
      codes "cert 1\nbind x: Int\nterm fun (_0: Int) => 1\n1 t-lit [] : Int\n"
      ++ codes "2 t-abs [1] : (_1: Int) -> Int\n")
      (codes "bad node 2")
  -- binders of which none stands in another have one number
  pub side_by_side :
      Says (
      codes "cert 1\nterm fun (_0: (_0: Int) -> Int) => 1\n1 t-lit [] : Int\n"
      ++ codes "2 t-abs [1] : (_0: (_0: Int) -> Int) -> Int\n")
      (codes "valid (_0: (_0: Int) -> Int) -> Int")
  -- the variables of the claim are those of its binders from the outermost on
  pub in_the_other_order :
      Says (
      codes "cert 1\nterm fun (_0: Unit) => fun (_1: Int) => _0\n1 t-var [] : Unit^{_0}\n"
      ++ codes "2 t-abs [1] : ((_1: Int) -> Unit^{_1})^{_0}\n"
      ++ codes "3 t-abs [2] : (_0: Unit) -> ((_1: Int) -> Unit^{_1})^{_0}\n")
      (codes "bad node 2")
  -- it is below 2^32
  pub greatest :
      Says (codes "cert 1\nterm unit\n1 t-lit [] : (_4294967295: Unit) -> Unit\n")
      (codes "bad node 1")
  pub greater : IsBadLine (codes "cert 1\nterm unit\n1 t-lit [] : (_4294967296: Unit) -> Unit\n") 3
  pub greatest_inside :
      Says (codes "cert 1\nterm unit\n1 t-lit [] : (_4294967294: Unit) -> (_4294967295: Unit) -> Unit\n")
      (codes "bad node 1")
  pub greater_inside :
      IsBadLine (codes "cert 1\nterm unit\n1 t-lit [] : (_4294967295: Unit) -> (_4294967296: Unit) -> Unit\n") 3
  pub greatest_of_a_type_function :
      Says (codes "cert 1\nterm unit\n1 t-lit [] : [_T4294967295 <: Any] -> Unit\n")
      (codes "bad node 1")
  pub greater_of_a_type_function : IsBadLine (codes "cert 1\nterm unit\n1 t-lit [] : [_T4294967296 <: Any] -> Unit\n") 3
  pub greatest_type_variable :
      Says (codes "cert 1\nterm unit\n1 t-lit [] : _T4294967295\n")
      (codes "bad node 1")
  pub greater_type_variable : IsBadLine (codes "cert 1\nterm unit\n1 t-lit [] : _T4294967296\n") 3
  pub greatest_on_a_right_side :
      Says (codes "cert 1\nterm unit\n1 refl [] Unit <: (_4294967295: Unit) -> Unit\n")
      (codes "bad node 1")
  pub greater_on_a_right_side : IsBadLine (codes "cert 1\nterm unit\n1 refl [] Unit <: (_4294967296: Unit) -> Unit\n") 3
  pub greater_in_sets : IsBadLine (codes "cert 1\nterm unit\n1 elem [] {} <: {_4294967296}\n") 3
  pub greatest_in_sets :
      Says (codes "cert 1\nterm unit\n1 elem [] {_4294967295} <: {_4294967295}\n")
      (codes "bad node 1")

-- The rules tell where premises stand, also where a node is no instance of its rule; above a node that does not fit
-- its place nothing has one.
pub record PlacesOfPremises : Type 0 where
  -- it does not stand under the variable
  pub first_of_a_let :
      Says (codes "cert 1\nterm let _0 = 1 in 2\n1 t-lit [] : Int^{_0}\n2 t-lit [] : Int\n3 t-let [1 2] : Int\n")
      (codes "bad node 1")
  -- its right side claims no type, so the body has no place
  pub body_of_a_let_without_a_type :
      Says (
      codes "cert 1\nterm let _0 = 1 in 2\n1 t-lit [] : Int^{_0}\n2 t-lit [] : Bool\n"
      ++ codes "3 t-let [1 2] : Int\n")
      (codes "bad node 1")
  -- the least number is told
  pub two_bad_nodes :
      Says (
      codes "cert 1\nbind x: Int\nterm x + x\n1 t-var [] : Bool\n2 t-var [] : Bool\n"
      ++ codes "3 t-prim [1 2] : Int\n")
      (codes "bad node 1")
  pub second_of_two :
      Says (
      codes "cert 1\nbind x: Int\nterm x + x\n1 t-var [] : Int^{x}\n2 t-var [] : Bool\n"
      ++ codes "3 t-prim [1 2] : Int\n")
      (codes "bad node 2")
  pub rule_of_another_term :
      Says (codes "cert 1\nterm 1\n1 t-lit [] : Bool\n2 t-abs [1] : (_0: Int) -> Bool\n")
      (codes "bad node 2")
  pub premises_are_missing :
      Says (codes "cert 1\nterm fun (_0: Int) => 1\n1 t-abs [] : (_0: Int) -> Int\n")
      (codes "bad node 1")
  pub premises_are_too_many :
      Says (codes "cert 1\nterm 1\n1 t-lit [] : Bool\n2 t-lit [1] : Int\n")
      (codes "bad node 2")
  pub two_widenings_of_one_term : IsBadLine (
      codes "cert 1\nterm 1\n1 t-lit [] : Int\n2 set [] {} <: {}\n3 top [] Int <: Any\n"
      ++ codes "4 capt [2 3] Int <: Any\n5 t-sub [4 1] : Any\n") 7
  pub premises_of_a_widening_in_the_other_order :
      Says (
      codes "cert 1\nterm 1\n1 set [] {} <: {}\n2 top [] Int <: Any\n3 capt [1 2] Int <: Any\n"
      ++ codes "4 t-lit [] : Int\n5 t-sub [3 4] : Any\n")
      (codes "bad node 3")
  -- it does not stand under the parameter
  pub first_of_functions :
      Says (
      codes "cert 1\nbind f: (_0: Int) -> Int\nterm f\n1 t-var [] : ((_0: Int) -> Int)^{f}\n"
      ++ codes "2 elem [] {f} <: {f}\n3 set [2] {f} <: {f}\n4 set [] {} <: {_0}\n5 refl [] Int <: Int\n"
      ++ codes "6 capt [4 5] Int <: Int^{_0}\n7 set [] {} <: {}\n8 refl [] Int <: Int\n"
      ++ codes "9 capt [7 8] Int <: Int\n10 fun [6 9] (_0: Int) -> Int <: (_0: Int) -> Int\n"
      ++ codes "11 capt [3 10] ((_0: Int) -> Int)^{f} <: ((_0: Int) -> Int)^{f}\n"
      ++ codes "12 t-sub [1 11] : ((_0: Int) -> Int)^{f}\n")
      (codes "bad node 6")
  -- it stands under the parameter
  pub second_of_functions :
      Says (
      codes "cert 1\nbind f: (_0: Int) -> Int\nterm f\n1 t-var [] : ((_0: Int) -> Int)^{f}\n"
      ++ codes "2 elem [] {f} <: {f}\n3 set [2] {f} <: {f}\n4 set [] {} <: {}\n5 refl [] Int <: Int\n"
      ++ codes "6 capt [4 5] Int <: Int\n7 set [] {} <: {_0}\n8 refl [] Int <: Int\n"
      ++ codes "9 capt [7 8] Int <: Int^{_0}\n10 fun [6 9] (_0: Int) -> Int <: (_0: Int) -> Int^{_0}\n"
      ++ codes "11 capt [3 10] ((_0: Int) -> Int)^{f} <: ((_0: Int) -> Int^{_0})^{f}\n"
      ++ codes "12 t-sub [1 11] : ((_0: Int) -> Int^{_0})^{f}\n")
      (codes "valid ((_0: Int) -> Int^{_0})^{f}")
  pub first_of_type_functions :
      Says (
      codes "cert 1\nbind f: [_T0 <: Int] -> Int\nterm f\n1 t-var [] : ([_T0 <: Int] -> Int)^{f}\n"
      ++ codes "2 elem [] {f} <: {f}\n3 set [2] {f} <: {f}\n4 refl [] _T0 <: _T0\n5 set [] {} <: {}\n"
      ++ codes "6 refl [] Int <: Int\n7 capt [5 6] Int <: Int\n"
      ++ codes "8 tfun [4 7] [_T0 <: Int] -> Int <: [_T0 <: Int] -> Int\n"
      ++ codes "9 capt [3 8] ([_T0 <: Int] -> Int)^{f} <: ([_T0 <: Int] -> Int)^{f}\n"
      ++ codes "10 t-sub [1 9] : ([_T0 <: Int] -> Int)^{f}\n")
      (codes "bad node 4")
