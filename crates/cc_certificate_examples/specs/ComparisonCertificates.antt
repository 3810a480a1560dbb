-- Certificates in which a term is widened, with what is found of them: by each rule for sets, shapes and types, and
-- with each condition of the rule that alone does not hold.
use Rattle.std.specs.Prelude.{codes, ◌++◌}
use Rattle.cc_certificate_examples.specs.FoundTexts.{Says}

-- The set of one element is below a set that has it, or that its declared set is below; any other set is by a premise
-- for each of its elements, in their order.
pub record SetsBelowSets : Type 0 where
  pub element :
      Says (
      codes "cert 1\nbind x: Int\nbind y: Int\nterm x\n1 t-var [] : Int^{x}\n2 elem [] {x} <: {x, y}\n"
      ++ codes "3 set [2] {x} <: {x, y}\n4 refl [] Int <: Int\n5 capt [3 4] Int^{x} <: Int^{x, y}\n"
      ++ codes "6 t-sub [1 5] : Int^{x, y}\n")
      (codes "valid Int^{x, y}")
  pub element_with_the_universal_capability :
      Says (
      codes "cert 1\nbind x: Int\nbind y: Int\nterm x\n1 t-var [] : Int^{x}\n2 elem [] {x} <: {x, cap}\n"
      ++ codes "3 set [2] {x} <: {x, cap}\n4 refl [] Int <: Int\n5 capt [3 4] Int^{x} <: Int^{x, cap}\n"
      ++ codes "6 t-sub [1 5] : Int^{x, cap}\n")
      (codes "valid Int^{x, cap}")
  pub no_element :
      Says (
      codes "cert 1\nbind x: Int\nbind y: Int\nterm x\n1 t-var [] : Int^{x}\n2 elem [] {x} <: {y}\n"
      ++ codes "3 set [2] {x} <: {y}\n4 refl [] Int <: Int\n5 capt [3 4] Int^{x} <: Int^{y}\n"
      ++ codes "6 t-sub [1 5] : Int^{y}\n")
      (codes "bad node 2")
  -- the rule of elements is for one element
  pub element_by_itself :
      Says (
      codes "cert 1\nbind x: Int\nbind y: Int\nterm x\n1 t-var [] : Int^{x}\n2 elem [] {x} <: {x, y}\n"
      ++ codes "3 refl [] Int <: Int\n4 capt [2 3] Int^{x} <: Int^{x, y}\n5 t-sub [1 4] : Int^{x, y}\n")
      (codes "valid Int^{x, y}")
  pub declared :
      Says (
      codes "cert 1\nbind x: Int\nbind y: Int\nterm x\n1 t-var [] : Int^{x}\n2 set [] {} <: {}\n"
      ++ codes "3 var [2] {x} <: {}\n4 set [3] {x} <: {}\n5 refl [] Int <: Int\n"
      ++ codes "6 capt [4 5] Int^{x} <: Int\n7 t-sub [1 6] : Int\n")
      (codes "valid Int")
  -- the set of a variable is below that of the ones that it captures
  pub declared_with_a_set :
      Says (
      codes "cert 1\nbind x: Int\nbind y: Int^{x}\nbind z: Int^{y}\nterm z\n1 t-var [] : Int^{z}\n"
      ++ codes "2 elem [] {x} <: {x}\n3 set [2] {x} <: {x}\n4 var [3] {y} <: {x}\n5 set [4] {y} <: {x}\n"
      ++ codes "6 var [5] {z} <: {x}\n7 set [6] {z} <: {x}\n8 refl [] Int <: Int\n"
      ++ codes "9 capt [7 8] Int^{z} <: Int^{x}\n10 t-sub [1 9] : Int^{x}\n")
      (codes "valid Int^{x}")
  pub declared_is_skipped :
      Says (
      codes "cert 1\nbind x: Int\nbind y: Int^{x}\nterm y\n1 t-var [] : Int^{y}\n2 set [] {} <: {}\n"
      ++ codes "3 var [2] {y} <: {}\n4 set [3] {y} <: {}\n5 refl [] Int <: Int\n"
      ++ codes "6 capt [4 5] Int^{y} <: Int\n7 t-sub [1 6] : Int\n")
      (codes "bad node 3")
  pub declared_and_another_right_side :
      Says (
      codes "cert 1\nbind x: Int\nbind y: Int\nterm x\n1 t-var [] : Int^{x}\n2 set [] {} <: {}\n"
      ++ codes "3 var [2] {x} <: {y}\n4 set [3] {x} <: {y}\n5 refl [] Int <: Int\n"
      ++ codes "6 capt [4 5] Int^{x} <: Int^{y}\n7 t-sub [1 6] : Int^{y}\n")
      (codes "bad node 3")
  pub element_for_no_element :
      Says (
      codes "cert 1\nbind x: Int\nbind y: Int\nterm x\n1 t-var [] : Int^{x}\n2 elem [] {} <: {}\n"
      ++ codes "3 var [2] {x} <: {}\n4 set [3] {x} <: {}\n5 refl [] Int <: Int\n"
      ++ codes "6 capt [4 5] Int^{x} <: Int\n7 t-sub [1 6] : Int\n")
      (codes "bad node 2")
  -- a premise for each, in their order
  pub two_elements :
      Says (
      codes "cert 1\nbind x: Int\nbind y: Int\nbind z: Int^{x, y}\nterm z\n1 t-var [] : Int^{z}\n"
      ++ codes "2 elem [] {x} <: {x, y}\n3 elem [] {y} <: {x, y}\n4 set [2 3] {x, y} <: {x, y}\n"
      ++ codes "5 var [4] {z} <: {x, y}\n6 set [5] {z} <: {x, y}\n7 refl [] Int <: Int\n"
      ++ codes "8 capt [6 7] Int^{z} <: Int^{x, y}\n9 t-sub [1 8] : Int^{x, y}\n")
      (codes "valid Int^{x, y}")
  pub two_elements_in_the_other_order :
      Says (
      codes "cert 1\nbind x: Int\nbind y: Int\nbind z: Int^{x, y}\nterm z\n1 t-var [] : Int^{z}\n"
      ++ codes "2 elem [] {y} <: {x, y}\n3 elem [] {x} <: {x, y}\n4 set [2 3] {x, y} <: {x, y}\n"
      ++ codes "5 var [4] {z} <: {x, y}\n6 set [5] {z} <: {x, y}\n7 refl [] Int <: Int\n"
      ++ codes "8 capt [6 7] Int^{z} <: Int^{x, y}\n9 t-sub [1 8] : Int^{x, y}\n")
      (codes "bad node 4")
  pub two_elements_by_one :
      Says (
      codes "cert 1\nbind x: Int\nbind y: Int\nbind z: Int^{x, y}\nterm z\n1 t-var [] : Int^{z}\n"
      ++ codes "2 elem [] {x, y} <: {x, y}\n3 var [2] {z} <: {x, y}\n4 set [3] {z} <: {x, y}\n"
      ++ codes "5 refl [] Int <: Int\n6 capt [4 5] Int^{z} <: Int^{x, y}\n7 t-sub [1 6] : Int^{x, y}\n")
      (codes "bad node 2")
  pub two_elements_with_a_premise_less :
      Says (
      codes "cert 1\nbind x: Int\nbind y: Int\nbind z: Int^{x, y}\nterm z\n1 t-var [] : Int^{z}\n"
      ++ codes "2 elem [] {x} <: {x, y}\n3 set [2] {x, y} <: {x, y}\n4 var [3] {z} <: {x, y}\n"
      ++ codes "5 set [4] {z} <: {x, y}\n6 refl [] Int <: Int\n7 capt [5 6] Int^{z} <: Int^{x, y}\n"
      ++ codes "8 t-sub [1 7] : Int^{x, y}\n")
      (codes "bad node 3")
  pub two_elements_with_a_premise_more :
      Says (
      codes "cert 1\nbind x: Int\nbind y: Int\nbind z: Int^{x, y}\nterm z\n1 t-var [] : Int^{z}\n"
      ++ codes "2 elem [] {x} <: {x, y}\n3 elem [] {y} <: {x, y}\n4 elem [] {y} <: {x, y}\n"
      ++ codes "5 set [2 3 4] {x, y} <: {x, y}\n6 var [5] {z} <: {x, y}\n7 set [6] {z} <: {x, y}\n"
      ++ codes "8 refl [] Int <: Int\n9 capt [7 8] Int^{z} <: Int^{x, y}\n10 t-sub [1 9] : Int^{x, y}\n")
      (codes "bad node 5")
  pub two_elements_of_which_one_is_twice :
      Says (
      codes "cert 1\nbind x: Int\nbind y: Int\nbind z: Int^{x, y}\nterm z\n1 t-var [] : Int^{z}\n"
      ++ codes "2 elem [] {x} <: {x, y}\n3 elem [] {x} <: {x, y}\n4 set [2 3] {x, y} <: {x, y}\n"
      ++ codes "5 var [4] {z} <: {x, y}\n6 set [5] {z} <: {x, y}\n7 refl [] Int <: Int\n"
      ++ codes "8 capt [6 7] Int^{z} <: Int^{x, y}\n9 t-sub [1 8] : Int^{x, y}\n")
      (codes "bad node 4")
  -- the rule of variables is for one variable
  pub two_elements_by_their_variable :
      Says (
      codes "cert 1\nbind x: Int\nbind y: Int\nbind z: Int^{x, y}\nterm z\n1 t-var [] : Int^{z}\n"
      ++ codes "2 set [] {} <: {}\n3 var [2] {x, y} <: {}\n4 var [3] {z} <: {}\n5 set [4] {z} <: {}\n"
      ++ codes "6 refl [] Int <: Int\n7 capt [5 6] Int^{z} <: Int\n8 t-sub [1 7] : Int\n")
      (codes "bad node 3")
  -- one element is a member, and the other one is below
  pub element_and_a_variable :
      Says (
      codes "cert 1\nbind x: Int\nbind y: Int\nbind z: Int^{x, y}\nterm z\n1 t-var [] : Int^{z}\n"
      ++ codes "2 elem [] {x} <: {x}\n3 set [] {} <: {x}\n4 var [3] {y} <: {x}\n5 set [2 4] {x, y} <: {x}\n"
      ++ codes "6 var [5] {z} <: {x}\n7 set [6] {z} <: {x}\n8 refl [] Int <: Int\n"
      ++ codes "9 capt [7 8] Int^{z} <: Int^{x}\n10 t-sub [1 9] : Int^{x}\n")
      (codes "valid Int^{x}")
  -- no variable stands behind it
  pub the_universal_capability :
      Says (
      codes "cert 1\nbind x: Int^{cap}\nterm x\n1 t-var [] : Int^{x}\n2 set [] {} <: {}\n"
      ++ codes "3 var [2] {cap} <: {}\n4 set [3] {cap} <: {}\n5 var [4] {x} <: {}\n6 set [5] {x} <: {}\n"
      ++ codes "7 refl [] Int <: Int\n8 capt [6 7] Int^{x} <: Int\n9 t-sub [1 8] : Int\n")
      (codes "bad node 3")
  pub another_right_side_above :
      Says (
      codes "cert 1\nbind x: Int\nbind y: Int\nterm x\n1 t-var [] : Int^{x}\n2 elem [] {x} <: {x}\n"
      ++ codes "3 set [2] {x} <: {x, y}\n4 refl [] Int <: Int\n5 capt [3 4] Int^{x} <: Int^{x, y}\n"
      ++ codes "6 t-sub [1 5] : Int^{x, y}\n")
      (codes "bad node 3")

-- Each rule for shapes, where it serves and where it does not.
pub record ShapesBelowShapes : Type 0 where
  pub itself :
      Says (
      codes "cert 1\nterm 1\n1 t-lit [] : Int\n2 set [] {} <: {}\n3 refl [] Int <: Int\n"
      ++ codes "4 capt [2 3] Int <: Int\n5 t-sub [1 4] : Int\n")
      (codes "valid Int")
  pub another :
      Says (
      codes "cert 1\nterm 1\n1 t-lit [] : Int\n2 set [] {} <: {}\n3 refl [] Int <: Any\n"
      ++ codes "4 capt [2 3] Int <: Any\n5 t-sub [1 4] : Any\n")
      (codes "bad node 3")
  pub below_the_greatest :
      Says (
      codes "cert 1\nterm 1\n1 t-lit [] : Int\n2 set [] {} <: {}\n3 top [] Int <: Any\n"
      ++ codes "4 capt [2 3] Int <: Any\n5 t-sub [1 4] : Any\n")
      (codes "valid Any")
  pub below_no_other :
      Says (
      codes "cert 1\nterm 1\n1 t-lit [] : Int\n2 set [] {} <: {}\n3 top [] Int <: Bool\n"
      ++ codes "4 capt [2 3] Int <: Bool\n5 t-sub [1 4] : Bool\n")
      (codes "bad node 3")
  pub in_two_steps :
      Says (
      codes "cert 1\nterm 1\n1 t-lit [] : Int\n2 set [] {} <: {}\n3 refl [] Int <: Int\n"
      ++ codes "4 top [] Int <: Any\n5 tran [3 4] Int <: Any\n6 capt [2 5] Int <: Any\n7 t-sub [1 6] : Any\n")
      (codes "valid Any")
  pub in_two_steps_from_another :
      Says (
      codes "cert 1\nterm 1\n1 t-lit [] : Int\n2 set [] {} <: {}\n3 refl [] Bool <: Bool\n"
      ++ codes "4 top [] Bool <: Any\n5 tran [3 4] Int <: Any\n6 capt [2 5] Int <: Any\n"
      ++ codes "7 t-sub [1 6] : Any\n")
      (codes "bad node 5")
  pub in_two_steps_by_two_others :
      Says (
      codes "cert 1\nterm 1\n1 t-lit [] : Int\n2 set [] {} <: {}\n3 refl [] Int <: Int\n"
      ++ codes "4 top [] Bool <: Any\n5 tran [3 4] Int <: Any\n6 capt [2 5] Int <: Any\n"
      ++ codes "7 t-sub [1 6] : Any\n")
      (codes "bad node 5")
  pub in_two_steps_to_another :
      Says (
      codes "cert 1\nterm 1\n1 t-lit [] : Int\n2 set [] {} <: {}\n3 refl [] Int <: Int\n"
      ++ codes "4 top [] Int <: Any\n5 tran [3 4] Int <: Bool\n6 capt [2 5] Int <: Bool\n"
      ++ codes "7 t-sub [1 6] : Bool\n")
      (codes "bad node 5")
  pub in_one_step_of_two :
      Says (
      codes "cert 1\nterm 1\n1 t-lit [] : Int\n2 set [] {} <: {}\n3 top [] Int <: Any\n"
      ++ codes "4 tran [3] Int <: Any\n5 capt [2 4] Int <: Any\n6 t-sub [1 5] : Any\n")
      (codes "bad node 4")
  pub by_no_bound :
      Says (
      codes "cert 1\nterm 1\n1 t-lit [] : Int\n2 set [] {} <: {}\n3 tvar [] Int <: Any\n"
      ++ codes "4 capt [2 3] Int <: Any\n5 t-sub [1 4] : Any\n")
      (codes "bad node 3")
  pub variable_below_its_bound :
      Says (
      codes "cert 1\nterm fun [_T0 <: Int] => fun (_1: _T0) => _1\n1 t-var [] : _T0^{_1}\n"
      ++ codes "2 elem [] {_1} <: {_1}\n3 set [2] {_1} <: {_1}\n4 tvar [] _T0 <: Int\n"
      ++ codes "5 capt [3 4] _T0^{_1} <: Int^{_1}\n6 t-sub [1 5] : Int^{_1}\n"
      ++ codes "7 t-abs [6] : (_1: _T0) -> Int^{_1}\n8 t-tabs [7] : [_T0 <: Int] -> (_1: _T0) -> Int^{_1}\n")
      (codes "valid [_T0 <: Int] -> (_1: _T0) -> Int^{_1}")
  pub variable_below_itself :
      Says (
      codes "cert 1\nterm fun [_T0 <: Int] => fun (_1: _T0) => _1\n1 t-var [] : _T0^{_1}\n"
      ++ codes "2 elem [] {_1} <: {_1}\n3 set [2] {_1} <: {_1}\n4 refl [] _T0 <: _T0\n"
      ++ codes "5 capt [3 4] _T0^{_1} <: _T0^{_1}\n6 t-sub [1 5] : _T0^{_1}\n"
      ++ codes "7 t-abs [6] : (_1: _T0) -> _T0^{_1}\n8 t-tabs [7] : [_T0 <: Int] -> (_1: _T0) -> _T0^{_1}\n")
      (codes "valid [_T0 <: Int] -> (_1: _T0) -> _T0^{_1}")
  pub variable_below_another_shape :
      Says (
      codes "cert 1\nterm fun [_T0 <: Int] => fun (_1: _T0) => _1\n1 t-var [] : _T0^{_1}\n"
      ++ codes "2 elem [] {_1} <: {_1}\n3 set [2] {_1} <: {_1}\n4 tvar [] _T0 <: Any\n"
      ++ codes "5 capt [3 4] _T0^{_1} <: Any^{_1}\n6 t-sub [1 5] : Any^{_1}\n"
      ++ codes "7 t-abs [6] : (_1: _T0) -> Any^{_1}\n8 t-tabs [7] : [_T0 <: Int] -> (_1: _T0) -> Any^{_1}\n")
      (codes "bad node 4")
  pub variable_below_what_is_above_its_bound :
      Says (
      codes "cert 1\nterm fun [_T0 <: Int] => fun (_1: _T0) => _1\n1 t-var [] : _T0^{_1}\n"
      ++ codes "2 elem [] {_1} <: {_1}\n3 set [2] {_1} <: {_1}\n4 tvar [] _T0 <: Int\n5 top [] Int <: Any\n"
      ++ codes "6 tran [4 5] _T0 <: Any\n7 capt [3 6] _T0^{_1} <: Any^{_1}\n8 t-sub [1 7] : Any^{_1}\n"
      ++ codes "9 t-abs [8] : (_1: _T0) -> Any^{_1}\n10 t-tabs [9] : [_T0 <: Int] -> (_1: _T0) -> Any^{_1}\n")
      (codes "valid [_T0 <: Int] -> (_1: _T0) -> Any^{_1}")
  pub variable_in_steps_of_the_other_order :
      Says (
      codes "cert 1\nterm fun [_T0 <: Int] => fun (_1: _T0) => _1\n1 t-var [] : _T0^{_1}\n"
      ++ codes "2 elem [] {_1} <: {_1}\n3 set [2] {_1} <: {_1}\n4 top [] Int <: Any\n5 tvar [] _T0 <: Int\n"
      ++ codes "6 tran [4 5] _T0 <: Any\n7 capt [3 6] _T0^{_1} <: Any^{_1}\n8 t-sub [1 7] : Any^{_1}\n"
      ++ codes "9 t-abs [8] : (_1: _T0) -> Any^{_1}\n10 t-tabs [9] : [_T0 <: Int] -> (_1: _T0) -> Any^{_1}\n")
      (codes "bad node 6")

-- What the right function takes is below what the left one does, and what the left one gives is below what the right
-- one does, under the parameter of the right one.
pub record FunctionsBelowFunctions : Type 0 where
  pub in_both_parts :
      Says (
      codes "cert 1\nbind f: (_0: Any) -> Int\nterm f\n1 t-var [] : ((_0: Any) -> Int)^{f}\n"
      ++ codes "2 elem [] {f} <: {f}\n3 set [2] {f} <: {f}\n4 set [] {} <: {}\n5 top [] Int <: Any\n"
      ++ codes "6 capt [4 5] Int <: Any\n7 set [] {} <: {}\n8 top [] Int <: Any\n9 capt [7 8] Int <: Any\n"
      ++ codes "10 fun [6 9] (_0: Any) -> Int <: (_0: Int) -> Any\n"
      ++ codes "11 capt [3 10] ((_0: Any) -> Int)^{f} <: ((_0: Int) -> Any)^{f}\n"
      ++ codes "12 t-sub [1 11] : ((_0: Int) -> Any)^{f}\n")
      (codes "valid ((_0: Int) -> Any)^{f}")
  pub with_parameters_the_other_way_round :
      Says (
      codes "cert 1\nbind f: (_0: Int) -> Int\nterm f\n1 t-var [] : ((_0: Int) -> Int)^{f}\n"
      ++ codes "2 elem [] {f} <: {f}\n3 set [2] {f} <: {f}\n4 set [] {} <: {}\n5 top [] Int <: Any\n"
      ++ codes "6 capt [4 5] Int <: Any\n7 set [] {} <: {}\n8 refl [] Int <: Int\n9 capt [7 8] Int <: Int\n"
      ++ codes "10 fun [6 9] (_0: Int) -> Int <: (_0: Any) -> Int\n"
      ++ codes "11 capt [3 10] ((_0: Int) -> Int)^{f} <: ((_0: Any) -> Int)^{f}\n"
      ++ codes "12 t-sub [1 11] : ((_0: Any) -> Int)^{f}\n")
      (codes "bad node 10")
  pub with_results_the_other_way_round :
      Says (
      codes "cert 1\nbind f: (_0: Int) -> Any\nterm f\n1 t-var [] : ((_0: Int) -> Any)^{f}\n"
      ++ codes "2 elem [] {f} <: {f}\n3 set [2] {f} <: {f}\n4 set [] {} <: {}\n5 refl [] Int <: Int\n"
      ++ codes "6 capt [4 5] Int <: Int\n7 set [] {} <: {}\n8 top [] Int <: Any\n9 capt [7 8] Int <: Any\n"
      ++ codes "10 fun [6 9] (_0: Int) -> Any <: (_0: Int) -> Int\n"
      ++ codes "11 capt [3 10] ((_0: Int) -> Any)^{f} <: ((_0: Int) -> Int)^{f}\n"
      ++ codes "12 t-sub [1 11] : ((_0: Int) -> Int)^{f}\n")
      (codes "bad node 10")
  pub with_premises_the_other_way_round :
      Says (
      codes "cert 1\nbind f: (_0: Any) -> Int\nterm f\n1 t-var [] : ((_0: Any) -> Int)^{f}\n"
      ++ codes "2 elem [] {f} <: {f}\n3 set [2] {f} <: {f}\n4 set [] {} <: {}\n5 refl [] Int <: Int\n"
      ++ codes "6 capt [4 5] Int <: Int\n7 set [] {} <: {}\n8 top [] Int <: Any\n9 capt [7 8] Int <: Any\n"
      ++ codes "10 fun [6 9] (_0: Any) -> Int <: (_0: Int) -> Int\n"
      ++ codes "11 capt [3 10] ((_0: Any) -> Int)^{f} <: ((_0: Int) -> Int)^{f}\n"
      ++ codes "12 t-sub [1 11] : ((_0: Int) -> Int)^{f}\n")
      (codes "bad node 10")
  -- the parameter is below what is declared for it on the right
  pub under_the_parameter_of_the_right_one :
      Says (
      codes "cert 1\nbind x: Int\nbind f: (_0: Int) -> Int^{_0}\nterm f\n"
      ++ codes "1 t-var [] : ((_0: Int) -> Int^{_0})^{f}\n2 elem [] {f} <: {f}\n3 set [2] {f} <: {f}\n"
      ++ codes "4 set [] {} <: {}\n5 var [4] {x} <: {}\n6 set [5] {x} <: {}\n7 refl [] Int <: Int\n"
      ++ codes "8 capt [6 7] Int^{x} <: Int\n9 elem [] {x} <: {x}\n10 set [9] {x} <: {x}\n"
      ++ codes "11 var [10] {_0} <: {x}\n12 set [11] {_0} <: {x}\n13 refl [] Int <: Int\n"
      ++ codes "14 capt [12 13] Int^{_0} <: Int^{x}\n"
      ++ codes "15 fun [8 14] (_0: Int) -> Int^{_0} <: (_0: Int^{x}) -> Int^{x}\n"
      ++ codes "16 capt [3 15] ((_0: Int) -> Int^{_0})^{f} <: ((_0: Int^{x}) -> Int^{x})^{f}\n"
      ++ codes "17 t-sub [1 16] : ((_0: Int^{x}) -> Int^{x})^{f}\n")
      (codes "valid ((_0: Int^{x}) -> Int^{x})^{f}")
  pub under_the_parameter_of_the_left_one :
      Says (
      codes "cert 1\nbind x: Int\nbind f: (_0: Int) -> Int^{_0}\nterm f\n"
      ++ codes "1 t-var [] : ((_0: Int) -> Int^{_0})^{f}\n2 elem [] {f} <: {f}\n3 set [2] {f} <: {f}\n"
      ++ codes "4 set [] {} <: {}\n5 var [4] {x} <: {}\n6 set [5] {x} <: {}\n7 refl [] Int <: Int\n"
      ++ codes "8 capt [6 7] Int^{x} <: Int\n9 set [] {} <: {}\n10 var [9] {_0} <: {}\n"
      ++ codes "11 set [10] {_0} <: {}\n12 refl [] Int <: Int\n13 capt [11 12] Int^{_0} <: Int\n"
      ++ codes "14 fun [8 13] (_0: Int) -> Int^{_0} <: (_0: Int^{x}) -> Int\n"
      ++ codes "15 capt [3 14] ((_0: Int) -> Int^{_0})^{f} <: ((_0: Int^{x}) -> Int)^{f}\n"
      ++ codes "16 t-sub [1 15] : ((_0: Int^{x}) -> Int)^{f}\n")
      (codes "bad node 10")
  -- what is taken does not stand under the parameter
  pub that_take_functions :
      Says (
      codes "cert 1\nbind f: (_0: (_0: Int) -> Int) -> Int\nterm f\n"
      ++ codes "1 t-var [] : ((_0: (_0: Int) -> Int) -> Int)^{f}\n2 elem [] {f} <: {f}\n"
      ++ codes "3 set [2] {f} <: {f}\n4 set [] {} <: {}\n5 refl [] (_0: Int) -> Int <: (_0: Int) -> Int\n"
      ++ codes "6 capt [4 5] (_0: Int) -> Int <: (_0: Int) -> Int\n7 set [] {} <: {}\n8 top [] Int <: Any\n"
      ++ codes "9 capt [7 8] Int <: Any\n"
      ++ codes "10 fun [6 9] (_0: (_0: Int) -> Int) -> Int <: (_0: (_0: Int) -> Int) -> Any\n"
      ++ codes "11 capt [3 10] ((_0: (_0: Int) -> Int) -> Int)^{f} <: ((_0: (_0: Int) -> Int) -> Any)^{f}\n"
      ++ codes "12 t-sub [1 11] : ((_0: (_0: Int) -> Int) -> Any)^{f}\n")
      (codes "valid ((_0: (_0: Int) -> Int) -> Any)^{f}")
  -- what is given stands under the parameter
  pub that_give_functions :
      Says (
      codes "cert 1\nbind f: (_0: Int) -> (_1: Int) -> Int\nterm f\n"
      ++ codes "1 t-var [] : ((_0: Int) -> (_1: Int) -> Int)^{f}\n2 elem [] {f} <: {f}\n"
      ++ codes "3 set [2] {f} <: {f}\n4 set [] {} <: {}\n5 refl [] Int <: Int\n6 capt [4 5] Int <: Int\n"
      ++ codes "7 set [] {} <: {}\n8 top [] (_1: Int) -> Int <: Any\n9 capt [7 8] (_1: Int) -> Int <: Any\n"
      ++ codes "10 fun [6 9] (_0: Int) -> (_1: Int) -> Int <: (_0: Int) -> Any\n"
      ++ codes "11 capt [3 10] ((_0: Int) -> (_1: Int) -> Int)^{f} <: ((_0: Int) -> Any)^{f}\n"
      ++ codes "12 t-sub [1 11] : ((_0: Int) -> Any)^{f}\n")
      (codes "valid ((_0: Int) -> Any)^{f}")
  pub with_another_set_of_the_parameter :
      Says (
      codes "cert 1\nbind x: Int\nbind f: (_0: Int) -> Int\nterm f\n1 t-var [] : ((_0: Int) -> Int)^{f}\n"
      ++ codes "2 elem [] {f} <: {f}\n3 set [2] {f} <: {f}\n4 set [] {} <: {}\n5 refl [] Int <: Int\n"
      ++ codes "6 capt [4 5] Int <: Int\n7 set [] {} <: {}\n8 refl [] Int <: Int\n9 capt [7 8] Int <: Int\n"
      ++ codes "10 fun [6 9] (_0: Int) -> Int <: (_0: Int^{x}) -> Int\n"
      ++ codes "11 capt [3 10] ((_0: Int) -> Int)^{f} <: ((_0: Int^{x}) -> Int)^{f}\n"
      ++ codes "12 t-sub [1 11] : ((_0: Int^{x}) -> Int)^{f}\n")
      (codes "bad node 10")
  pub with_another_set_of_the_result :
      Says (
      codes "cert 1\nbind x: Int\nbind f: (_0: Int) -> Int^{x}\nterm f\n"
      ++ codes "1 t-var [] : ((_0: Int) -> Int^{x})^{f}\n2 elem [] {f} <: {f}\n3 set [2] {f} <: {f}\n"
      ++ codes "4 set [] {} <: {}\n5 refl [] Int <: Int\n6 capt [4 5] Int <: Int\n7 set [] {} <: {}\n"
      ++ codes "8 refl [] Int <: Int\n9 capt [7 8] Int <: Int\n"
      ++ codes "10 fun [6 9] (_0: Int) -> Int^{x} <: (_0: Int) -> Int\n"
      ++ codes "11 capt [3 10] ((_0: Int) -> Int^{x})^{f} <: ((_0: Int) -> Int)^{f}\n"
      ++ codes "12 t-sub [1 11] : ((_0: Int) -> Int)^{f}\n")
      (codes "bad node 10")

-- Type functions have one bound, and what they give compares under it; boxes compare by their contents.
pub record TypeFunctionsAndBoxes : Type 0 where
  -- what they give compares under the type variable
  pub type_functions :
      Says (
      codes "cert 1\nbind f: [_T0 <: Int] -> _T0\nterm f\n1 t-var [] : ([_T0 <: Int] -> _T0)^{f}\n"
      ++ codes "2 elem [] {f} <: {f}\n3 set [2] {f} <: {f}\n4 refl [] Int <: Int\n5 set [] {} <: {}\n"
      ++ codes "6 tvar [] _T0 <: Int\n7 capt [5 6] _T0 <: Int\n"
      ++ codes "8 tfun [4 7] [_T0 <: Int] -> _T0 <: [_T0 <: Int] -> Int\n"
      ++ codes "9 capt [3 8] ([_T0 <: Int] -> _T0)^{f} <: ([_T0 <: Int] -> Int)^{f}\n"
      ++ codes "10 t-sub [1 9] : ([_T0 <: Int] -> Int)^{f}\n")
      (codes "valid ([_T0 <: Int] -> Int)^{f}")
  -- the bound does not stand under the type variable
  pub type_functions_with_bounds_of_functions :
      Says (
      codes "cert 1\nbind f: [_T0 <: (_0: Int) -> Int] -> Int\nterm f\n"
      ++ codes "1 t-var [] : ([_T0 <: (_0: Int) -> Int] -> Int)^{f}\n2 elem [] {f} <: {f}\n"
      ++ codes "3 set [2] {f} <: {f}\n4 refl [] (_0: Int) -> Int <: (_0: Int) -> Int\n5 set [] {} <: {}\n"
      ++ codes "6 top [] Int <: Any\n7 capt [5 6] Int <: Any\n"
      ++ codes "8 tfun [4 7] [_T0 <: (_0: Int) -> Int] -> Int <: [_T0 <: (_0: Int) -> Int] -> Any\n"
      ++ codes "9 capt [3 8] ([_T0 <: (_0: Int) -> Int] -> Int)^{f} <: ([_T0 <: (_0: Int) -> Int] "
      ++ codes "-> Any)^{f}\n10 t-sub [1 9] : ([_T0 <: (_0: Int) -> Int] -> Any)^{f}\n")
      (codes "valid ([_T0 <: (_0: Int) -> Int] -> Any)^{f}")
  pub type_functions_that_give_functions :
      Says (
      codes "cert 1\nbind f: [_T0 <: Int] -> (_1: Int) -> Int\nterm f\n"
      ++ codes "1 t-var [] : ([_T0 <: Int] -> (_1: Int) -> Int)^{f}\n2 elem [] {f} <: {f}\n"
      ++ codes "3 set [2] {f} <: {f}\n4 refl [] Int <: Int\n5 set [] {} <: {}\n"
      ++ codes "6 top [] (_1: Int) -> Int <: Any\n7 capt [5 6] (_1: Int) -> Int <: Any\n"
      ++ codes "8 tfun [4 7] [_T0 <: Int] -> (_1: Int) -> Int <: [_T0 <: Int] -> Any\n"
      ++ codes "9 capt [3 8] ([_T0 <: Int] -> (_1: Int) -> Int)^{f} <: ([_T0 <: Int] -> Any)^{f}\n"
      ++ codes "10 t-sub [1 9] : ([_T0 <: Int] -> Any)^{f}\n")
      (codes "valid ([_T0 <: Int] -> Any)^{f}")
  -- no place follows for what stands above
  pub type_functions_of_two_bounds :
      Says (
      codes "cert 1\nbind f: [_T0 <: Any] -> Int\nterm f\n1 t-var [] : ([_T0 <: Any] -> Int)^{f}\n"
      ++ codes "2 elem [] {f} <: {f}\n3 set [2] {f} <: {f}\n4 top [] Int <: Bool\n5 set [] {} <: {}\n"
      ++ codes "6 refl [] Int <: Int\n7 capt [5 6] Int <: Int\n"
      ++ codes "8 tfun [4 7] [_T0 <: Any] -> Int <: [_T0 <: Int] -> Int\n"
      ++ codes "9 capt [3 8] ([_T0 <: Any] -> Int)^{f} <: ([_T0 <: Int] -> Int)^{f}\n"
      ++ codes "10 t-sub [1 9] : ([_T0 <: Int] -> Int)^{f}\n")
      (codes "bad node 8")
  pub type_functions_by_another_bound :
      Says (
      codes "cert 1\nbind f: [_T0 <: Int] -> Int\nterm f\n1 t-var [] : ([_T0 <: Int] -> Int)^{f}\n"
      ++ codes "2 elem [] {f} <: {f}\n3 set [2] {f} <: {f}\n4 refl [] Bool <: Bool\n5 set [] {} <: {}\n"
      ++ codes "6 refl [] Int <: Int\n7 capt [5 6] Int <: Int\n"
      ++ codes "8 tfun [4 7] [_T0 <: Int] -> Int <: [_T0 <: Int] -> Int\n"
      ++ codes "9 capt [3 8] ([_T0 <: Int] -> Int)^{f} <: ([_T0 <: Int] -> Int)^{f}\n"
      ++ codes "10 t-sub [1 9] : ([_T0 <: Int] -> Int)^{f}\n")
      (codes "bad node 8")
  pub type_functions_with_results_the_other_way_round :
      Says (
      codes "cert 1\nbind f: [_T0 <: Int] -> Any\nterm f\n1 t-var [] : ([_T0 <: Int] -> Any)^{f}\n"
      ++ codes "2 elem [] {f} <: {f}\n3 set [2] {f} <: {f}\n4 refl [] Int <: Int\n5 set [] {} <: {}\n"
      ++ codes "6 top [] Int <: Any\n7 capt [5 6] Int <: Any\n"
      ++ codes "8 tfun [4 7] [_T0 <: Int] -> Any <: [_T0 <: Int] -> Int\n"
      ++ codes "9 capt [3 8] ([_T0 <: Int] -> Any)^{f} <: ([_T0 <: Int] -> Int)^{f}\n"
      ++ codes "10 t-sub [1 9] : ([_T0 <: Int] -> Int)^{f}\n")
      (codes "bad node 8")
  pub boxes :
      Says (
      codes "cert 1\nbind f: Box[Int]\nterm f\n1 t-var [] : Box[Int]^{f}\n2 elem [] {f} <: {f}\n"
      ++ codes "3 set [2] {f} <: {f}\n4 set [] {} <: {}\n5 top [] Int <: Any\n6 capt [4 5] Int <: Any\n"
      ++ codes "7 boxed [6] Box[Int] <: Box[Any]\n8 capt [3 7] Box[Int]^{f} <: Box[Any]^{f}\n"
      ++ codes "9 t-sub [1 8] : Box[Any]^{f}\n")
      (codes "valid Box[Any]^{f}")
  pub boxes_the_other_way_round :
      Says (
      codes "cert 1\nbind f: Box[Any]\nterm f\n1 t-var [] : Box[Any]^{f}\n2 elem [] {f} <: {f}\n"
      ++ codes "3 set [2] {f} <: {f}\n4 set [] {} <: {}\n5 top [] Int <: Any\n6 capt [4 5] Int <: Any\n"
      ++ codes "7 boxed [6] Box[Any] <: Box[Int]\n8 capt [3 7] Box[Any]^{f} <: Box[Int]^{f}\n"
      ++ codes "9 t-sub [1 8] : Box[Int]^{f}\n")
      (codes "bad node 7")
  pub boxes_with_sets :
      Says (
      codes "cert 1\nbind x: Int\nbind f: Box[Int^{x}]\nterm f\n1 t-var [] : Box[Int^{x}]^{f}\n"
      ++ codes "2 elem [] {f} <: {f}\n3 set [2] {f} <: {f}\n4 set [] {} <: {}\n5 var [4] {x} <: {}\n"
      ++ codes "6 set [5] {x} <: {}\n7 refl [] Int <: Int\n8 capt [6 7] Int^{x} <: Int\n"
      ++ codes "9 boxed [8] Box[Int^{x}] <: Box[Int]\n10 capt [3 9] Box[Int^{x}]^{f} <: Box[Int]^{f}\n"
      ++ codes "11 t-sub [1 10] : Box[Int]^{f}\n")
      (codes "valid Box[Int]^{f}")
  pub boxes_with_another_set :
      Says (
      codes "cert 1\nbind x: Int\nbind f: Box[Int^{x}]\nterm f\n1 t-var [] : Box[Int^{x}]^{f}\n"
      ++ codes "2 elem [] {f} <: {f}\n3 set [2] {f} <: {f}\n4 set [] {} <: {}\n5 refl [] Int <: Int\n"
      ++ codes "6 capt [4 5] Int <: Int\n7 boxed [6] Box[Int^{x}] <: Box[Int]\n"
      ++ codes "8 capt [3 7] Box[Int^{x}]^{f} <: Box[Int]^{f}\n9 t-sub [1 8] : Box[Int]^{f}\n")
      (codes "bad node 7")
  -- exits compare by themselves alone
  pub exits :
      Says (
      codes "cert 1\nbind f: Exit[Int]\nterm f\n1 t-var [] : Exit[Int]^{f}\n2 elem [] {f} <: {f}\n"
      ++ codes "3 set [2] {f} <: {f}\n4 set [] {} <: {}\n5 refl [] Int <: Int\n6 capt [4 5] Int <: Int\n"
      ++ codes "7 boxed [6] Exit[Int] <: Exit[Int]\n8 capt [3 7] Exit[Int]^{f} <: Exit[Int]^{f}\n"
      ++ codes "9 t-sub [1 8] : Exit[Int]^{f}\n")
      (codes "bad node 7")

-- Types compare by their sets and then by their shapes, and each comparison is of its own kind.
pub record TypesBelowTypes : Type 0 where
  pub by_shape_and_set :
      Says (
      codes "cert 1\nterm 1\n1 t-lit [] : Int\n2 refl [] Int <: Int\n3 set [] {} <: {}\n"
      ++ codes "4 capt [2 3] Int <: Int\n5 t-sub [1 4] : Int\n")
      (codes "bad node 2")
  pub by_another_set :
      Says (
      codes "cert 1\nbind x: Int\nterm x\n1 t-var [] : Int^{x}\n2 set [] {} <: {}\n3 refl [] Int <: Int\n"
      ++ codes "4 capt [2 3] Int^{x} <: Int\n5 t-sub [1 4] : Int\n")
      (codes "bad node 4")
  pub by_another_shape :
      Says (
      codes "cert 1\nterm 1\n1 t-lit [] : Int\n2 set [] {} <: {}\n3 refl [] Bool <: Bool\n"
      ++ codes "4 capt [2 3] Int <: Int\n5 t-sub [1 4] : Int\n")
      (codes "bad node 4")
  pub by_their_shapes_alone :
      Says (
      codes "cert 1\nterm 1\n1 t-lit [] : Int\n2 refl [] Int <: Int\n3 capt [2] Int <: Int\n"
      ++ codes "4 t-sub [1 3] : Int\n")
      (codes "bad node 3")
  pub by_their_shapes_in_the_place_of_both :
      Says (codes "cert 1\nterm 1\n1 t-lit [] : Int\n2 refl [] Int <: Int\n3 t-sub [1 2] : Int\n")
      (codes "bad node 2")
  pub by_a_rule_of_shapes :
      Says (
      codes "cert 1\nterm 1\n1 t-lit [] : Int\n2 set [] {} <: {}\n3 t-lit [] : Int\n"
      ++ codes "4 capt [2 3] Int <: Int\n5 t-sub [1 4] : Int\n")
      (codes "bad node 3")
