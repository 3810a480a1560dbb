-- Certificates of each rule of typing, with what is found of them: one that is valid, and for each condition of the
-- rule one in which it alone does not hold.
use Rattle.std.specs.Prelude.{codes, ◌++◌}
use Rattle.cc_certificate_examples.specs.FoundTexts.{Says}

-- A variable has its declared shape, and captures itself alone; a literal has its base shape, and captures nothing.
pub record VariablesAndLiterals : Type 0 where
  pub variable :
      Says (codes "cert 1\nbind x: Int\nterm x\n1 t-var [] : Int^{x}\n")
      (codes "valid Int^{x}")
  -- what is declared for it is not what it captures
  pub variable_of_a_device :
      Says (codes "cert 1\nbind out: Console^{cap}\nterm out\n1 t-var [] : Console^{out}\n")
      (codes "valid Console^{out}")
  pub declared_set :
      Says (codes "cert 1\nbind out: Console^{cap}\nterm out\n1 t-var [] : Console^{cap}\n")
      (codes "bad node 1")
  pub another_shape :
      Says (codes "cert 1\nbind x: Int\nterm x\n1 t-var [] : Bool^{x}\n")
      (codes "bad node 1")
  pub another_variable :
      Says (codes "cert 1\nbind x: Int\nbind y: Int\nterm x\n1 t-var [] : Int^{y}\n")
      (codes "bad node 1")
  pub two_variables :
      Says (codes "cert 1\nbind x: Int\nbind y: Int\nterm x\n1 t-var [] : Int^{x, y}\n")
      (codes "bad node 1")
  pub older_variable :
      Says (codes "cert 1\nbind x: Int\nbind y: Bool\nterm x\n1 t-var [] : Int^{x}\n")
      (codes "valid Int^{x}")
  pub unit_value :
      Says (codes "cert 1\nterm unit\n1 t-lit [] : Unit\n")
      (codes "valid Unit")
  pub truth :
      Says (codes "cert 1\nterm true\n1 t-lit [] : Bool\n")
      (codes "valid Bool")
  pub falsehood :
      Says (codes "cert 1\nterm false\n1 t-lit [] : Bool\n")
      (codes "valid Bool")
  pub number :
      Says (codes "cert 1\nterm 0\n1 t-lit [] : Int\n")
      (codes "valid Int")
  pub text :
      Says (codes "cert 1\nterm \"\"\n1 t-lit [] : Str\n")
      (codes "valid Str")
  pub truth_is_no_number :
      Says (codes "cert 1\nterm true\n1 t-lit [] : Int\n")
      (codes "bad node 1")
  pub literal_that_captures :
      Says (codes "cert 1\nterm 1\n1 t-lit [] : Int^{cap}\n")
      (codes "bad node 1")

-- A function captures what is free in its body, and its result is closed over its parameter; so it is with type
-- functions.
pub record Functions : Type 0 where
  pub of_its_parameter :
      Says (
      codes "cert 1\nterm fun (_0: Int) => _0\n1 t-var [] : Int^{_0}\n"
      ++ codes "2 t-abs [1] : (_0: Int) -> Int^{_0}\n")
      (codes "valid (_0: Int) -> Int^{_0}")
  pub of_a_device :
      Says (
      codes "cert 1\nbind out: Console^{cap}\nterm fun (_0: Int) => out\n1 t-var [] : Console^{out}\n"
      ++ codes "2 t-abs [1] : ((_0: Int) -> Console^{out})^{out}\n")
      (codes "valid ((_0: Int) -> Console^{out})^{out}")
  pub that_hides_a_device :
      Says (
      codes "cert 1\nbind out: Console^{cap}\nterm fun (_0: Int) => out\n1 t-var [] : Console^{out}\n"
      ++ codes "2 t-abs [1] : (_0: Int) -> Console^{out}\n")
      (codes "bad node 2")
  pub that_captures_too_much :
      Says (
      codes "cert 1\nbind out: Console^{cap}\nterm fun (_0: Int) => _0\n1 t-var [] : Int^{_0}\n"
      ++ codes "2 t-abs [1] : ((_0: Int) -> Int^{_0})^{out}\n")
      (codes "bad node 2")
  pub of_another_parameter :
      Says (
      codes "cert 1\nterm fun (_0: Int) => _0\n1 t-var [] : Int^{_0}\n"
      ++ codes "2 t-abs [1] : (_0: Int^{cap}) -> Int^{_0}\n")
      (codes "bad node 2")
  pub of_another_result :
      Says (
      codes "cert 1\nbind x: Int\nterm fun (_0: Int) => x\n1 t-var [] : Int^{x}\n"
      ++ codes "2 t-abs [1] : ((_0: Int) -> Int)^{x}\n")
      (codes "bad node 2")
  -- the parameter of the inner one is the second local variable in both
  pub in_a_function :
      Says (
      codes "cert 1\nterm fun (_0: Unit) => fun (_1: Int) => _0\n1 t-var [] : Unit^{_0}\n"
      ++ codes "2 t-abs [1] : ((_1: Int) -> Unit^{_0})^{_0}\n"
      ++ codes "3 t-abs [2] : (_0: Unit) -> ((_1: Int) -> Unit^{_0})^{_0}\n")
      (codes "valid (_0: Unit) -> ((_1: Int) -> Unit^{_0})^{_0}")
  pub of_a_shape :
      Says (
      codes "cert 1\nterm fun [_T0 <: Int] => fun (_1: _T0) => _1\n1 t-var [] : _T0^{_1}\n"
      ++ codes "2 t-abs [1] : (_1: _T0) -> _T0^{_1}\n3 t-tabs [2] : [_T0 <: Int] -> (_1: _T0) -> _T0^{_1}\n")
      (codes "valid [_T0 <: Int] -> (_1: _T0) -> _T0^{_1}")
  pub of_another_bound :
      Says (codes "cert 1\nterm fun [_T0 <: Int] => 1\n1 t-lit [] : Int\n2 t-tabs [1] : [_T0 <: Any] -> Int\n")
      (codes "bad node 2")
  pub of_a_shape_and_a_device :
      Says (
      codes "cert 1\nbind out: Console^{cap}\nterm fun [_T0 <: Any] => out\n1 t-var [] : Console^{out}\n"
      ++ codes "2 t-tabs [1] : ([_T0 <: Any] -> Console^{out})^{out}\n")
      (codes "valid ([_T0 <: Any] -> Console^{out})^{out}")
  pub of_a_shape_that_hides_a_device :
      Says (
      codes "cert 1\nbind out: Console^{cap}\nterm fun [_T0 <: Any] => out\n1 t-var [] : Console^{out}\n"
      ++ codes "2 t-tabs [1] : [_T0 <: Any] -> Console^{out}\n")
      (codes "bad node 2")

-- An argument has exactly the type that the function takes, and takes the place of the parameter in its result; so it
-- is with shapes and bounds.
pub record Applications : Type 0 where
  pub whole :
      Says (
      codes "cert 1\nbind x: Int\nbind f: (_0: Int^{x}) -> Box[Int^{_0}]^{_0}\nterm f(x)\n"
      ++ codes "1 t-var [] : ((_0: Int^{x}) -> Box[Int^{_0}]^{_0})^{f}\n2 t-var [] : Int^{x}\n"
      ++ codes "3 t-app [1 2] : Box[Int^{x}]^{x}\n")
      (codes "valid Box[Int^{x}]^{x}")
  pub argument_with_a_set_more :
      Says (
      codes "cert 1\nbind x: Int\nbind f: (_0: Int) -> Int\nterm f(x)\n"
      ++ codes "1 t-var [] : ((_0: Int) -> Int)^{f}\n2 t-var [] : Int^{x}\n3 t-app [1 2] : Int\n")
      (codes "bad node 3")
  pub argument_of_another_shape :
      Says (
      codes "cert 1\nbind x: Int\nbind f: (_0: Any^{x}) -> Int\nterm f(x)\n"
      ++ codes "1 t-var [] : ((_0: Any^{x}) -> Int)^{f}\n2 t-var [] : Int^{x}\n3 t-app [1 2] : Int\n")
      (codes "bad node 3")
  pub result_without_the_argument :
      Says (
      codes "cert 1\nbind x: Int\nbind f: (_0: Int^{x}) -> Int^{_0}\nterm f(x)\n"
      ++ codes "1 t-var [] : ((_0: Int^{x}) -> Int^{_0})^{f}\n2 t-var [] : Int^{x}\n3 t-app [1 2] : Int\n")
      (codes "bad node 3")
  pub of_no_function :
      Says (
      codes "cert 1\nbind x: Int\nterm x(x)\n1 t-var [] : Int^{x}\n2 t-var [] : Int^{x}\n"
      ++ codes "3 t-app [1 2] : Int\n")
      (codes "bad node 3")
  pub to_a_shape :
      Says (
      codes "cert 1\nbind f: [_T0 <: Any] -> Box[_T0]\nterm f[Int]\n"
      ++ codes "1 t-var [] : ([_T0 <: Any] -> Box[_T0])^{f}\n2 top [] Int <: Any\n"
      ++ codes "3 t-tapp [1 2] : Box[Int]\n")
      (codes "valid Box[Int]")
  pub comparison_of_another_shape :
      Says (
      codes "cert 1\nbind f: [_T0 <: Any] -> Box[_T0]\nterm f[Int]\n"
      ++ codes "1 t-var [] : ([_T0 <: Any] -> Box[_T0])^{f}\n2 top [] Bool <: Any\n"
      ++ codes "3 t-tapp [1 2] : Box[Int]\n")
      (codes "bad node 3")
  pub comparison_with_another_bound :
      Says (
      codes "cert 1\nbind f: [_T0 <: Any] -> Box[_T0]\nterm f[Int]\n"
      ++ codes "1 t-var [] : ([_T0 <: Any] -> Box[_T0])^{f}\n2 refl [] Int <: Int\n"
      ++ codes "3 t-tapp [1 2] : Box[Int]\n")
      (codes "bad node 3")
  pub result_of_another_shape :
      Says (
      codes "cert 1\nbind f: [_T0 <: Any] -> Box[_T0]\nterm f[Int]\n"
      ++ codes "1 t-var [] : ([_T0 <: Any] -> Box[_T0])^{f}\n2 top [] Int <: Any\n"
      ++ codes "3 t-tapp [1 2] : Box[Any]\n")
      (codes "bad node 3")
  pub of_no_type_function :
      Says (
      codes "cert 1\nbind x: Int\nterm x[Int]\n1 t-var [] : Int^{x}\n2 top [] Int <: Any\n"
      ++ codes "3 t-tapp [1 2] : Int\n")
      (codes "bad node 3")

-- A box captures nothing, and is opened under the set of its content; neither is done with the universal capability.
pub record Boxes : Type 0 where
  pub of_a_variable :
      Says (codes "cert 1\nbind x: Int\nterm box x\n1 t-var [] : Int^{x}\n2 t-box [1] : Box[Int^{x}]\n")
      (codes "valid Box[Int^{x}]")
  pub that_captures :
      Says (codes "cert 1\nbind x: Int\nterm box x\n1 t-var [] : Int^{x}\n2 t-box [1] : Box[Int^{x}]^{x}\n")
      (codes "bad node 2")
  pub of_another_content :
      Says (codes "cert 1\nbind x: Int\nterm box x\n1 t-var [] : Int^{x}\n2 t-box [1] : Box[Int]\n")
      (codes "bad node 2")
  pub of_the_universal_capability :
      Says (
      codes "cert 1\nbind out: Console^{cap}\nterm box out\n1 t-var [] : Console^{out}\n"
      ++ codes "2 elem [] {cap} <: {cap}\n3 set [2] {cap} <: {cap}\n4 var [3] {out} <: {cap}\n"
      ++ codes "5 set [4] {out} <: {cap}\n6 refl [] Console <: Console\n"
      ++ codes "7 capt [5 6] Console^{out} <: Console^{cap}\n8 t-sub [1 7] : Console^{cap}\n"
      ++ codes "9 t-box [8] : Box[Console^{cap}]\n")
      (codes "bad node 9")
  pub opened :
      Says (
      codes "cert 1\nbind x: Int\nbind b: Box[Int^{x}]\nterm unbox {x} b\n1 t-var [] : Box[Int^{x}]^{b}\n"
      ++ codes "2 t-unbox [1] : Int^{x}\n")
      (codes "valid Int^{x}")
  pub opened_with_nothing :
      Says (codes "cert 1\nbind b: Box[Int]\nterm unbox {} b\n1 t-var [] : Box[Int]^{b}\n2 t-unbox [1] : Int\n")
      (codes "valid Int")
  pub opened_under_another_set :
      Says (
      codes "cert 1\nbind x: Int\nbind b: Box[Int^{x}]\nterm unbox {} b\n1 t-var [] : Box[Int^{x}]^{b}\n"
      ++ codes "2 t-unbox [1] : Int\n")
      (codes "bad node 2")
  pub opened_under_a_set_more :
      Says (
      codes "cert 1\nbind x: Int\nbind b: Box[Int]\nterm unbox {x} b\n1 t-var [] : Box[Int]^{b}\n"
      ++ codes "2 t-unbox [1] : Int^{x}\n")
      (codes "bad node 2")
  pub opened_as_another_type :
      Says (
      codes "cert 1\nbind x: Int\nbind b: Box[Int^{x}]\nterm unbox {x} b\n1 t-var [] : Box[Int^{x}]^{b}\n"
      ++ codes "2 t-unbox [1] : Int\n")
      (codes "bad node 2")
  pub opened_under_the_universal_capability :
      Says (
      codes "cert 1\nbind b: Box[Console^{cap}]\nterm unbox {cap} b\n"
      ++ codes "1 t-var [] : Box[Console^{cap}]^{b}\n2 t-unbox [1] : Console^{cap}\n")
      (codes "bad node 2")
  pub that_is_none :
      Says (codes "cert 1\nbind b: Int\nterm unbox {} b\n1 t-var [] : Int^{b}\n2 t-unbox [1] : Int\n")
      (codes "bad node 2")

-- The right side of a let has exactly the type that is written, if one is, and the body stands under a variable of
-- the type that the right side has.
pub record Lets : Type 0 where
  pub with_no_type :
      Says (codes "cert 1\nterm let _0 = 1 in 2\n1 t-lit [] : Int\n2 t-lit [] : Int\n3 t-let [1 2] : Int\n")
      (codes "valid Int")
  pub with_a_type :
      Says (
      codes "cert 1\nbind x: Int\nterm let _0: Int^{x} = x in 2\n1 t-var [] : Int^{x}\n2 t-lit [] : Int\n"
      ++ codes "3 t-let [1 2] : Int\n")
      (codes "valid Int")
  pub with_another_set :
      Says (
      codes "cert 1\nbind x: Int\nterm let _0: Int = x in 2\n1 t-var [] : Int^{x}\n2 t-lit [] : Int\n"
      ++ codes "3 t-let [1 2] : Int\n")
      (codes "bad node 3")
  pub with_another_shape :
      Says (codes "cert 1\nterm let _0: Any = 1 in 2\n1 t-lit [] : Int\n2 t-lit [] : Int\n3 t-let [1 2] : Int\n")
      (codes "bad node 3")
  pub of_another_type :
      Says (codes "cert 1\nterm let _0 = 1 in 2\n1 t-lit [] : Int\n2 t-lit [] : Int\n3 t-let [1 2] : Any\n")
      (codes "bad node 3")
  -- the variable is below what the right side captures
  pub whose_body_is_its_variable :
      Says (
      codes "cert 1\nbind x: Int\nterm let _0 = x in _0\n1 t-var [] : Int^{x}\n2 t-var [] : Int^{_0}\n"
      ++ codes "3 elem [] {x} <: {x}\n4 set [3] {x} <: {x}\n5 var [4] {_0} <: {x}\n6 set [5] {_0} <: {x}\n"
      ++ codes "7 refl [] Int <: Int\n8 capt [6 7] Int^{_0} <: Int^{x}\n9 t-sub [2 8] : Int^{x}\n"
      ++ codes "10 t-let [1 9] : Int^{x}\n")
      (codes "valid Int^{x}")
  -- its binder does not stand under the variable
  pub whose_right_side_is_a_function :
      Says (
      codes "cert 1\nterm let _0 = fun (_0: Int) => 1 in 2\n1 t-lit [] : Int\n"
      ++ codes "2 t-abs [1] : (_0: Int) -> Int\n3 t-lit [] : Int\n4 t-let [2 3] : Int\n")
      (codes "valid Int")
  pub that_names_its_variable :
      Says (
      codes "cert 1\nterm let _0 = 1 in _0\n1 t-lit [] : Int\n2 t-var [] : Int^{_0}\n"
      ++ codes "3 t-let [1 2] : Int^{_0}\n")
      (codes "bad node 3")
  pub whose_variable_has_another_shape :
      Says (
      codes "cert 1\nterm let _0 = 1 in _0\n1 t-lit [] : Int\n2 t-var [] : Bool^{_0}\n"
      ++ codes "3 t-let [1 2] : Bool\n")
      (codes "bad node 2")

-- Both sides of an operator are numbers, whatever they capture, and what it gives captures nothing.
pub record Operators : Type 0 where
  pub sum :
      Says (
      codes "cert 1\nbind x: Int\nbind y: Int\nterm x + y\n1 t-var [] : Int^{x}\n2 t-var [] : Int^{y}\n"
      ++ codes "3 t-prim [1 2] : Int\n")
      (codes "valid Int")
  pub difference :
      Says (
      codes "cert 1\nbind x: Int\nbind y: Int\nterm x - y\n1 t-var [] : Int^{x}\n2 t-var [] : Int^{y}\n"
      ++ codes "3 t-prim [1 2] : Int\n")
      (codes "valid Int")
  pub product :
      Says (
      codes "cert 1\nbind x: Int\nbind y: Int\nterm x * y\n1 t-var [] : Int^{x}\n2 t-var [] : Int^{y}\n"
      ++ codes "3 t-prim [1 2] : Int\n")
      (codes "valid Int")
  pub less :
      Says (
      codes "cert 1\nbind x: Int\nbind y: Int\nterm x < y\n1 t-var [] : Int^{x}\n2 t-var [] : Int^{y}\n"
      ++ codes "3 t-prim [1 2] : Bool\n")
      (codes "valid Bool")
  pub equal :
      Says (
      codes "cert 1\nbind x: Int\nbind y: Int\nterm x == y\n1 t-var [] : Int^{x}\n2 t-var [] : Int^{y}\n"
      ++ codes "3 t-prim [1 2] : Bool\n")
      (codes "valid Bool")
  pub left_side_is_no_number :
      Says (
      codes "cert 1\nbind b: Bool\nbind y: Int\nterm b == y\n1 t-var [] : Bool^{b}\n"
      ++ codes "2 t-var [] : Int^{y}\n3 t-prim [1 2] : Bool\n")
      (codes "bad node 3")
  pub right_side_is_no_number :
      Says (
      codes "cert 1\nbind x: Int\nbind b: Bool\nterm x == b\n1 t-var [] : Int^{x}\n"
      ++ codes "2 t-var [] : Bool^{b}\n3 t-prim [1 2] : Bool\n")
      (codes "bad node 3")
  pub comparison_gives_no_number :
      Says (
      codes "cert 1\nbind x: Int\nterm x < x\n1 t-var [] : Int^{x}\n2 t-var [] : Int^{x}\n"
      ++ codes "3 t-prim [1 2] : Int\n")
      (codes "bad node 3")
  pub sum_captures_nothing :
      Says (
      codes "cert 1\nbind x: Int\nterm x + x\n1 t-var [] : Int^{x}\n2 t-var [] : Int^{x}\n"
      ++ codes "3 t-prim [1 2] : Int^{x}\n")
      (codes "bad node 3")
  -- the first premise is about the left side
  pub sides_in_order :
      Says (
      codes "cert 1\nbind x: Int\nbind y: Int\nterm x - y\n1 t-var [] : Int^{y}\n2 t-var [] : Int^{x}\n"
      ++ codes "3 t-prim [1 2] : Int\n")
      (codes "bad node 1")

-- Both branches of a choice have exactly the type that is written.
pub record Choices : Type 0 where
  pub of_numbers :
      Says (
      codes "cert 1\nbind b: Bool\nterm if [Int] b then 1 else 2\n1 t-var [] : Bool^{b}\n"
      ++ codes "2 t-lit [] : Int\n3 t-lit [] : Int\n4 t-if [1 2 3] : Int\n")
      (codes "valid Int")
  pub of_a_type_with_a_set :
      Says (
      codes "cert 1\nbind b: Bool\nbind x: Int\nterm if [Int^{x}] b then x else x\n"
      ++ codes "1 t-var [] : Bool^{b}\n2 t-var [] : Int^{x}\n3 t-var [] : Int^{x}\n"
      ++ codes "4 t-if [1 2 3] : Int^{x}\n")
      (codes "valid Int^{x}")
  pub by_a_number :
      Says (
      codes "cert 1\nbind x: Int\nterm if [Int] x then 1 else 2\n1 t-var [] : Int^{x}\n2 t-lit [] : Int\n"
      ++ codes "3 t-lit [] : Int\n4 t-if [1 2 3] : Int\n")
      (codes "bad node 4")
  pub first_branch_captures :
      Says (
      codes "cert 1\nbind b: Bool\nbind x: Int\nterm if [Int] b then x else 1\n1 t-var [] : Bool^{b}\n"
      ++ codes "2 t-var [] : Int^{x}\n3 t-lit [] : Int\n4 t-if [1 2 3] : Int\n")
      (codes "bad node 4")
  pub second_branch_captures :
      Says (
      codes "cert 1\nbind b: Bool\nbind x: Int\nterm if [Int] b then 1 else x\n1 t-var [] : Bool^{b}\n"
      ++ codes "2 t-lit [] : Int\n3 t-var [] : Int^{x}\n4 t-if [1 2 3] : Int\n")
      (codes "bad node 4")
  pub first_branch_has_another_shape :
      Says (
      codes "cert 1\nbind b: Bool\nterm if [Int] b then unit else 1\n1 t-var [] : Bool^{b}\n"
      ++ codes "2 t-lit [] : Unit\n3 t-lit [] : Int\n4 t-if [1 2 3] : Int\n")
      (codes "bad node 4")
  pub second_branch_has_another_shape :
      Says (
      codes "cert 1\nbind b: Bool\nterm if [Int] b then 1 else unit\n1 t-var [] : Bool^{b}\n"
      ++ codes "2 t-lit [] : Int\n3 t-lit [] : Unit\n4 t-if [1 2 3] : Int\n")
      (codes "bad node 4")
  pub of_another_type :
      Says (
      codes "cert 1\nbind b: Bool\nbind x: Int\nterm if [Int^{x}] b then x else x\n"
      ++ codes "1 t-var [] : Bool^{b}\n2 t-var [] : Int^{x}\n3 t-var [] : Int^{x}\n4 t-if [1 2 3] : Int\n")
      (codes "bad node 4")
  pub branches_in_order :
      Says (
      codes "cert 1\nbind b: Bool\nterm if [Int] b then 1 else unit\n1 t-var [] : Bool^{b}\n"
      ++ codes "2 t-lit [] : Unit\n3 t-lit [] : Int\n4 t-if [1 2 3] : Int\n")
      (codes "bad node 2")

-- What is repeated is a function from numbers to units that takes and gives nothing that is captured.
pub record Repetitions : Type 0 where
  pub of_a_function :
      Says (
      codes "cert 1\nbind n: Int\nbind f: (_0: Int) -> Unit\nterm repeat(n, f)\n1 t-var [] : Int^{n}\n"
      ++ codes "2 t-var [] : ((_0: Int) -> Unit)^{f}\n3 t-repeat [1 2] : Unit\n")
      (codes "valid Unit")
  pub by_no_number :
      Says (
      codes "cert 1\nbind n: Bool\nbind f: (_0: Int) -> Unit\nterm repeat(n, f)\n1 t-var [] : Bool^{n}\n"
      ++ codes "2 t-var [] : ((_0: Int) -> Unit)^{f}\n3 t-repeat [1 2] : Unit\n")
      (codes "bad node 3")
  pub of_another_parameter :
      Says (
      codes "cert 1\nbind n: Int\nbind f: (_0: Bool) -> Unit\nterm repeat(n, f)\n1 t-var [] : Int^{n}\n"
      ++ codes "2 t-var [] : ((_0: Bool) -> Unit)^{f}\n3 t-repeat [1 2] : Unit\n")
      (codes "bad node 3")
  pub of_another_result :
      Says (
      codes "cert 1\nbind n: Int\nbind f: (_0: Int) -> Int\nterm repeat(n, f)\n1 t-var [] : Int^{n}\n"
      ++ codes "2 t-var [] : ((_0: Int) -> Int)^{f}\n3 t-repeat [1 2] : Unit\n")
      (codes "bad node 3")
  pub of_a_parameter_that_captures :
      Says (
      codes "cert 1\nbind n: Int\nbind f: (_0: Int^{cap}) -> Unit\nterm repeat(n, f)\n"
      ++ codes "1 t-var [] : Int^{n}\n2 t-var [] : ((_0: Int^{cap}) -> Unit)^{f}\n3 t-repeat [1 2] : Unit\n")
      (codes "bad node 3")
  pub of_a_result_that_captures :
      Says (
      codes "cert 1\nbind n: Int\nbind f: (_0: Int) -> Unit^{_0}\nterm repeat(n, f)\n"
      ++ codes "1 t-var [] : Int^{n}\n2 t-var [] : ((_0: Int) -> Unit^{_0})^{f}\n3 t-repeat [1 2] : Unit\n")
      (codes "bad node 3")
  pub gives_no_number :
      Says (
      codes "cert 1\nbind n: Int\nbind f: (_0: Int) -> Unit\nterm repeat(n, f)\n1 t-var [] : Int^{n}\n"
      ++ codes "2 t-var [] : ((_0: Int) -> Unit)^{f}\n3 t-repeat [1 2] : Int\n")
      (codes "bad node 3")
  pub gives_nothing_captured :
      Says (
      codes "cert 1\nbind n: Int\nbind f: (_0: Int) -> Unit\nterm repeat(n, f)\n1 t-var [] : Int^{n}\n"
      ++ codes "2 t-var [] : ((_0: Int) -> Unit)^{f}\n3 t-repeat [1 2] : Unit^{f}\n")
      (codes "bad node 3")

-- Each operation is on its device, takes its argument, and answers its base shape.
pub record Operations : Type 0 where
  pub printing :
      Says (
      codes "cert 1\nbind d: Console^{cap}\nbind a: Int\nterm d.print(a)\n1 t-var [] : Console^{d}\n"
      ++ codes "2 t-var [] : Int^{a}\n3 t-op [1 2] : Unit\n")
      (codes "valid Unit")
  pub saying :
      Says (
      codes "cert 1\nbind d: Console^{cap}\nbind a: Str\nterm d.say(a)\n1 t-var [] : Console^{d}\n"
      ++ codes "2 t-var [] : Str^{a}\n3 t-op [1 2] : Unit\n")
      (codes "valid Unit")
  pub reading :
      Says (codes "cert 1\nbind d: File^{cap}\nterm d.read()\n1 t-var [] : File^{d}\n2 t-op [1] : Int\n")
      (codes "valid Int")
  pub writing :
      Says (
      codes "cert 1\nbind d: File^{cap}\nbind a: Int\nterm d.write(a)\n1 t-var [] : File^{d}\n"
      ++ codes "2 t-var [] : Int^{a}\n3 t-op [1 2] : Unit\n")
      (codes "valid Unit")
  pub ticking :
      Says (codes "cert 1\nbind d: Counter^{cap}\nterm d.tick()\n1 t-var [] : Counter^{d}\n2 t-op [1] : Int\n")
      (codes "valid Int")
  pub printing_on_another_device :
      Says (
      codes "cert 1\nbind d: File^{cap}\nbind a: Int\nterm d.print(a)\n1 t-var [] : File^{d}\n"
      ++ codes "2 t-var [] : Int^{a}\n3 t-op [1 2] : Unit\n")
      (codes "bad node 3")
  pub saying_on_another_device :
      Says (
      codes "cert 1\nbind d: File^{cap}\nbind a: Str\nterm d.say(a)\n1 t-var [] : File^{d}\n"
      ++ codes "2 t-var [] : Str^{a}\n3 t-op [1 2] : Unit\n")
      (codes "bad node 3")
  pub reading_on_another_device :
      Says (codes "cert 1\nbind d: Counter^{cap}\nterm d.read()\n1 t-var [] : Counter^{d}\n2 t-op [1] : Int\n")
      (codes "bad node 2")
  pub writing_on_another_device :
      Says (
      codes "cert 1\nbind d: Counter^{cap}\nbind a: Int\nterm d.write(a)\n1 t-var [] : Counter^{d}\n"
      ++ codes "2 t-var [] : Int^{a}\n3 t-op [1 2] : Unit\n")
      (codes "bad node 3")
  pub ticking_on_another_device :
      Says (codes "cert 1\nbind d: Console^{cap}\nterm d.tick()\n1 t-var [] : Console^{d}\n2 t-op [1] : Int\n")
      (codes "bad node 2")
  pub printing_another_argument :
      Says (
      codes "cert 1\nbind d: Console^{cap}\nbind a: Str\nterm d.print(a)\n1 t-var [] : Console^{d}\n"
      ++ codes "2 t-var [] : Str^{a}\n3 t-op [1 2] : Unit\n")
      (codes "bad node 3")
  pub saying_another_argument :
      Says (
      codes "cert 1\nbind d: Console^{cap}\nbind a: Int\nterm d.say(a)\n1 t-var [] : Console^{d}\n"
      ++ codes "2 t-var [] : Int^{a}\n3 t-op [1 2] : Unit\n")
      (codes "bad node 3")
  pub writing_another_argument :
      Says (
      codes "cert 1\nbind d: File^{cap}\nbind a: Str\nterm d.write(a)\n1 t-var [] : File^{d}\n"
      ++ codes "2 t-var [] : Str^{a}\n3 t-op [1 2] : Unit\n")
      (codes "bad node 3")
  pub printing_with_another_answer :
      Says (
      codes "cert 1\nbind d: Console^{cap}\nbind a: Int\nterm d.print(a)\n1 t-var [] : Console^{d}\n"
      ++ codes "2 t-var [] : Int^{a}\n3 t-op [1 2] : Bool\n")
      (codes "bad node 3")
  pub saying_with_another_answer :
      Says (
      codes "cert 1\nbind d: Console^{cap}\nbind a: Str\nterm d.say(a)\n1 t-var [] : Console^{d}\n"
      ++ codes "2 t-var [] : Str^{a}\n3 t-op [1 2] : Bool\n")
      (codes "bad node 3")
  pub reading_with_another_answer :
      Says (codes "cert 1\nbind d: File^{cap}\nterm d.read()\n1 t-var [] : File^{d}\n2 t-op [1] : Bool\n")
      (codes "bad node 2")
  pub writing_with_another_answer :
      Says (
      codes "cert 1\nbind d: File^{cap}\nbind a: Int\nterm d.write(a)\n1 t-var [] : File^{d}\n"
      ++ codes "2 t-var [] : Int^{a}\n3 t-op [1 2] : Bool\n")
      (codes "bad node 3")
  pub ticking_with_another_answer :
      Says (codes "cert 1\nbind d: Counter^{cap}\nterm d.tick()\n1 t-var [] : Counter^{d}\n2 t-op [1] : Bool\n")
      (codes "bad node 2")
  pub answer_captures_nothing :
      Says (
      codes "cert 1\nbind d: Counter^{cap}\nterm d.tick()\n1 t-var [] : Counter^{d}\n"
      ++ codes "2 t-op [1] : Int^{d}\n")
      (codes "bad node 2")

-- A boundary gives what its body has, with nothing captured, and so does what it is left with; its exit is a
-- capability that does not leave it.
pub record Boundaries : Type 0 where
  pub of_a_number :
      Says (codes "cert 1\nterm boundary [Int] _0 => 1\n1 t-lit [] : Int\n2 t-boundary [1] : Int\n")
      (codes "valid Int")
  pub whose_body_captures :
      Says (
      codes "cert 1\nbind x: Int\nterm boundary [Int] _0 => x\n1 t-var [] : Int^{x}\n"
      ++ codes "2 t-boundary [1] : Int\n")
      (codes "bad node 2")
  pub whose_body_has_another_shape :
      Says (codes "cert 1\nterm boundary [Any] _0 => 1\n1 t-lit [] : Int\n2 t-boundary [1] : Any\n")
      (codes "bad node 2")
  pub that_captures :
      Says (codes "cert 1\nterm boundary [Int] _0 => 1\n1 t-lit [] : Int\n2 t-boundary [1] : Int^{cap}\n")
      (codes "bad node 2")
  pub that_is_left :
      Says (
      codes "cert 1\nbind x: Int\nterm boundary [Int] _0 => exit [Int] (_0, x)\n"
      ++ codes "1 t-var [] : Exit[Int]^{_0}\n2 t-var [] : Int^{x}\n3 set [] {} <: {}\n4 var [3] {x} <: {}\n"
      ++ codes "5 set [4] {x} <: {}\n6 refl [] Int <: Int\n7 capt [5 6] Int^{x} <: Int\n"
      ++ codes "8 t-sub [2 7] : Int\n9 t-exit [1 8] : Int\n10 t-boundary [9] : Int\n")
      (codes "valid Int")
  -- the exit captures `cap`, so it is not below the empty set
  pub that_its_exit_leaves :
      Says (
      codes "cert 1\nterm boundary [Any] _0 => _0\n1 t-var [] : Exit[Any]^{_0}\n2 set [] {} <: {}\n"
      ++ codes "3 var [2] {_0} <: {}\n4 set [3] {_0} <: {}\n5 top [] Exit[Any] <: Any\n"
      ++ codes "6 capt [4 5] Exit[Any]^{_0} <: Any\n7 t-sub [1 6] : Any\n8 t-boundary [7] : Any\n")
      (codes "bad node 3")
  pub whose_exit_is_widened :
      Says (
      codes "cert 1\nterm boundary [Int] _0 => let _1: Exit[Int]^{cap} = _0 in 1\n"
      ++ codes "1 t-var [] : Exit[Int]^{_0}\n2 elem [] {cap} <: {cap}\n3 set [2] {cap} <: {cap}\n"
      ++ codes "4 var [3] {_0} <: {cap}\n5 set [4] {_0} <: {cap}\n6 refl [] Exit[Int] <: Exit[Int]\n"
      ++ codes "7 capt [5 6] Exit[Int]^{_0} <: Exit[Int]^{cap}\n8 t-sub [1 7] : Exit[Int]^{cap}\n"
      ++ codes "9 t-lit [] : Int\n10 t-let [8 9] : Int\n11 t-boundary [10] : Int\n")
      (codes "valid Int")
  -- what is written behind `exit` is what it has
  pub left_as_another_type :
      Says (
      codes "cert 1\nbind e: Exit[Unit]\nbind u: Unit\nbind x: Int\nterm exit [Bool^{x}] (e, u)\n"
      ++ codes "1 t-var [] : Exit[Unit]^{e}\n2 t-var [] : Unit^{u}\n3 set [] {} <: {}\n4 var [3] {u} <: {}\n"
      ++ codes "5 set [4] {u} <: {}\n6 refl [] Unit <: Unit\n7 capt [5 6] Unit^{u} <: Unit\n"
      ++ codes "8 t-sub [2 7] : Unit\n9 t-exit [1 8] : Bool^{x}\n")
      (codes "valid Bool^{x}")
  pub left_with_what_captures :
      Says (
      codes "cert 1\nbind e: Exit[Unit]\nbind u: Unit\nterm exit [Bool] (e, u)\n"
      ++ codes "1 t-var [] : Exit[Unit]^{e}\n2 t-var [] : Unit^{u}\n3 t-exit [1 2] : Bool\n")
      (codes "bad node 3")
  pub left_with_another_shape :
      Says (
      codes "cert 1\nbind e: Exit[Unit]\nbind u: Int\nterm exit [Bool] (e, u)\n"
      ++ codes "1 t-var [] : Exit[Unit]^{e}\n2 t-var [] : Int^{u}\n3 set [] {} <: {}\n4 var [3] {u} <: {}\n"
      ++ codes "5 set [4] {u} <: {}\n6 refl [] Int <: Int\n7 capt [5 6] Int^{u} <: Int\n"
      ++ codes "8 t-sub [2 7] : Int\n9 t-exit [1 8] : Bool\n")
      (codes "bad node 9")
  pub left_as_what_is_not_written :
      Says (
      codes "cert 1\nbind e: Exit[Unit]\nbind u: Unit\nterm exit [Bool] (e, u)\n"
      ++ codes "1 t-var [] : Exit[Unit]^{e}\n2 t-var [] : Unit^{u}\n3 set [] {} <: {}\n4 var [3] {u} <: {}\n"
      ++ codes "5 set [4] {u} <: {}\n6 refl [] Unit <: Unit\n7 capt [5 6] Unit^{u} <: Unit\n"
      ++ codes "8 t-sub [2 7] : Unit\n9 t-exit [1 8] : Unit\n")
      (codes "bad node 9")
  pub left_by_no_exit :
      Says (
      codes "cert 1\nbind e: Unit\nterm exit [Bool] (e, e)\n1 t-var [] : Unit^{e}\n"
      ++ codes "2 t-var [] : Unit^{e}\n3 t-exit [1 2] : Bool\n")
      (codes "bad node 3")

-- A term has each type above the one that it has, and no other.
pub record Widening : Type 0 where
  pub to_the_greatest_shape :
      Says (
      codes "cert 1\nterm 1\n1 t-lit [] : Int\n2 set [] {} <: {}\n3 top [] Int <: Any\n"
      ++ codes "4 capt [2 3] Int <: Any\n5 t-sub [1 4] : Any\n")
      (codes "valid Any")
  pub from_another_type :
      Says (
      codes "cert 1\nterm 1\n1 t-lit [] : Int\n2 set [] {} <: {}\n3 top [] Bool <: Any\n"
      ++ codes "4 capt [2 3] Bool <: Any\n5 t-sub [1 4] : Any\n")
      (codes "bad node 5")
  pub from_another_set :
      Says (
      codes "cert 1\nbind x: Int\nterm x\n1 t-var [] : Int^{x}\n2 set [] {} <: {}\n3 refl [] Int <: Int\n"
      ++ codes "4 capt [2 3] Int <: Int\n5 t-sub [1 4] : Int\n")
      (codes "bad node 5")
  pub to_what_is_not_claimed :
      Says (
      codes "cert 1\nterm 1\n1 t-lit [] : Int\n2 set [] {} <: {}\n3 top [] Int <: Any\n"
      ++ codes "4 capt [2 3] Int <: Any\n5 t-sub [1 4] : Int\n")
      (codes "bad node 5")
  pub twice :
      Says (
      codes "cert 1\nterm 1\n1 t-lit [] : Int\n2 set [] {} <: {}\n3 refl [] Int <: Int\n"
      ++ codes "4 capt [2 3] Int <: Int\n5 t-sub [1 4] : Int\n6 set [] {} <: {}\n7 top [] Int <: Any\n"
      ++ codes "8 capt [6 7] Int <: Any\n9 t-sub [5 8] : Any\n")
      (codes "valid Any")
