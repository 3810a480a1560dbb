-- Where expressions and shapes start, and which of two unknown names is refused first.
use Rattle.std.specs.Prelude.{codes}
use Rattle.cc_base.specs.declared.code.Code.TheVariants.{E09, E10, E11, E12, E13, E14, E16, E17}
use Rattle.cc_worked_texts.specs.TextVerdicts.{place, Refuses}

-- Where each form of expression starts, as the branch of a choice whose shape does not match.
pub record ExpressionStarts : Type 0 where
  pub name : Refuses (codes "def a = fun (x: Int) => if [Str] true then x else \"\"") E14 (place 1 44)
  pub literal : Refuses (codes "def a = fun (x: Int) => if [Str] true then 1 else \"\"") E14 (place 1 44)
  pub parenthesis : Refuses (codes "def a = fun (x: Int) => if [Str] true then ((x)) else \"\"") E14 (place 1 44)
  pub val : Refuses (codes "def a = fun (x: Int) => if [Str] true then val y = x; y else \"\"") E14 (place 1 44)
  pub function : Refuses
      (codes "def a = fun (x: Int) => if [Str] true then fun (y: Int) => y else \"\"") E14 (place 1 44)
  pub type_function : Refuses
      (codes "def a = fun (x: Int) => if [Str] true then fun [X <: Any] => 1 else \"\"") E14 (place 1 44)
  pub choice : Refuses
      (codes "def a = fun (x: Int) => if [Str] true then if [Int] true then 1 else 2 else \"\"") E14 (place 1 44)
  pub boundary : Refuses
      (codes "def a = fun (x: Int) => if [Str] true then boundary [Int] z => 1 else \"\"") E14 (place 1 44)
  pub operator : Refuses (codes "def a = fun (x: Int) => if [Str] true then 1 + x else \"\"") E14 (place 1 44)
  pub box : Refuses (codes "def a = fun (x: Int) => if [Str] true then box x else \"\"") E14 (place 1 44)
  pub unboxing : Refuses
      (codes "def a = fun (b: Box[Int]) => fun (x: Int) => if [Str] true then unbox b else \"\"") E14 (place 1 65)
  pub call : Refuses
      (codes "def a = fun (f: (i: Int) -> Int) => fun (x: Int) => if [Str] true then f(x) else \"\"") E14 (place 1 72)
  pub type_call : Refuses
      (codes "def a = fun (g: [X <: Any] -> Int) => fun (x: Int) => if [Str] true then g[Int] else \"\"")
      E14 (place 1 74)
  pub read : Refuses
      (codes "def a = fun (d: File^{cap}) => fun (x: Int) => if [Str] true then d.read() else \"\"") E14 (place 1 67)
  pub print : Refuses (codes "def a = fun (x: Int) => if [Str] true then out.print(x) else \"\"") E14 (place 1 44)
  pub exit : Refuses
      (codes "def a = fun (e: Exit[Int]) => fun (x: Int) => if [Str] true then exit [Int] (e, 1) else \"\"")
      E14 (place 1 66)
  pub repetition : Refuses
      (codes "def a = fun (h: (i: Int) -> Unit) => fun (x: Int) => if [Str] true then repeat(x, h) else \"\"")
      E14 (place 1 73)
  pub chain : Refuses
      (codes "def a = fun (f: (i: Int) -> Int) => fun (x: Int) => if [Str] true then f(x) * 2 + f(x) else \"\"")
      E14 (place 1 72)
  pub call_of_a_function_in_parentheses : Refuses
      (codes "def a = fun (f: (i: Int) -> Int) => fun (x: Int) => if [Str] true then (f)(x) else \"\"")
      E14 (place 1 72)

-- Where each form of shape starts, as an argument that is not below the bound.
pub record ShapeStarts : Type 0 where
  pub base : Refuses (codes "def a = fun (f: [X <: Str] -> Int) => f[Int]") E14 (place 1 41)
  pub any : Refuses (codes "def a = fun (f: [X <: Str] -> Int) => f[Any]") E14 (place 1 41)
  pub name : Refuses (codes "def a = fun [Y <: Int] => fun (f: [X <: Str] -> Int) => f[Y]") E14 (place 1 59)
  pub exit : Refuses (codes "def a = fun (f: [X <: Str] -> Int) => f[Exit[Int]]") E14 (place 1 41)
  pub box : Refuses (codes "def a = fun (f: [X <: Str] -> Int) => f[Box[Int]]") E14 (place 1 41)
  pub function : Refuses (codes "def a = fun (f: [X <: Str] -> Int) => f[(i: Int) -> Int]") E14 (place 1 41)
  pub type_function : Refuses (codes "def a = fun (f: [X <: Str] -> Int) => f[[Y <: Int] -> Int]") E14 (place 1 41)
  pub parenthesis : Refuses (codes "def a = fun (f: [X <: Str] -> Int) => f[(Bool)]") E14 (place 1 41)
  pub parentheses : Refuses (codes "def a = fun (f: [X <: Str] -> Int) => f[ ((Bool))]") E14 (place 1 42)
  pub named_function : Refuses
      (codes "def a = fun (f: (i: Unit) -> [X <: Str] -> Int) => (f(unit))[ Int]") E14 (place 1 63)

-- What is refused in parentheses.
pub record Parentheses : Type 0 where
  -- an unknown name is refused where it stands itself
  pub unknown_name : Refuses (codes "def a = fun (u: Unit) => (y)") E10 (place 1 27)
  pub unknown_name_in_two : Refuses (codes "def a = fun (u: Unit) => ((y))") E10 (place 1 28)
  pub unknown_operand : Refuses (codes "def a = fun (x: Int) => ((y)) + 1") E10 (place 1 27)
  pub unknown_type : Refuses (codes "def a = fun (x: (Q)) => x") E11 (place 1 18)
  pub unknown_receiver : Refuses (codes "def a = fun (x: Int) => (y).read()") E10 (place 1 26)
  pub unknown_in_a_box : Refuses (codes "def a = fun (x: Int) => box (y)") E10 (place 1 30)
  -- an operand starts with the outermost parenthesis around it
  pub left_side : Refuses (codes "def a = fun (x: Int) => 1 + ((true))") E14 (place 1 29)
  pub right_side : Refuses (codes "def a = fun (x: Int) => (true) + 1") E14 (place 1 25)
  pub argument : Refuses (codes "def a = fun (f: (i: Int) -> Int) => f(((true)))") E14 (place 1 39)
  pub function : Refuses (codes "def a = fun (x: Int) => ((true))(1)") E13 (place 1 25)
  pub type_function : Refuses (codes "def a = fun (x: Int) => (x)[Int]") E13 (place 1 25)
  pub opened : Refuses (codes "def a = fun (x: Int) => unbox ((x))") E13 (place 1 31)
  pub receiver : Refuses (codes "def a = fun (x: Int) => (x).print(1)") E13 (place 1 25)
  pub printed : Refuses (codes "def a = fun (x: Int) => out.print((true))") E14 (place 1 35)
  pub condition : Refuses (codes "def a = fun (x: Int) => if [Int] (x) then 1 else 2") E14 (place 1 34)
  pub count : Refuses (codes "def a = fun (x: Int) => repeat((true), x)") E14 (place 1 32)
  pub repeated : Refuses (codes "def a = fun (x: Int) => repeat(1, (x))") E14 (place 1 35)
  pub exit : Refuses (codes "def a = fun (x: Int) => exit [Int] ((x), 1)") E13 (place 1 37)
  pub value_of_an_exit : Refuses (codes "def a = fun (e: Exit[Int]) => exit [Int] (e, (true))") E14 (place 1 46)
  pub right_side_of_a_val : Refuses (codes "def a = fun (x: Int) => val y: Int = (true); y") E14 (place 1 38)
  pub right_side_of_a_definition : Refuses (codes "def a: Int = ((true))") E14 (place 1 14)
  pub body_of_a_boundary : Refuses (codes "def a = fun (x: Int) => boundary [Int] z => ((true))") E14 (place 1 45)
  pub second_branch : Refuses (codes "def a = fun (x: Int) => if [Int] true then 1 else ((true))") E14 (place 1 51)
  -- the word `unbox` itself is the place for `cap` in its set
  pub cap_in_an_unboxing : Refuses (codes "def a = fun (b: Box[Int^{cap}]) => ((unbox b))") E16 (place 1 38)
  -- and the word `val` that for its name
  pub val_in_parentheses : Refuses
      (codes "def a = fun (x: Unit) => ((val y = 1; fun [X <: Box[Int^{y}]] => unit))") E17 (place 1 28)

-- What is refused first, in the order of the text: a type before a set, and both before what they are written for.
pub record TextOrders : Type 0 where
  pub written_for_a_definition : Refuses (codes "def a: Q = y") E11 (place 1 8)
  pub written_for_a_recursive_definition : Refuses (codes "def rec a: Q = y") E11 (place 1 12)
  pub set_of_a_definition : Refuses (codes "def a: Int^{y} = z") E10 (place 1 13)
  pub set_of_a_recursive_definition : Refuses (codes "def rec a: Int^{y} = z") E10 (place 1 17)
  pub type_before_no_value : Refuses (codes "def a: Q = 1 + 2") E11 (place 1 8)
  -- a shape comes before its set
  pub shape_of_a_parameter : Refuses (codes "def a = fun (x: Q^{y}) => x") E11 (place 1 17)
  pub shape_of_a_val : Refuses (codes "def a = fun (x: Int) => val z: Q^{y} = x; z") E11 (place 1 32)
  pub shape_of_a_choice : Refuses (codes "def a = fun (x: Int) => if [Q^{y}] true then 1 else 2") E11 (place 1 29)
  pub shape_of_an_exit : Refuses (codes "def a = fun (x: Int) => exit [Q^{y}] (x, x)") E11 (place 1 31)
  pub shape_of_a_content : Refuses (codes "def a = fun (x: Box[Q^{y}]) => x") E11 (place 1 21)
  pub shape_of_a_result : Refuses (codes "def a = fun (f: (x: Int) -> Q^{y}) => f") E11 (place 1 29)
  pub shape_of_a_definition : Refuses (codes "def a: Q^{y} = 1") E11 (place 1 8)
  pub shape_of_a_recursive_definition : Refuses (codes "def rec a: Q^{y} = 1") E11 (place 1 12)
  pub omitted_set_of_a_shape : Refuses (codes "def a = fun (x: Box[Q]^?) => x") E11 (place 1 21)
  -- elements from left to right
  pub elements : Refuses (codes "def a = fun (x: Int^{out, y, z}) => x") E10 (place 1 27)
  pub set_of_a_parameter_before_a_result : Refuses (codes "def a = fun (f: (x: Int^{y}) -> Q) => f") E10 (place 1 26)
  pub parameter_before_the_set_of_a_result : Refuses
      (codes "def a = fun (f: (x: Q) -> Int^{y}) => f") E11 (place 1 21)
  pub bound_before_the_set_of_a_result : Refuses (codes "def a = fun (f: [X <: Q] -> Int^{y}) => f") E11 (place 1 23)
  -- operands and parts from left to right
  pub sides : Refuses (codes "def a = fun (x: Int) => y + z") E10 (place 1 25)
  pub sides_that_are_named : Refuses (codes "def a = fun (x: Int) => (1 + y) * (1 + z)") E10 (place 1 30)
  pub function_and_argument : Refuses (codes "def a = fun (x: Int) => y(z)") E10 (place 1 25)
  pub function_that_is_named_and_argument : Refuses (codes "def a = fun (x: Int) => y(1)(z)") E10 (place 1 25)
  pub receiver_and_argument : Refuses (codes "def a = fun (x: Int) => y.print(z)") E10 (place 1 25)
  pub function_and_shape : Refuses (codes "def a = fun (x: Int) => y[Q]") E10 (place 1 25)
  pub set_and_operand : Refuses (codes "def a = fun (x: Int) => unbox {y} z") E10 (place 1 32)
  pub condition_and_branches : Refuses (codes "def a = fun (x: Int) => if [Int] y then z else w") E10 (place 1 34)
  pub type_and_condition : Refuses (codes "def a = fun (x: Int) => if [Q] y then 1 else 2") E11 (place 1 29)
  pub set_and_condition : Refuses (codes "def a = fun (x: Int) => if [Int^{y}] z then 1 else 2") E10 (place 1 34)
  pub first_and_second_branch : Refuses (codes "def a = fun (x: Int) => if [Int] true then y else z") E10 (place 1 44)
  pub type_and_exit : Refuses (codes "def a = fun (x: Int) => exit [Q] (y, z)") E11 (place 1 31)
  pub set_and_exit : Refuses (codes "def a = fun (x: Int) => exit [Int^{y}] (z, w)") E10 (place 1 36)
  pub exit_and_value : Refuses (codes "def a = fun (x: Int) => exit [Int] (y, z)") E10 (place 1 37)
  pub count_and_function : Refuses (codes "def a = fun (x: Int) => repeat(y, z)") E10 (place 1 32)
  pub right_side_and_body : Refuses (codes "def a = fun (x: Int) => val x = y; z") E10 (place 1 33)
  pub type_and_right_side : Refuses (codes "def a = fun (x: Int) => val x: Q = y; z") E11 (place 1 32)
  pub parameter_and_body : Refuses (codes "def a = fun (x: Int^{y}) => z") E10 (place 1 22)
  pub bound_and_body : Refuses (codes "def a = fun [X <: Box[Int^{y}]] => z") E10 (place 1 28)
  pub shape_and_body : Refuses (codes "def a = fun (x: Int) => boundary [Q] z => y") E11 (place 1 35)
  -- and definitions
  pub two_definitions : Refuses (codes "def a = y def b = z") E10 (place 1 9)
  pub second_definition : Refuses (codes "def a = 1 def b = z") E10 (place 1 19)
  pub no_value_before_the_next : Refuses (codes "def a = 1 + 2 def b = y") E12 (place 1 9)
  pub second_name_before_the_next : Refuses (codes "def a = 1 def a = y") E09 (place 1 15)
  pub third_of_one_name : Refuses (codes "def a = 1 def b = 2 def a = 3") E09 (place 1 25)
  pub name_of_the_counter : Refuses (codes "def hits = 1") E09 (place 1 5)
