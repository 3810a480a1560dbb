-- Texts that are parts of others: what stands where an expression or a type does, and what has to be there.
use Rattle.std.specs.Prelude.{codes, [], ◌∷◌, ◌++◌}
use Rattle.cc_base.specs.declared.code.Code.TheVariants.{E03, E12, E13, E14}
use Rattle.cc_worked_texts.specs.TextVerdicts.{place, Refuses, Accepts}

-- Parts that any expression may be, without parentheses.
pub record AnyExpressions : Type 0 where
  pub parenthesis : Accepts (codes "def a = fun (x: Int) => (val y = x; y)") (codes "a: (_0: Int) -> Int^{_0}" ∷ [])
  pub right_side_of_a_val : Accepts
      (codes "def a = fun (x: Int) => val y = val z = x; z; y") (codes "a: (_0: Int) -> Int^{_0}" ∷ [])
  pub body_of_a_val : Accepts
      (codes "def a = fun (x: Int) => val y = x; val z = y; z") (codes "a: (_0: Int) -> Int^{_0}" ∷ [])
  pub body_of_a_function : Accepts
      (codes "def a = fun (x: Int) => fun (y: Int) => val z = y; z")
      (codes "a: (_0: Int) -> (_1: Int) -> Int^{_1}" ∷ [])
  pub body_of_a_type_function : Accepts
      (codes "def a = fun (x: Int) => fun [X <: Any] => val z = x; z")
      (codes "a: (_0: Int) -> ([_T1 <: Any] -> Int^{_0})^{_0}" ∷ [])
  pub condition : Accepts
      (codes "def a = fun (b: Bool) => if [Int] val x = b; x then 1 else 2") (codes "a: (_0: Bool) -> Int" ∷ [])
  pub first_branch : Accepts
      (codes "def a = fun (b: Bool) => if [Int] b then val x = 1; x else 2") (codes "a: (_0: Bool) -> Int" ∷ [])
  pub second_branch : Accepts
      (codes "def a = fun (b: Bool) => if [Int] b then 1 else val x = 2; x") (codes "a: (_0: Bool) -> Int" ∷ [])
  pub choice_in_a_condition : Accepts
      (codes "def a = fun (b: Bool) => if [Int] if [Bool] b then true else b then 1 else 2")
      (codes "a: (_0: Bool) -> Int" ∷ [])
  pub choice_in_a_first_branch : Accepts
      (codes "def a = fun (b: Bool) => if [Int] b then if [Int] b then 1 else 2 else 3")
      (codes "a: (_0: Bool) -> Int" ∷ [])
  pub choice_in_a_second_branch : Accepts
      (codes "def a = fun (b: Bool) => if [Int] b then 1 else if [Int] b then 2 else 3")
      (codes "a: (_0: Bool) -> Int" ∷ [])
  pub body_of_a_boundary : Accepts
      (codes "def a = fun (x: Int) => boundary [Int] z => val y = 1; y") (codes "a: (_0: Int) -> Int" ∷ [])
  pub exit : Accepts
      (codes "def a = fun (e: Exit[Int]) => exit [Int] (val x = e; x, 1)") (codes "a: (_0: Exit[Int]) -> Int" ∷ [])
  pub value_of_an_exit : Accepts
      (codes "def a = fun (e: Exit[Int]) => exit [Int] (e, val x = 1; x)") (codes "a: (_0: Exit[Int]) -> Int" ∷ [])
  pub count : Accepts
      (codes "def a = fun (f: (i: Int) -> Unit) => repeat(val n = 1; n, f)")
      (codes "a: (_0: (_0: Int) -> Unit) -> Unit" ∷ [])
  pub repeated_function : Accepts
      (codes "def a = fun (x: Int) => repeat(x, fun (i: Int) => unit)") (codes "a: (_0: Int) -> Unit" ∷ [])
  pub repeated_val : Accepts
      (codes "def a = fun (f: (i: Int) -> Unit) => repeat(1, val g = f; g)")
      (codes "a: (_0: (_0: Int) -> Unit) -> Unit" ∷ [])
  pub argument : Accepts
      (codes "def a = fun (f: (i: Int) -> Int) => f(val x = 1; x)") (codes "a: (_0: (_0: Int) -> Int) -> Int" ∷ [])
  pub function_as_an_argument : Accepts
      (codes "def a = fun (f: (g: (i: Int) -> Int) -> Int) => f(fun (i: Int) => i * 2)")
      (codes "a: (_0: (_0: (_0: Int) -> Int) -> Int) -> Int" ∷ [])
  pub printed : Accepts
      (codes "def a = fun (x: Int) => out.print(val y = x; y)") (codes "a: ((_0: Int) -> Unit)^{out}" ∷ [])
  pub said : Accepts
      (codes "def a = fun (x: Int) => out.say(if [Str] x < 1 then \"a\" else \"b\")")
      (codes "a: ((_0: Int) -> Unit)^{out}" ∷ [])
  -- a right side, which is then no value
  pub right_side : Refuses (codes "def a = val x = 1; x") E12 (place 1 9)
  pub right_side_of_a_recursive_definition : Refuses (codes "def rec a: Int = val x = 1; x") E12 (place 1 18)
  pub comparison_as_an_argument : Accepts
      (codes "def a = fun (f: (b: Bool) -> Int) => f(1 < 2)") (codes "a: (_0: (_0: Bool) -> Int) -> Int" ∷ [])
  pub comparison_as_a_right_side : Accepts
      (codes "def a = fun (x: Int) => val y = x == 1; y") (codes "a: (_0: Int) -> Bool" ∷ [])

-- What goes on as far as it can is no operand.
pub record NoOperands : Type 0 where
  pub boxed_val : Refuses (codes "def a = fun (x: Int) => box val y = 1; y") E03 (place 1 29)
  pub opened_val : Refuses (codes "def a = fun (x: Int) => unbox val y = 1; y") E03 (place 1 31)
  pub added_val : Refuses (codes "def a = fun (x: Int) => 1 + val y = 1; y") E03 (place 1 29)
  pub multiplied_val : Refuses (codes "def a = fun (x: Int) => 1 * val y = 1; y") E03 (place 1 29)
  pub compared_val : Refuses (codes "def a = fun (x: Int) => 1 < val y = 1; y") E03 (place 1 29)
  pub boxed_function : Refuses (codes "def a = fun (x: Int) => box fun (y: Int) => y") E03 (place 1 29)
  pub opened_function : Refuses (codes "def a = fun (x: Int) => unbox fun (y: Int) => y") E03 (place 1 31)
  pub added_function : Refuses (codes "def a = fun (x: Int) => 1 + fun (y: Int) => y") E03 (place 1 29)
  pub multiplied_function : Refuses (codes "def a = fun (x: Int) => 1 * fun (y: Int) => y") E03 (place 1 29)
  pub compared_function : Refuses (codes "def a = fun (x: Int) => 1 < fun (y: Int) => y") E03 (place 1 29)
  pub boxed_type_function : Refuses (codes "def a = fun (x: Int) => box fun [X <: Any] => 1") E03 (place 1 29)
  pub opened_type_function : Refuses (codes "def a = fun (x: Int) => unbox fun [X <: Any] => 1") E03 (place 1 31)
  pub added_type_function : Refuses (codes "def a = fun (x: Int) => 1 + fun [X <: Any] => 1") E03 (place 1 29)
  pub multiplied_type_function : Refuses (codes "def a = fun (x: Int) => 1 * fun [X <: Any] => 1") E03 (place 1 29)
  pub compared_type_function : Refuses (codes "def a = fun (x: Int) => 1 < fun [X <: Any] => 1") E03 (place 1 29)
  pub boxed_choice : Refuses (codes "def a = fun (x: Int) => box if [Int] true then 1 else 2") E03 (place 1 29)
  pub opened_choice : Refuses (codes "def a = fun (x: Int) => unbox if [Int] true then 1 else 2") E03 (place 1 31)
  pub added_choice : Refuses (codes "def a = fun (x: Int) => 1 + if [Int] true then 1 else 2") E03 (place 1 29)
  pub multiplied_choice : Refuses (codes "def a = fun (x: Int) => 1 * if [Int] true then 1 else 2") E03 (place 1 29)
  pub compared_choice : Refuses (codes "def a = fun (x: Int) => 1 < if [Int] true then 1 else 2") E03 (place 1 29)
  pub boxed_boundary : Refuses (codes "def a = fun (x: Int) => box boundary [Int] z => 1") E03 (place 1 29)
  pub opened_boundary : Refuses (codes "def a = fun (x: Int) => unbox boundary [Int] z => 1") E03 (place 1 31)
  pub added_boundary : Refuses (codes "def a = fun (x: Int) => 1 + boundary [Int] z => 1") E03 (place 1 29)
  pub multiplied_boundary : Refuses (codes "def a = fun (x: Int) => 1 * boundary [Int] z => 1") E03 (place 1 29)
  pub compared_boundary : Refuses (codes "def a = fun (x: Int) => 1 < boundary [Int] z => 1") E03 (place 1 29)
  -- a comparison is no operand of a comparison
  pub equals_of_equals : Refuses (codes "def a = fun (x: Int) => 1 == 2 == 3") E03 (place 1 32)
  pub less_of_equals : Refuses (codes "def a = fun (x: Int) => 1 == 2 < 3") E03 (place 1 32)
  pub equals_of_less : Refuses (codes "def a = fun (x: Int) => 1 < 2 == 3") E03 (place 1 31)
  pub comparison_behind_a_sum : Refuses (codes "def a = fun (x: Int) => 1 + 2 < 3 < 4") E03 (place 1 35)

-- Which types have a set, and what they are made of.
pub record TypeParts : Type 0 where
  -- no set
  pub set_of_a_type_argument : Refuses (codes "def f = id[Int^{cap}]") E03 (place 1 15)
  pub set_inside_an_exit : Refuses (codes "def a = fun (e: Exit[Int^{cap}]) => e") E03 (place 1 25)
  pub set_of_a_bound : Refuses (codes "def a = fun [X <: Int^{cap}] => 1") E03 (place 1 22)
  pub set_of_a_bound_in_a_type : Refuses (codes "def a = fun (f: [X <: Int^{cap}] -> Int) => 1") E03 (place 1 26)
  pub set_of_a_boundary : Refuses (codes "def a = boundary [Int^{cap}] z => 1") E03 (place 1 22)
  pub set_in_parentheses : Refuses (codes "def a = fun (x: (Int^{cap})) => 1") E03 (place 1 21)
  -- and these have one
  pub set_behind_parentheses : Accepts
      (codes "def a = fun (x: (Int)^{cap}) => 1") (codes "a: (_0: Int^{cap}) -> Int" ∷ [])
  pub set_of_a_content : Accepts
      (codes "def a = fun (x: Box[Int^{cap}]) => 1") (codes "a: (_0: Box[Int^{cap}]) -> Int" ∷ [])
  pub set_of_a_choice : Accepts
      (codes "def a = fun (x: Int) => if [Int^{x}] true then 1 else x") (codes "a: (_0: Int) -> Int^{_0}" ∷ [])
  pub set_of_an_exit : Accepts
      (codes "def a = fun (e: Exit[Int]) => exit [Int^{e}] (e, 1)") (codes "a: (_0: Exit[Int]) -> Int^{_0}" ∷ [])
  pub set_of_a_val : Accepts
      (codes "def a = fun (x: Int) => val y: Int^{x} = x; y") (codes "a: (_0: Int) -> Int^{_0}" ∷ [])
  pub set_of_a_definition : Accepts
      (codes "def a: ((x: Int) -> Int)^{out} = fun (x: Int) => x") (codes "a: ((_0: Int) -> Int)^{out}" ∷ [])
  pub set_of_a_parameter : Accepts
      (codes "def a = fun (f: (x: Int^{cap}) -> Int^{x}) => 1")
      (codes "a: (_0: (_0: Int^{cap}) -> Int^{_0}) -> Int" ∷ [])
  pub set_of_a_result_of_a_type_function : Accepts
      (codes "def a = fun (f: [X <: Int] -> X^{cap}) => 1") (codes "a: (_0: [_T0 <: Int] -> _T0^{cap}) -> Int" ∷ [])
  pub parentheses_in_parentheses : Accepts
      (codes "def a = fun (x: ((Int))) => x") (codes "a: (_0: Int) -> Int^{_0}" ∷ [])
  pub name_in_parentheses : Accepts
      (codes "def a = fun [X <: Any] => fun (x: (X)) => x") (codes "a: [_T0 <: Any] -> (_1: _T0) -> _T0^{_1}" ∷ [])
  pub function_in_parentheses : Accepts
      (codes "def a = fun (f: ((x: Int) -> Int)) => f(1)") (codes "a: (_0: (_0: Int) -> Int) -> Int" ∷ [])
  pub functions_of_functions : Accepts
      (codes "def a = fun (f: (g: (x: Int) -> Int) -> (y: Int) -> Int) => f")
      ((codes "a: (_0: (_0: (_0: Int) -> Int) -> (_1: Int) -> Int) -> ((_1: (_1: Int) -> Int) -> (_2: "
      ++ codes "Int) -> Int)^{_0}") ∷ [])
  pub type_function_in_parentheses : Accepts
      (codes "def a = fun (f: ([X <: Any] -> Int)) => f[Int]") (codes "a: (_0: [_T0 <: Any] -> Int) -> Int" ∷ [])
  -- what a type has to have
  pub no_name_of_a_parameter : Refuses (codes "def a = fun (f: (Int) -> Int) => f") E03 (place 1 23)
  pub arrow_of_an_expression : Refuses (codes "def a = fun (f: (x: Int) => Int) => f") E03 (place 1 26)
  pub no_arrow : Refuses (codes "def a = fun (f: (x: Int) Int) => f") E03 (place 1 26)
  pub bound_with_a_colon : Refuses (codes "def a = fun (f: [X: Int] -> Int) => f") E03 (place 1 19)
  pub no_bound : Refuses (codes "def a = fun (f: [X] -> Int) => f") E03 (place 1 19)
  pub expression_arrow_of_a_type_function : Refuses (codes "def a = fun (f: [X <: Int] => Int) => f") E03 (place 1 28)
  pub exit_of_nothing : Refuses (codes "def a = fun (e: Exit) => e") E03 (place 1 21)
  pub exit_in_parentheses : Refuses (codes "def a = fun (e: Exit(Int)) => e") E03 (place 1 21)
  pub box_of_nothing : Refuses (codes "def a = fun (b: Box[]) => b") E03 (place 1 21)
  pub box_without_brackets : Refuses (codes "def a = fun (b: Box Int) => b") E03 (place 1 21)
  pub word_as_a_type : Refuses (codes "def a = fun (x: unit) => x") E03 (place 1 17)
  pub number_as_a_type : Refuses (codes "def a = fun (x: 1) => x") E03 (place 1 17)
  pub empty_parentheses : Refuses (codes "def a = fun (x: ()) => x") E03 (place 1 18)
  pub braces_as_a_type : Refuses (codes "def a = fun (x: {out}) => x") E03 (place 1 17)

-- How sets are written.
pub record SetTexts : Type 0 where
  pub empty : Accepts (codes "def a = fun (x: Int^{}) => x") (codes "a: (_0: Int) -> Int^{_0}" ∷ [])
  pub one : Accepts (codes "def a = fun (x: Int^{out}) => 1") (codes "a: (_0: Int^{out}) -> Int" ∷ [])
  pub cap_first : Accepts (codes "def a = fun (x: Int^{cap, out}) => 1") (codes "a: (_0: Int^{out, cap}) -> Int" ∷ [])
  pub cap_last : Accepts (codes "def a = fun (x: Int^{out, cap}) => 1") (codes "a: (_0: Int^{out, cap}) -> Int" ∷ [])
  pub twice : Accepts
      (codes "def a = fun (x: Int^{out, hits, out}) => 1") (codes "a: (_0: Int^{out, hits}) -> Int" ∷ [])
  pub three : Accepts
      (codes "def a = fun (y: Int) => fun (x: Int^{hits, y, out}) => 1")
      (codes "a: (_0: Int) -> (_1: Int^{out, hits, _0}) -> Int" ∷ [])
  -- and these are none
  pub comma_first : Refuses (codes "def a = fun (x: Int^{, out}) => 1") E03 (place 1 22)
  pub comma_last : Refuses (codes "def a = fun (x: Int^{out,}) => 1") E03 (place 1 26)
  pub two_commas : Refuses (codes "def a = fun (x: Int^{out,, hits}) => 1") E03 (place 1 26)
  pub no_comma : Refuses (codes "def a = fun (x: Int^{out hits}) => 1") E03 (place 1 26)
  pub semicolon : Refuses (codes "def a = fun (x: Int^{out; hits}) => 1") E03 (place 1 25)
  pub question : Refuses (codes "def a = fun (x: Int^{?}) => 1") E03 (place 1 22)
  pub question_behind : Refuses (codes "def a = fun (x: Int^{out, ?}) => 1") E03 (place 1 27)
  pub without_braces : Refuses (codes "def a = fun (x: Int^out) => 1") E03 (place 1 21)
  pub cap_without_braces : Refuses (codes "def a = fun (x: Int^cap) => 1") E03 (place 1 21)
  pub without_a_caret : Refuses (codes "def a = fun (x: Int{out}) => 1") E03 (place 1 20)
  pub shape_in_a_set : Refuses (codes "def a = fun (x: Int^{Int}) => 1") E03 (place 1 22)
  pub number_in_a_set : Refuses (codes "def a = fun (x: Int^{1}) => 1") E03 (place 1 22)
  pub sets_in_a_set : Refuses (codes "def a = fun (x: Int^{{out}}) => 1") E03 (place 1 22)
  pub not_closed : Refuses (codes "def a = fun (x: Int^{out) => 1") E03 (place 1 25)
  pub two_omitted : Refuses (codes "def a = fun (x: Int^??) => 1") E03 (place 1 22)
  -- the set of an unboxing has no caret, and is left out where it is omitted
  pub empty_of_an_unboxing : Accepts
      (codes "def a = fun (b: Box[Int]) => unbox {} b") (codes "a: (_0: Box[Int]) -> Int" ∷ [])
  pub three_of_an_unboxing : Accepts
      (codes "def a = fun (b: Box[Int]) => unbox {hits, b, out} b")
      (codes "a: ((_0: Box[Int]) -> Int^{out, hits, _0})^{out, hits}" ∷ [])
  pub caret_of_an_unboxing : Refuses (codes "def a = fun (b: Box[Int]) => unbox ^{out} b") E03 (place 1 36)
  pub question_of_an_unboxing : Refuses (codes "def a = fun (b: Box[Int]) => unbox ? b") E03 (place 1 36)
  pub question_in_an_unboxing : Refuses (codes "def a = fun (b: Box[Int]) => unbox {?} b") E03 (place 1 37)
  pub set_behind_an_unboxing : Refuses (codes "def a = fun (b: Box[Int]) => unbox b {out}") E03 (place 1 38)
  pub set_of_a_box : Refuses (codes "def a = fun (b: Int) => box {out} b") E03 (place 1 29)
  pub comma_last_of_an_unboxing : Refuses (codes "def a = fun (b: Box[Int]) => unbox {out,} b") E03 (place 1 41)

-- Which tokens have to be there; the first that does not go on is refused.
pub record WantedTokens : Type 0 where
  pub first_token : Refuses (codes "x") E03 (place 1 1)
  pub operation : Refuses (codes "def a = out.foo(1)") E03 (place 1 13)
  pub operation_longer : Refuses (codes "def a = out.prints(1)") E03 (place 1 13)
  pub operation_capital : Refuses (codes "def a = out.Print(1)") E03 (place 1 13)
  pub operation_shorter : Refuses (codes "def a = out.prin(1)") E03 (place 1 13)
  pub no_operation : Refuses (codes "def a = out.(1)") E03 (place 1 13)
  pub word_as_an_operation : Refuses (codes "def a = out.val(1)") E03 (place 1 13)
  pub no_parenthesis : Refuses (codes "def a = out.print 1") E03 (place 1 19)
  pub said_nothing : Refuses (codes "def a = out.say()") E03 (place 1 17)
  pub written_nothing : Refuses (codes "def a = out.write()") E03 (place 1 19)
  pub tick_with_an_argument : Refuses (codes "def a = hits.tick(1)") E03 (place 1 19)
  pub read_with_an_argument : Refuses (codes "def a = hits.read(1)") E03 (place 1 19)
  pub printed_two : Refuses (codes "def a = out.print(1, 2)") E03 (place 1 20)
  pub call_of_nothing : Refuses (codes "def a = f()") E03 (place 1 11)
  pub call_of_two : Refuses (codes "def a = f(1, 2)") E03 (place 1 12)
  pub no_shape : Refuses (codes "def a = f[]") E03 (place 1 11)
  pub number_as_a_shape : Refuses (codes "def a = f[1]") E03 (place 1 11)
  pub two_shapes : Refuses (codes "def a = f[Int, Int]") E03 (place 1 14)
  pub empty_parentheses : Refuses (codes "def a = ()") E03 (place 1 10)
  pub pair : Refuses (codes "def a = (1, 2)") E03 (place 1 11)
  pub not_closed : Refuses (codes "def a = (1") E03 (place 1 11)
  pub closed_twice : Refuses (codes "def a = (1))") E03 (place 1 12)
  pub two_expressions : Refuses (codes "def a = 1 2") E03 (place 1 11)
  pub semicolon_behind : Refuses (codes "def a = 1;") E03 (place 1 10)
  pub comma_behind : Refuses (codes "def a = 1, 2") E03 (place 1 10)
  pub no_equals : Refuses (codes "def a 1") E03 (place 1 7)
  pub two_types : Refuses (codes "def a: Int: Int = 1") E03 (place 1 11)
  pub type_behind : Refuses (codes "def a = 1: Int") E03 (place 1 10)
  pub equals_of_a_comparison : Refuses (codes "def a == 1") E03 (place 1 7)
  pub no_type_behind_a_colon : Refuses (codes "def a: = 1") E03 (place 1 8)
  pub shape_as_an_expression : Refuses (codes "def a = Int") E03 (place 1 9)
  pub cap_as_an_expression : Refuses (codes "def a = cap") E03 (place 1 9)
  pub number_as_a_name : Refuses (codes "def 1 = 1") E03 (place 1 5)
  pub text_as_a_name : Refuses (codes "def \"a\" = 1") E03 (place 1 5)
  pub val_without_a_semicolon : Refuses (codes "def a = val x = 1 x") E03 (place 1 19)
  pub val_with_a_comma : Refuses (codes "def a = val x = 1, x") E03 (place 1 18)
  pub val_without_a_body : Refuses (codes "def a = val x = 1;") E03 (place 1 19)
  pub val_without_a_name : Refuses (codes "def a = val = 1; 2") E03 (place 1 13)
  pub val_in_parentheses : Refuses (codes "def a = val (x) = 1; x") E03 (place 1 13)
  pub function_without_a_type : Refuses (codes "def a = fun (x) => x") E03 (place 1 15)
  pub function_without_parentheses : Refuses (codes "def a = fun x => x") E03 (place 1 13)
  pub function_of_nothing : Refuses (codes "def a = fun () => 1") E03 (place 1 14)
  pub function_of_two : Refuses (codes "def a = fun (x: Int, y: Int) => x") E03 (place 1 20)
  pub function_with_the_other_arrow : Refuses (codes "def a = fun (x: Int) -> x") E03 (place 1 22)
  pub function_with_an_equals : Refuses (codes "def a = fun (x: Int) = x") E03 (place 1 22)
  pub type_function_without_a_bound : Refuses (codes "def a = fun [X] => 1") E03 (place 1 15)
  pub type_function_with_a_colon : Refuses (codes "def a = fun [X: Int] => 1") E03 (place 1 15)
  pub type_function_with_the_other_arrow : Refuses (codes "def a = fun [X <: Int] -> 1") E03 (place 1 24)
  pub function_with_a_bound : Refuses (codes "def a = fun (x <: Int) => x") E03 (place 1 16)
  pub choice_without_a_type : Refuses (codes "def a = if true then 1 else 2") E03 (place 1 12)
  pub choice_without_brackets : Refuses (codes "def a = if Int true then 1 else 2") E03 (place 1 12)
  pub choice_without_then : Refuses (codes "def a = if [Int] true 1 else 2") E03 (place 1 23)
  pub choice_without_else : Refuses (codes "def a = if [Int] true then 1") E03 (place 1 29)
  pub choice_with_two_elses : Refuses (codes "def a = if [Int] true then 1 else 2 else 3") E03 (place 1 37)
  pub boundary_without_a_shape : Refuses (codes "def a = boundary z => 1") E03 (place 1 18)
  pub boundary_without_a_name : Refuses (codes "def a = boundary [Int] => 1") E03 (place 1 24)
  pub boundary_without_an_arrow : Refuses (codes "def a = boundary [Int] z 1") E03 (place 1 26)
  pub boundary_with_the_other_arrow : Refuses (codes "def a = boundary [Int] z -> 1") E03 (place 1 26)
  pub boundary_with_a_type : Refuses (codes "def a = boundary [Int] z: Int => 1") E03 (place 1 25)
  pub repetition_of_one : Refuses (codes "def a = repeat(1)") E03 (place 1 17)
  pub repetition_of_three : Refuses (codes "def a = repeat(1, 2, 3)") E03 (place 1 20)
  pub repetition_without_parentheses : Refuses (codes "def a = repeat 1, 2") E03 (place 1 16)
  pub repetition_with_a_semicolon : Refuses (codes "def a = repeat(1; 2)") E03 (place 1 17)
  pub exit_without_a_type : Refuses (codes "def a = exit (x, 1)") E03 (place 1 14)
  pub exit_without_parentheses : Refuses (codes "def a = exit [Int] x") E03 (place 1 20)
  pub exit_of_one : Refuses (codes "def a = exit [Int] (x)") E03 (place 1 22)
  pub exit_with_a_semicolon : Refuses (codes "def a = exit [Int] (x; 1)") E03 (place 1 22)
  pub box_of_nothing : Refuses (codes "def a = box") E03 (place 1 12)
  pub box_of_an_operator : Refuses (codes "def a = box + 1") E03 (place 1 13)
  pub operator_without_a_right_side : Refuses (codes "def a = 1 + * 2") E03 (place 1 13)
  pub operator_without_a_left_side : Refuses (codes "def a = * 2") E03 (place 1 9)
  pub minus_in_front : Refuses (codes "def a = 1 + -2") E03 (place 1 13)
  pub import_without_a_dot : Refuses (codes "import m d") E03 (place 1 10)
  pub import_of_three : Refuses (codes "import m.d.e") E03 (place 1 11)
  pub import_without_a_module : Refuses (codes "import .d") E03 (place 1 8)
  pub import_of_a_word : Refuses (codes "import m.def") E03 (place 1 10)
  pub import_with_a_text : Refuses (codes "import \"m\".d") E03 (place 1 8)
  pub rec_without_a_type : Refuses (codes "def rec a = 1") E03 (place 1 11)
  pub rec_twice : Refuses (codes "def rec rec a: Int = 1") E03 (place 1 9)
  pub rec_behind_the_name : Refuses (codes "def a rec: Int = 1") E03 (place 1 7)
  pub word_first : Refuses (codes "fun (x: Int) => x") E03 (place 1 1)
  pub definition_in_a_definition : Refuses (codes "def a = def b = 1") E03 (place 1 9)

-- What is an operand wherever one is wanted, without parentheses.
pub record WholeOperands : Type 0 where
  -- an exit
  pub boxed_exit : Accepts
      (codes "def a = fun (e: Exit[Int]) => box exit [Int] (e, 1)") (codes "a: (_0: Exit[Int]) -> Box[Int]" ∷ [])
  pub opened_exit : Accepts
      (codes "def a = fun (e: Exit[Int]) => unbox exit [Box[Int]] (e, 1)") (codes "a: (_0: Exit[Int]) -> Int" ∷ [])
  pub added_exit : Accepts
      (codes "def a = fun (e: Exit[Int]) => 1 + exit [Int] (e, 1)") (codes "a: (_0: Exit[Int]) -> Int" ∷ [])
  pub multiplied_exit : Accepts
      (codes "def a = fun (e: Exit[Int]) => 1 * exit [Int] (e, 1)") (codes "a: (_0: Exit[Int]) -> Int" ∷ [])
  pub compared_exit : Accepts
      (codes "def a = fun (e: Exit[Int]) => 1 < exit [Int] (e, 1)") (codes "a: (_0: Exit[Int]) -> Bool" ∷ [])
  pub exit_with_an_operator : Accepts
      (codes "def a = fun (e: Exit[Int]) => exit [Int] (e, 1) * 2") (codes "a: (_0: Exit[Int]) -> Int" ∷ [])
  pub called_exit : Accepts
      (codes "def a = fun (e: Exit[Int]) => exit [(i: Int) -> Int] (e, 1)(2)")
      (codes "a: (_0: Exit[Int]) -> Int" ∷ [])
  pub exit_with_a_shape : Accepts
      (codes "def a = fun (e: Exit[Int]) => exit [[X <: Any] -> Int] (e, 1)[Int]")
      (codes "a: (_0: Exit[Int]) -> Int" ∷ [])
  pub operated_exit : Accepts
      (codes "def a = fun (e: Exit[Int]) => exit [Console] (e, 1).print(2)") (codes "a: (_0: Exit[Int]) -> Unit" ∷ [])
  -- a repetition
  pub boxed_repetition : Accepts
      (codes "def a = fun (f: (i: Int) -> Unit) => box repeat(1, f)")
      (codes "a: (_0: (_0: Int) -> Unit) -> Box[Unit]" ∷ [])
  pub opened_repetition : Refuses (codes "def a = fun (f: (i: Int) -> Unit) => unbox repeat(1, f)") E13 (place 1 44)
  pub added_repetition : Refuses (codes "def a = fun (f: (i: Int) -> Unit) => 1 + repeat(1, f)") E14 (place 1 42)
  pub multiplied_repetition : Refuses (codes "def a = fun (f: (i: Int) -> Unit) => 1 * repeat(1, f)") E14 (place 1 42)
  pub compared_repetition : Refuses (codes "def a = fun (f: (i: Int) -> Unit) => 1 == repeat(1, f)") E14 (place 1 43)
  pub repetition_with_an_operator : Refuses
      (codes "def a = fun (f: (i: Int) -> Unit) => repeat(1, f) * 2") E14 (place 1 38)
  pub called_repetition : Refuses (codes "def a = fun (f: (i: Int) -> Unit) => repeat(1, f)(2)") E13 (place 1 38)
  pub repetition_with_a_shape : Refuses
      (codes "def a = fun (f: (i: Int) -> Unit) => repeat(1, f)[Int]") E13 (place 1 38)
  pub operated_repetition : Refuses
      (codes "def a = fun (f: (i: Int) -> Unit) => repeat(1, f).read()") E13 (place 1 38)
  -- an opened box and a box
  pub added_unboxing : Accepts
      (codes "def a = fun (b: Box[Int]) => 1 + unbox b") (codes "a: (_0: Box[Int]) -> Int" ∷ [])
  pub multiplied_unboxing : Accepts
      (codes "def a = fun (b: Box[Int]) => 2 * unbox b") (codes "a: (_0: Box[Int]) -> Int" ∷ [])
  pub unboxing_with_an_operator : Accepts
      (codes "def a = fun (b: Box[Int]) => unbox b * 2") (codes "a: (_0: Box[Int]) -> Int" ∷ [])
  pub compared_unboxings : Accepts
      (codes "def a = fun (b: Box[Int]) => unbox b < unbox b") (codes "a: (_0: Box[Int]) -> Bool" ∷ [])
  pub boxed_unboxing : Accepts
      (codes "def a = fun (b: Box[Int]) => box unbox b") (codes "a: (_0: Box[Int]) -> Box[Int]" ∷ [])
  pub opened_box : Accepts
      (codes "def a = fun (b: Box[Int]) => unbox box b") (codes "a: (_0: Box[Int]) -> Box[Int]^{_0}" ∷ [])
  pub multiplied_box : Refuses (codes "def a = fun (b: Box[Int]) => 2 * box b") E14 (place 1 34)
  pub box_with_an_operator : Refuses (codes "def a = fun (b: Box[Int]) => box b * 2") E14 (place 1 30)
  pub opened_call : Accepts
      (codes "def a = fun (f: (i: Int) -> Box[Int]) => unbox f(1)")
      (codes "a: (_0: (_0: Int) -> Box[Int]) -> Int" ∷ [])
  pub opened_operation : Refuses (codes "def a = fun (f: File^{cap}) => unbox f.read()") E13 (place 1 38)
  pub boxed_type_call : Accepts
      (codes "def a = fun (f: [X <: Any] -> Int) => box f[Int]")
      (codes "a: (_0: [_T0 <: Any] -> Int) -> Box[Int]" ∷ [])
  pub opened_chain : Accepts
      (codes "def a = fun (f: (i: Int) -> [X <: Any] -> Box[Int]) => unbox {} f(1)[Int] + 1")
      (codes "a: (_0: (_0: Int) -> [_T1 <: Any] -> Box[Int]) -> Int" ∷ [])
  -- a parenthesis, a literal and a name
  pub called_parenthesis : Accepts
      (codes "def a = fun (f: (i: Int) -> Int) => (f)(1)") (codes "a: (_0: (_0: Int) -> Int) -> Int" ∷ [])
  pub called_box : Refuses (codes "def a = fun (b: Box[Int]) => (unbox b)(1)") E13 (place 1 30)
  pub call_of_a_call : Accepts
      (codes "def a = fun (f: (i: Int) -> (j: Int) -> Int) => f(1)(2)")
      (codes "a: (_0: (_0: Int) -> (_1: Int) -> Int) -> Int" ∷ [])
  pub type_call_of_a_call : Accepts
      (codes "def a = fun (f: (i: Int) -> [X <: Any] -> Int) => f(1)[Int]")
      (codes "a: (_0: (_0: Int) -> [_T1 <: Any] -> Int) -> Int" ∷ [])
  pub call_of_a_type_call : Accepts
      (codes "def a = fun (f: [X <: Any] -> (i: Int) -> Int) => f[Int](1)")
      (codes "a: (_0: [_T0 <: Any] -> (_1: Int) -> Int) -> Int" ∷ [])
  pub operated_call : Accepts
      (codes "def a = fun (f: (i: Int) -> File^{cap}) => f(1).read()")
      (codes "a: (_0: (_0: Int) -> File^{cap}) -> Int" ∷ [])
  pub call_of_an_operation : Refuses (codes "def a = fun (f: File^{cap}) => f.read()(1)") E13 (place 1 32)
  pub type_call_of_an_operation : Refuses (codes "def a = fun (f: File^{cap}) => f.write(1)[Int]") E13 (place 1 32)
  pub called_literal : Refuses (codes "def a = fun (x: Int) => 1(x)") E13 (place 1 25)
  pub operated_literal : Refuses (codes "def a = fun (x: Int) => \"\".say(\"\")") E13 (place 1 25)
  pub operands_of_calls : Accepts
      (codes "def a = fun (f: (i: Int) -> Int) => f(1) * f(2) + f(3) < f(4)")
      (codes "a: (_0: (_0: Int) -> Int) -> Bool" ∷ [])
  pub call_in_a_product : Accepts
      (codes "def a = fun (f: (i: Int) -> Int) => 1 * f(2)") (codes "a: (_0: (_0: Int) -> Int) -> Int" ∷ [])
  pub type_call_in_a_product : Accepts
      (codes "def a = fun (f: [X <: Any] -> Int) => 1 * f[Int]") (codes "a: (_0: [_T0 <: Any] -> Int) -> Int" ∷ [])
  pub operation_in_a_product : Accepts
      (codes "def a = fun (f: File^{cap}) => 1 * f.read()") (codes "a: (_0: File^{cap}) -> Int" ∷ [])
