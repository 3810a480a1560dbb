-- What fits as a line of a certificate, and what does not.
use Rattle.std.specs.Prelude.{codes, ◌++◌, encode_utf8_all}
use Rattle.cc_certificate_text.specs.Certificates.{IsBadLine}
use Rattle.cc_certificate_examples.specs.FoundTexts.{Says, behind_term, IsTerm, IsNoTerm, IsType, IsNoType, IsSet}
use Rattle.cc_certificate_examples.specs.FoundTexts.{IsNoSet, NodesSay}

-- A certificate begins with its form, then come its binds, one term, and nodes.
pub record FirstLines : Type 0 where
  pub no_form : IsBadLine (codes "term 1\n1 t-lit [] : Int\n") 1
  pub another_form : IsBadLine (codes "cert 2\nterm 1\n1 t-lit [] : Int\n") 1
  pub form_with_more : IsBadLine (codes "cert 1 \nterm 1\n1 t-lit [] : Int\n") 1
  pub form_twice : IsBadLine (codes "cert 1\ncert 1\nterm 1\n1 t-lit [] : Int\n") 2
  pub no_term : IsBadLine (codes "cert 1\n1 t-lit [] : Int\n") 2
  pub no_term_behind_binds : IsBadLine (codes "cert 1\nbind x: Int\n1 t-var [] : Int^{x}\n") 3
  pub term_twice : IsBadLine (codes "cert 1\nterm 1\nterm 1\n1 t-lit [] : Int\n") 3
  pub bind_behind_the_term : IsBadLine (codes "cert 1\nterm 1\nbind x: Int\n1 t-lit [] : Int\n") 3
  pub term_behind_nodes : IsBadLine (codes "cert 1\nterm 1\n1 t-lit [] : Int\nterm 1\n") 4
  pub form_alone : IsBadLine (codes "cert 1\n") 2
  pub binds_alone : IsBadLine (codes "cert 1\nbind x: Int\n") 3

-- Binds have names that differ, and types that are well formed behind the binds before them.
pub record BindLines : Type 0 where
  pub of_one_letter :
      Says (codes "cert 1\nbind x: Int\nterm x\n1 t-var [] : Int^{x}\n")
      (codes "valid Int^{x}")
  pub of_many_letters :
      Says (codes "cert 1\nbind the_x1: Int\nterm the_x1\n1 t-var [] : Int^{the_x1}\n")
      (codes "valid Int^{the_x1}")
  pub of_letters_beyond_ascii :
      Says (encode_utf8_all (codes "cert 1\nbind äß: Int\nterm äß\n1 t-var [] : Int^{äß}\n"))
      (encode_utf8_all (codes "valid Int^{äß}"))
  pub twice : IsBadLine (codes "cert 1\nbind x: Int\nbind x: Int\nterm x\n1 t-var [] : Int^{x}\n") 3
  pub twice_with_one_between :
      IsBadLine (codes "cert 1\nbind x: Int\nbind y: Int\nbind x: Bool\nterm x\n1 t-var [] : Int^{x}\n") 4
  pub of_a_word_of_certificates :
      Says (codes "cert 1\nbind let: Int\nterm 1\n1 t-lit [] : Int\n")
      (codes "valid Int")
  pub of_a_word_of_texts : IsBadLine (codes "cert 1\nbind fun: Int\nterm 1\n1 t-lit [] : Int\n") 2
  pub of_a_digit : IsBadLine (codes "cert 1\nbind 1x: Int\nterm 1\n1 t-lit [] : Int\n") 2
  pub of_a_local_variable : IsBadLine (codes "cert 1\nbind _0: Int\nterm 1\n1 t-lit [] : Int\n") 2
  pub of_nothing : IsBadLine (codes "cert 1\nbind : Int\nterm 1\n1 t-lit [] : Int\n") 2
  pub without_a_type : IsBadLine (codes "cert 1\nbind x:\nterm 1\n1 t-lit [] : Int\n") 2
  pub without_a_space : IsBadLine (codes "cert 1\nbind x:Int\nterm 1\n1 t-lit [] : Int\n") 2
  pub with_a_space_before_the_colon : IsBadLine (codes "cert 1\nbind x : Int\nterm 1\n1 t-lit [] : Int\n") 2
  pub with_two_spaces : IsBadLine (codes "cert 1\nbind  x: Int\nterm 1\n1 t-lit [] : Int\n") 2
  pub with_a_space_at_the_end : IsBadLine (codes "cert 1\nbind x: Int \nterm 1\n1 t-lit [] : Int\n") 2
  pub with_an_older_one :
      Says (codes "cert 1\nbind x: Int\nbind y: Int^{x}\nterm y\n1 t-var [] : Int^{y}\n")
      (codes "valid Int^{y}")
  pub with_itself : IsBadLine (codes "cert 1\nbind x: Int^{x}\nterm 1\n1 t-lit [] : Int\n") 2
  pub with_a_newer_one : IsBadLine (codes "cert 1\nbind y: Int^{x}\nbind x: Int\nterm 1\n1 t-lit [] : Int\n") 2
  pub with_a_name_as_a_shape : IsBadLine (codes "cert 1\nbind x: Int\nbind y: _T0\nterm 1\n1 t-lit [] : Int\n") 3
  pub with_a_local_variable : IsBadLine (codes "cert 1\nbind x: Int^{_0}\nterm 1\n1 t-lit [] : Int\n") 2
  -- their numbers begin at 0, whatever binds stand before
  pub with_binders :
      Says (
      codes "cert 1\nbind x: Int\nbind f: (_0: Int) -> (_1: Int) -> Int^{_0, _1}\nterm 1\n"
      ++ codes "1 t-lit [] : Int\n")
      (codes "valid Int")
  pub with_a_binder_of_another_number :
      IsBadLine (codes "cert 1\nbind x: Int\nbind f: (_1: Int) -> Int\nterm 1\n1 t-lit [] : Int\n") 3
  pub with_an_omitted_set : IsBadLine (codes "cert 1\nbind x: Int^?\nterm 1\n1 t-lit [] : Int\n") 2

-- The elements of a set stand in order: those with names by their binds, then local variables by their numbers, then
-- the universal capability. None stands twice, and an empty set behind `^` is not written.
pub record SetLines : Type 0 where
  pub one : IsSet (codes "a")
  -- they stand in the order of their binds
  pub two_names : IsSet (codes "b, a")
  pub local_variables : IsSet (codes "_0, _1")
  pub name_and_local_variable : IsSet (codes "a, _0")
  pub local_variables_by_their_numbers : IsSet (codes "_9, _10")
  pub name_and_universal_capability : IsSet (codes "b, cap")
  pub all : IsSet (codes "b, a, _0, _1, cap")
  pub universal_capability : IsSet (codes "cap")
  pub two_names_in_the_other_order : IsNoSet (codes "a, b")
  pub local_variables_in_the_other_order : IsNoSet (codes "_1, _0")
  pub local_variables_by_their_letters : IsNoSet (codes "_10, _9")
  pub local_variable_before_a_name : IsNoSet (codes "_0, a")
  pub universal_capability_before_a_name : IsNoSet (codes "cap, a")
  pub universal_capability_before_a_local_variable : IsNoSet (codes "cap, _0")
  pub name_twice : IsNoSet (codes "a, a")
  pub local_variable_twice : IsNoSet (codes "_0, _0")
  pub universal_capability_twice : IsNoSet (codes "cap, cap")
  pub without_a_space : IsNoSet (codes "b,a")
  pub with_two_spaces : IsNoSet (codes "b,  a")
  pub with_a_space_before_the_comma : IsNoSet (codes "b , a")
  pub without_a_comma : IsNoSet (codes "b a")
  pub with_a_comma_behind : IsNoSet (codes "b, a, ")
  pub with_a_comma_alone_behind : IsNoSet (codes "b, a,")
  pub with_a_space_in_front : IsNoSet (codes " a")
  -- behind `^` stands an element
  pub without_elements : IsNoSet (codes "")
  pub of_no_name : IsNoSet (codes "c")
  pub of_a_front_of_a_name : IsNoSet (codes "bc")
  pub of_a_number : IsNoSet (codes "0")
  pub of_a_type_variable : IsNoSet (codes "_T0")
  pub of_a_number_with_a_zero : IsNoSet (codes "_00")
  pub of_a_low_line : IsNoSet (codes "_")
  pub omitted : IsNoSet (codes "?")
  -- local variables of a term are counted from the outermost on
  pub in_an_unboxing :
      Says (
      codes "cert 1\nbind b: Box[Int]\nterm fun (_0: Int) => fun (_1: Int) => unbox {_0, _1} b\n"
      ++ codes "1 t-lit [] : Int\n")
      (codes "bad node 1")
  pub in_an_unboxing_in_the_other_order : IsBadLine (
      codes "cert 1\nbind b: Box[Int]\nterm fun (_0: Int) => fun (_1: Int) => unbox {_1, _0} b\n"
      ++ codes "1 t-lit [] : Int\n") 3

-- A term has one text, and all that is omitted in a program is written in it. What stands in it has its binder, and
-- is of the kind of its place. Where a line of a term fits, the node behind it is bad.
pub record TermLines : Type 0 where
  pub variable : IsTerm (codes "x")
  pub of_no_name : IsNoTerm (codes "y")
  pub local_variable_without_a_binder : IsNoTerm (codes "_0")
  pub local_variable_without_its_binder : IsNoTerm (codes "fun (_0: Int) => _1")
  pub unit_value : IsTerm (codes "unit")
  pub truths : IsTerm (codes "let _0 = true in false")
  pub greatest_number : IsTerm (codes "9223372036854775807")
  pub greater_number : IsNoTerm (codes "9223372036854775808")
  pub negative_number : IsNoTerm (codes "-1")
  pub number_with_a_zero : IsNoTerm (codes "01")
  pub text : IsTerm (codes "\"a b\"")
  pub text_beyond_ascii : IsTerm (encode_utf8_all (codes "\"ä\""))
  pub empty_text : IsTerm (codes "\"\"")
  pub text_without_an_end : IsNoTerm (codes "\"a")
  pub text_with_a_quote : IsNoTerm (codes "\"a\"b\"")
  pub text_with_a_tab : IsNoTerm (codes "\"a\tb\"")
  pub function : IsTerm (codes "fun (_0: Int^{x}) => _0")
  pub function_of_another_number : IsNoTerm (codes "fun (_1: Int) => _1")
  pub function_with_a_name : IsNoTerm (codes "fun (y: Int) => 1")
  pub function_without_a_type : IsNoTerm (codes "fun (_0) => 1")
  pub function_of_an_omitted_set : IsNoTerm (codes "fun (_0: Int^?) => 1")
  pub function_of_two_parameters : IsTerm (codes "fun (_0: Int) => fun (_1: Int^{_0}) => _1")
  pub function_in_its_own_type : IsNoTerm (codes "fun (_0: Int^{_0}) => 1")
  pub type_function : IsTerm (codes "fun [_T0 <: Box[Int^{x}]] => fun (_1: _T0) => _1")
  pub type_function_of_another_number : IsNoTerm (codes "fun [_T1 <: Any] => 1")
  pub type_function_in_its_own_bound : IsNoTerm (codes "fun [_T0 <: _T0] => 1")
  pub type_function_of_a_type : IsNoTerm (codes "fun [_T0 <: Int^{x}] => 1")
  pub type_variable_as_a_term : IsNoTerm (codes "fun [_T0 <: Any] => _0")
  pub type_variable_in_a_set : IsNoTerm (codes "fun [_T0 <: Any] => fun (_1: Int^{_0}) => 1")
  pub variable_as_a_shape : IsNoTerm (codes "fun (_0: Int) => fun (_1: _T0) => 1")
  pub box : IsTerm (codes "box x")
  pub box_of_a_term : IsNoTerm (codes "box 1")
  pub application : IsTerm (codes "f(x)")
  pub application_to_a_term : IsNoTerm (codes "f(1)")
  pub application_to_nothing : IsNoTerm (codes "f()")
  pub application_with_a_space : IsNoTerm (codes "f (x)")
  pub type_application : IsTerm (codes "f[Box[Int^{x}]]")
  pub type_application_to_a_type : IsNoTerm (codes "f[Int^{x}]")
  pub unboxing : IsTerm (codes "unbox {x, f} x")
  pub unboxing_with_nothing : IsTerm (codes "unbox {} x")
  pub unboxing_of_an_omitted_set : IsNoTerm (codes "unbox x")
  pub unboxing_in_the_other_order : IsNoTerm (codes "unbox {f, x} x")
  pub let_of_no_type : IsTerm (codes "let _0 = x in _0")
  pub let_with_a_type : IsTerm (codes "let _0: Int^{x} = 1 in let _1: (_1: Int) -> Int = f in _1")
  pub let_of_another_number : IsNoTerm (codes "let _1 = 1 in 2")
  pub let_of_an_omitted_set : IsNoTerm (codes "let _0: Int^? = 1 in 2")
  pub let_in_its_own_right_side : IsNoTerm (codes "let _0 = _0 in 1")
  pub let_in_its_own_type : IsNoTerm (codes "let _0: Int^{_0} = 1 in 1")
  pub let_in_a_let : IsTerm (codes "let _0 = let _0 = 1 in _0 in _0")
  pub operators : IsTerm (codes "let _0 = x + x in let _1 = x - _0 in let _2 = _0 * _1 in let _3 = x < x in x == x")
  pub operator_on_a_number : IsNoTerm (codes "x + 1")
  pub operator_without_spaces : IsNoTerm (codes "x+x")
  pub division : IsNoTerm (codes "x / x")
  pub choice : IsTerm (codes "if [Int^{x}] x then 1 else 2")
  pub choice_of_no_type : IsNoTerm (codes "if x then 1 else 2")
  pub choice_of_an_omitted_set : IsNoTerm (codes "if [Int^?] x then 1 else 2")
  pub choice_by_a_term : IsNoTerm (codes "if [Int] true then 1 else 2")
  pub choice_with_one_branch : IsNoTerm (codes "if [Int] x then 1")
  pub choice_of_lets : IsTerm (codes "if [Int] x then let _0 = 1 in _0 else let _0 = 2 in _0")
  pub repetition : IsTerm (codes "repeat(x, f)")
  pub repetition_without_a_space : IsNoTerm (codes "repeat(x,f)")
  pub repetition_of_a_number : IsNoTerm (codes "repeat(1, f)")
  pub operations : IsTerm (
      codes "let _0 = x.print(x) in let _1 = x.say(x) in let _2 = x.read() in let _3 = "
      ++ codes "x.write(x) in x.tick()")
  pub printing_nothing : IsNoTerm (codes "x.print()")
  pub saying_nothing : IsNoTerm (codes "x.say()")
  pub reading_something : IsNoTerm (codes "x.read(x)")
  pub writing_nothing : IsNoTerm (codes "x.write()")
  pub ticking_something : IsNoTerm (codes "x.tick(x)")
  pub operation_of_no_name : IsNoTerm (codes "x.open()")
  pub boundary : IsTerm (codes "boundary [Int] _0 => exit [Int^{x}] (_0, x)")
  pub boundary_of_another_number : IsNoTerm (codes "boundary [Int] _1 => 1")
  pub boundary_of_a_type : IsNoTerm (codes "boundary [Int^{x}] _0 => 1")
  pub boundary_under_its_exit : IsNoTerm (codes "boundary [Box[Int^{_0}]] _0 => 1")
  pub exit : IsTerm (codes "exit [Int^{x}] (x, f)")
  pub exit_of_no_type : IsNoTerm (codes "exit (x, f)")
  pub exit_of_an_omitted_set : IsNoTerm (codes "exit [Int^?] (x, f)")
  pub exit_without_a_space : IsNoTerm (codes "exit [Int] (x,f)")
  pub term_in_parentheses : IsNoTerm (codes "(x)")
  pub term_with_a_space_behind : IsNoTerm (codes "x ")

-- A type has one text: what a function gives stands behind its arrow without parentheses, and these stand around it
-- where a set stands behind.
pub record TypeLines : Type 0 where
  pub unit : IsType (codes "Unit")
  pub bool : IsType (codes "Bool")
  pub int : IsType (codes "Int")
  pub str : IsType (codes "Str")
  pub console : IsType (codes "Console")
  pub file : IsType (codes "File")
  pub counter : IsType (codes "Counter")
  pub any : IsType (codes "Any")
  pub no_shape : IsNoType (codes "Number")
  pub longer_word : IsNoType (codes "Ints")
  pub word_of_small_letters : IsNoType (codes "int")
  pub with_a_set : IsType (codes "Int^{x}")
  pub with_an_empty_set : IsNoType (codes "Int^{}")
  pub with_a_space : IsNoType (codes "Int ^{x}")
  pub in_parentheses : IsNoType (codes "(Int)^{x}")
  pub function : IsType (codes "(_0: Int) -> Int")
  pub function_with_a_set : IsType (codes "((_0: Int) -> Int)^{x}")
  pub function_whose_result_has_a_set : IsType (codes "(_0: Int) -> Int^{x}")
  pub function_in_parentheses : IsNoType (codes "((_0: Int) -> Int)")
  pub function_with_an_empty_set : IsNoType (codes "((_0: Int) -> Int)^{}")
  pub function_that_takes_one : IsType (codes "(_0: (_0: Int) -> Int) -> Int")
  pub function_that_takes_one_with_a_set : IsType (codes "(_0: ((_0: Int) -> Int)^{x}) -> Int")
  pub function_that_gives_one : IsType (codes "(_0: Int) -> (_1: Int) -> Int")
  pub function_that_gives_one_with_a_set : IsType (codes "(_0: Int) -> ((_1: Int) -> Int)^{x, _0}")
  pub function_that_gives_one_in_parentheses : IsNoType (codes "(_0: Int) -> ((_1: Int) -> Int)")
  pub function_without_a_name : IsNoType (codes "(Int) -> Int")
  pub function_without_a_space : IsNoType (codes "(_0:Int) -> Int")
  pub function_without_a_space_before_its_arrow : IsNoType (codes "(_0: Int)-> Int")
  pub type_function : IsType (codes "[_T0 <: Any] -> _T0")
  pub type_function_with_a_set : IsType (codes "([_T0 <: Any] -> Int)^{x}")
  pub type_function_under_another : IsType (codes "[_T0 <: Any] -> [_T1 <: _T0] -> Box[_T1]")
  pub parameter_as_a_shape : IsNoType (codes "(_0: Int) -> _T0")
  pub type_parameter_in_a_set : IsNoType (codes "[_T0 <: Any] -> Int^{_0}")
  pub type_function_without_a_bound : IsNoType (codes "[_T0] -> Int")
  pub type_function_whose_bound_has_a_set : IsNoType (codes "[_T0 <: Int^{x}] -> Int")
  pub type_variable_with_a_set : IsType (codes "[_T0 <: Any] -> _T0^{x}")
  pub box : IsType (codes "Box[Int^{x}]")
  pub box_with_a_set : IsType (codes "Box[Int^{x}]^{x}")
  pub box_of_a_function : IsType (codes "Box[((_0: Int) -> Int)^{x}]")
  pub box_of_nothing : IsNoType (codes "Box[]")
  pub box_with_a_space : IsNoType (codes "Box [Int]")
  pub exit : IsType (codes "Exit[(_0: Int) -> Int]^{x}")
  pub exit_whose_shape_has_a_set : IsNoType (codes "Exit[Int^{x}]")

-- A node has its number, its rule, its premises, which are the last nodes that are a premise of no other, in their
-- order, and a claim of the kind that its rule concludes.
pub record NodeLines : Type 0 where
  pub whole : NodesSay (codes "1 t-lit [] : Int\n") (codes "valid Int")
  pub of_another_number : IsBadLine (behind_term (codes "2 t-lit [] : Int\n")) 3
  pub of_number_zero : IsBadLine (behind_term (codes "0 t-lit [] : Int\n")) 3
  pub of_no_number : IsBadLine (behind_term (codes "t-lit [] : Int\n")) 3
  pub of_no_rule : IsBadLine (behind_term (codes "1 t-int [] : Int\n")) 3
  pub of_a_longer_rule : IsBadLine (behind_term (codes "1 t-lits [] : Int\n")) 3
  pub without_a_space : IsBadLine (behind_term (codes "1 t-lit[] : Int\n")) 3
  pub without_a_space_behind_premises : IsBadLine (behind_term (codes "1 t-lit []: Int\n")) 3
  pub without_brackets : IsBadLine (behind_term (codes "1 t-lit : Int\n")) 3
  pub without_a_colon : IsBadLine (behind_term (codes "1 t-lit [] Int\n")) 3
  pub with_a_space_behind : IsBadLine (behind_term (codes "1 t-lit [] : Int \n")) 3
  pub with_a_zero_in_front : IsBadLine (behind_term (codes "01 t-lit [] : Int\n")) 3
  pub of_sets_under_a_rule_of_typing : IsBadLine (behind_term (codes "1 t-lit [] {} <: {}\n")) 3
  pub of_shapes_under_a_rule_of_sets : IsBadLine (behind_term (codes "1 set [] Int <: Int\n")) 3
  pub of_terms_under_a_rule_of_shapes : IsBadLine (behind_term (codes "1 refl [] : Int\n")) 3
  pub of_sets_under_a_rule_of_types : IsBadLine (behind_term (codes "1 capt [] {} <: {}\n")) 3
  pub of_types_under_a_rule_of_shapes : IsBadLine (behind_term (codes "1 refl [] Int^{cap} <: Int^{cap}\n")) 3
  pub of_shapes_in_parentheses : IsBadLine (behind_term (codes "1 refl [] ((_0: Int) -> Int) <: Int\n")) 3
  pub with_one_premise : NodesSay (codes "1 t-lit [] : Int\n2 t-lit [1] : Int\n") (codes "bad node 2")
  pub with_two_premises :
      NodesSay (codes "1 t-lit [] : Int\n2 t-lit [] : Int\n3 t-lit [1 2] : Int\n") (codes "bad node 3")
  pub with_premises_in_the_other_order :
      IsBadLine (behind_term (codes "1 t-lit [] : Int\n2 t-lit [] : Int\n3 t-lit [2 1] : Int\n")) 5
  pub with_the_first_of_two :
      IsBadLine (behind_term (codes "1 t-lit [] : Int\n2 t-lit [] : Int\n3 t-lit [1] : Int\n")) 5
  -- the first one is a premise of the next node
  pub with_the_last_of_two :
      NodesSay (codes "1 t-lit [] : Int\n2 t-lit [] : Int\n3 t-lit [2] : Int\n4 t-lit [1 3] : Int\n")
      (codes "bad node 4")
  pub with_a_premise_twice : IsBadLine (behind_term (codes "1 t-lit [] : Int\n2 t-lit [1 1] : Int\n")) 4
  pub with_a_premise_of_two_nodes :
      IsBadLine (behind_term (codes "1 t-lit [] : Int\n2 t-lit [1] : Int\n3 t-lit [1] : Int\n")) 5
  pub with_itself : IsBadLine (behind_term (codes "1 t-lit [1] : Int\n")) 3
  pub with_a_later_one : IsBadLine (behind_term (codes "1 t-lit [2] : Int\n2 t-lit [] : Int\n")) 3
  pub with_two_spaces : IsBadLine (behind_term (codes "1 t-lit [] : Int\n2 t-lit [] : Int\n3 t-lit [1  2] : Int\n")) 5
  pub with_a_comma : IsBadLine (behind_term (codes "1 t-lit [] : Int\n2 t-lit [] : Int\n3 t-lit [1, 2] : Int\n")) 5
  pub with_a_space_in_brackets : IsBadLine (behind_term (codes "1 t-lit [ ] : Int\n")) 3
  pub with_a_zero_before_a_premise : IsBadLine (behind_term (codes "1 t-lit [] : Int\n2 t-lit [01] : Int\n")) 4
  pub unused : IsBadLine (behind_term (codes "1 t-lit [] : Int\n2 t-lit [] : Int\n")) 5
  pub unused_in_front : IsBadLine (behind_term (codes "1 t-lit [] : Int\n2 t-lit [] : Int\n3 t-lit [2] : Int\n")) 6
  pub below_without_spaces : IsBadLine (behind_term (codes "1 refl [] Int<:Int\n")) 3
  pub below_nothing : IsBadLine (behind_term (codes "1 refl [] Int <: \n")) 3
  pub sets_without_a_brace : IsBadLine (behind_term (codes "1 elem [] {} <: cap\n")) 3
  pub of_an_omitted_set : IsBadLine (behind_term (codes "1 t-lit [] : Int^{?}\n")) 3
  pub of_binders_of_one_number :
      NodesSay (codes "1 refl [] (_3: Int) -> Int <: (_3: Int) -> Int\n") (codes "bad node 1")
  pub of_binders_of_two_numbers : IsBadLine (behind_term (codes "1 refl [] (_3: Int) -> Int <: (_4: Int) -> Int\n")) 3
  pub of_a_binder_on_the_right_side : NodesSay (codes "1 refl [] Int <: Box[(_3: Int) -> Int]\n") (codes "bad node 1")
  pub of_a_binder_in_an_exit :
      NodesSay (codes "1 refl [] Exit[(_3: Int) -> (_4: Int) -> Int] <: Int\n") (codes "bad node 1")
  pub of_types_with_binders_of_two_numbers :
      IsBadLine (behind_term (codes "1 capt [] ((_3: Int) -> Int)^{cap} <: (_2: Int) -> Int\n")) 3
  pub of_binders_that_skip_a_number : IsBadLine (behind_term (codes "1 t-lit [] : (_0: Int) -> (_2: Int) -> Int\n")) 3
  pub of_binders_of_one_number_inside : IsBadLine (behind_term (codes "1 t-lit [] : (_0: Int) -> (_0: Int) -> Int\n")) 3
  pub of_a_shape_with_a_name : IsBadLine (behind_term (codes "1 refl [] _Tx <: Any\n")) 3
