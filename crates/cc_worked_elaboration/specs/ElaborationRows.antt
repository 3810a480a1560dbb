-- Why elaboration refuses texts: texts beside a console out and a counter hits, with the code, the place and the lines of the
-- cause of the first refusal, or with none.
use Rattle.std.specs.Prelude.{◌≡◌, ℕ, codes, encode_utf8_all, List, [], ◌∷◌, Option, Some, None}
use Rattle.std.specs.Option.{option_map}
use Rattle.cc_base.specs.declared.code.Code.{Code}
use Rattle.cc_base.specs.declared.code.Code.TheVariants.{E09, E10, E11, E12, E19}
use Rattle.cc_base.specs.declared.place.Place.{Place}
use Rattle.cc_mnf.specs.ElaboratedModules.{device_names}
use Rattle.cc_verdicts.specs.Readings.{TextReading, IsTree, IsNoModule, reading_of_text}
use Rattle.cc_elaboration_reasons.specs.ElaborationCauses.{code_of, ExplainedRefusal}
use Rattle.cc_elaboration_reasons.specs.ElaborationReasonTexts.{elaboration_cause_lines}
use Rattle.cc_elaboration_reasons.specs.ExplainedElaboration.{first_refusal}
use Rattle.cc_worked_texts.specs.TextVerdicts.{devices, place, lines}

-- what is told of a refusal: its code, its place, and the lines of its cause
pub record Told : Type 0 where
  pub code : Code
  pub at : Place
  pub lines : List (List ℕ)

abbrev pub told : ExplainedRefusal → Told
told one = record { code = code_of one.cause; at = one.at; lines = elaboration_cause_lines one.cause }

-- what is told of a text that is a module, if it is refused
abbrev pub told_of : TextReading → Option (Option Told)
told_of (IsTree tree) = Some (option_map told (first_refusal (device_names devices) tree))
told_of (IsNoModule code at) = None

-- the text is a module, and refused with this code at this place, with these lines of the cause
abbrev pub Tells : List ℕ → Code → Place → List (List ℕ) → Type 0
Tells text code at lines = told_of (reading_of_text text) ≡ Some (Some (record { code = code; at = at; lines = lines }))

-- the text is a module, and not refused
abbrev pub IsNotRefused : List ℕ → Type 0
IsNotRefused text = told_of (reading_of_text text) ≡ Some None

-- A name that is given a second time, and where it stands first.
pub record SecondNames : Type 0 where
  pub of_a_definition : Tells (lines (codes "def a = 1" ∷ codes "def a = 2" ∷ [])) E09 (place 2 5)
      (codes "name a" ∷ codes "first 1:5" ∷ [])
  pub of_an_import : Tells (lines (codes "import m.f" ∷ codes "def f = 1" ∷ [])) E09 (place 2 5)
      (codes "name f" ∷ codes "first 1:10" ∷ [])
  -- a device stands in no text
  pub of_a_device : Tells (codes "def out = 1") E09 (place 1 5) (codes "name out" ∷ codes "first device" ∷ [])
  pub import_of_a_device : Tells (codes "import m.hits") E09 (place 1 10)
      (codes "name hits" ∷ codes "first device" ∷ [])
  pub import_of_an_import : Tells (lines (codes "import m.f" ∷ codes "import n.f" ∷ [])) E09 (place 2 10)
      (codes "name f" ∷ codes "first 1:10" ∷ [])
  -- of three the second is refused
  pub given_three_times : Tells
      (lines (codes "def a = 1"
      ∷ codes "def a = 2"
      ∷ codes "def a = 3" ∷ []))
      E09 (place 2 5) (codes "name a" ∷ codes "first 1:5" ∷ [])
  -- names between are passed over
  pub among_others : Tells
      (lines (codes "import m.f"
      ∷ codes "def b = 1"
      ∷ codes "def rec a: (x: Int) -> Int = fun (x: Int) => a(x)"
      ∷ codes "def c = 2"
      ∷ codes "def a = 3"
      ∷ codes "def b = 4" ∷ []))
      E09 (place 5 5) (codes "name a" ∷ codes "first 3:9" ∷ [])
  -- the imports come before the definitions
  pub imports_first : Tells
      (lines (codes "import m.f"
      ∷ codes "import m.f"
      ∷ codes "def out = 1" ∷ []))
      E09 (place 2 10) (codes "name f" ∷ codes "first 1:10" ∷ [])
  -- binders hide names, and take none
  pub hidden_by_binders : IsNotRefused
      (lines (codes "def b = fun (out: Int) => fun (b: Int) => val b = b; val out = b; boundary [Int] b => out"
      ∷ codes "def out2 = fun [b <: Int] => 1"
      ∷ codes "def x = fun (x: Int) => x"
      ∷ codes "def y = fun (x: Int) => x" ∷ []))

-- A name that no term has, or no type.
pub record UnknownNames : Type 0 where
  pub term : Tells (codes "def a = fun (x: Unit) => y") E10 (place 1 26) (codes "name y" ∷ [])
  pub in_a_set : Tells (codes "def a = fun (x: Unit^{out, y, z}) => x") E10 (place 1 28) (codes "name y" ∷ [])
  pub in_parentheses : Tells (codes "def a = out(((y)))") E10 (place 1 15) (codes "name y" ∷ [])
  pub type : Tells (codes "def a = fun (x: Q) => x") E11 (place 1 17) (codes "name Q" ∷ [])
  -- terms and types are apart
  pub no_type_of_a_terms_name : Tells (codes "def a = fun (x: Unit) => fun (y: x) => y") E11 (place 1 34)
      (codes "name x" ∷ [])
  pub no_term_of_a_types_name : Tells (codes "def a = fun [X <: Any] => X") E10 (place 1 27)
      (codes "name X" ∷ [])
  pub later_definition : Tells
      (lines (codes "def a = fun (x: Int) => b(x)"
      ∷ codes "def b = 1" ∷ []))
      E10 (place 1 25) (codes "name b" ∷ [])
  pub own_name : Tells (codes "def a = fun (x: Int) => a(x)") E10 (place 1 25) (codes "name a" ∷ [])
  pub own_name_of_a_recursive_definition : IsNotRefused
      (codes "def rec a: (x: Int) -> Int = fun (x: Int) => a(x)")
  -- the first of more is told
  pub function_before_argument : Tells (codes "def a = y(z)") E10 (place 1 9) (codes "name y" ∷ [])
  pub argument_behind_a_known_function : Tells (codes "def a = (out.tick())(z)") E10 (place 1 22)
      (codes "name z" ∷ [])
  pub condition_behind_the_type : Tells (codes "def a = if [Int] y then z else 2") E10 (place 1 18)
      (codes "name y" ∷ [])
  pub type_before_condition : Tells (codes "def a = if [Q] y then 1 else 2") E11 (place 1 13)
      (codes "name Q" ∷ [])
  pub set_before_operand : Tells (codes "def a = unbox {y} z") E10 (place 1 16) (codes "name y" ∷ [])
  pub operand_behind_its_set : Tells (codes "def a = unbox {out} z") E10 (place 1 21) (codes "name z" ∷ [])
  pub type_before_exit : Tells (codes "def a = exit [Q] (y, 1)") E11 (place 1 15) (codes "name Q" ∷ [])
  pub exit_before_its_value : Tells (codes "def a = exit [Int] (y, z)") E10 (place 1 21) (codes "name y" ∷ [])
  pub right_side_before_body : Tells (codes "def a = val x = y; z") E10 (place 1 17) (codes "name y" ∷ [])
  pub second_side : Tells (codes "def a = 1 + y") E10 (place 1 13) (codes "name y" ∷ [])
  pub argument_of_an_operation : Tells (codes "def a = out.print(y)") E10 (place 1 19) (codes "name y" ∷ [])
  pub shape_of_a_type_application : Tells (codes "def a = out[Q]") E11 (place 1 13) (codes "name Q" ∷ [])
  pub function_of_a_repetition : Tells (codes "def a = repeat(1, y)") E10 (place 1 19) (codes "name y" ∷ [])
  -- what is written for a type is looked at first
  pub written_type : Tells (codes "def a: Q = y") E11 (place 1 8) (codes "name Q" ∷ [])

-- A name is told as it stands in the text.
pub record OtherLetters : Type 0 where
  pub unknown : Tells (encode_utf8_all (codes "def a = é")) E10 (place 1 9)
      (encode_utf8_all (codes "name é") ∷ [])
  pub second_of_two : Tells
      (lines (encode_utf8_all (codes "def é = 1")
      ∷ encode_utf8_all (codes "def é = 2") ∷ []))
      E09 (place 2 5) (encode_utf8_all (codes "name é") ∷ codes "first 1:5" ∷ [])

-- The form of a right side that is no value.
pub record NoValues : Type 0 where
  -- parentheses do not count, but it starts at them
  pub name : Tells (codes "def a = ((out))") E12 (place 1 9) (codes "form name" ∷ [])
  pub val : Tells (codes "def a = val x = 1; x") E12 (place 1 9) (codes "form val" ∷ [])
  pub choice : Tells (codes "def a = if [Int] true then 1 else 2") E12 (place 1 9) (codes "form if" ∷ [])
  pub boundary : Tells (codes "def a = boundary [Int] z => 1") E12 (place 1 9) (codes "form boundary" ∷ [])
  pub operator : Tells (codes "def a = 1 + 2") E12 (place 1 9) (codes "form operator" ∷ [])
  pub operator_in_parentheses : Tells (codes "def a = (((1) + 2))") E12 (place 1 9) (codes "form operator" ∷ [])
  pub operator_behind_parentheses : Tells (codes "def a = (1) + 2") E12 (place 1 9) (codes "form operator" ∷ [])
  pub unboxing : Tells (codes "def a = unbox out") E12 (place 1 9) (codes "form unbox" ∷ [])
  pub application : Tells (codes "def a = out(1)") E12 (place 1 9) (codes "form application" ∷ [])
  pub type_application : Tells (codes "def a = out[Int]") E12 (place 1 9) (codes "form type application" ∷ [])
  pub operation : Tells (codes "def a = hits.tick()") E12 (place 1 9) (codes "form operation" ∷ [])
  pub operation_with_an_argument : Tells (codes "def a = out.print(1)") E12 (place 1 9)
      (codes "form operation" ∷ [])
  pub exit : Tells (codes "def a = exit [Int] (out, 1)") E12 (place 1 9) (codes "form exit" ∷ [])
  pub repetition : Tells (codes "def a = repeat(1, out)") E12 (place 1 9) (codes "form repeat" ∷ [])
  -- a box is a value where its content has a name
  pub box_of_a_literal : Tells (codes "def a = box 1") E12 (place 1 9) (codes "form box" ∷ [])
  pub box_of_a_name : IsNotRefused (codes "def a = box ((out))")
  -- in a recursive definition a value has to be a function
  pub recursive_literal : Tells (codes "def rec f: Int = 5") E12 (place 1 18) (codes "form literal" ∷ [])
  pub recursive_box : Tells (codes "def rec f: Int = (box out)") E12 (place 1 18) (codes "form box" ∷ [])
  pub recursive_name : Tells (codes "def rec f: Int = f") E12 (place 1 18) (codes "form name" ∷ [])
  pub literal : IsNotRefused (codes "def f: Int = 5")
  pub functions : IsNotRefused
      (lines (codes "def a = ((fun (x: Int) => x + 1))"
      ∷ codes "def b = fun [X <: Any] => 1 + 2"
      ∷ codes "def rec c: (x: Int) -> Int = ((fun (x: Int) => c(x)))"
      ∷ codes "def rec d: [X <: Any] -> Int = fun [X <: Any] => d[X]" ∷ []))
  -- what is refused inside comes before
  pub inside_before : Tells (codes "def a = 1 + y") E10 (place 1 13) (codes "name y" ∷ [])
  pub before_the_next_name : Tells (lines (codes "def a = 1 + 2" ∷ codes "def a = 3" ∷ [])) E12 (place 1 9)
      (codes "form operator" ∷ [])

-- What stands around a set that has to be written.
pub record OmittedSets : Type 0 where
  pub in_a_box : Tells (codes "def a = fun (x: Box[Int^?]) => x") E19 (place 1 25) (codes "place box" ∷ [])
  pub in_a_parameter : Tells (codes "def a = fun (f: (y: Int^?) -> Int) => f") E19 (place 1 25)
      (codes "place function parameter" ∷ [])
  pub in_a_result : Tells (codes "def a = fun (f: (y: Int) -> Int^?) => f") E19 (place 1 33)
      (codes "place function result" ∷ [])
  pub in_a_result_of_a_type_function : Tells
      (codes "def a = fun (f: [X <: Any] -> Int^?) => f")
      E19 (place 1 35) (codes "place type function" ∷ [])
  pub of_an_exit : Tells (codes "def a = fun (x: Int) => exit [Int^?] (x, x)") E19 (place 1 35)
      (codes "place exit" ∷ [])
  pub of_a_recursive_definition : Tells
      (codes "def rec f: ((u: Unit) -> Unit)^? = fun (u: Unit) => u")
      E19 (place 1 32) (codes "place def rec" ∷ [])
  -- allowed outside, and not inside
  pub box_that_may_omit_its_own : Tells (codes "def a = fun (x: Box[Int^?]^?) => x") E19 (place 1 25)
      (codes "place box" ∷ [])
  -- what stands nearest is told
  pub result_in_a_box : Tells (codes "def a = fun (x: Box[(y: Int) -> Int^?]) => x") E19 (place 1 37)
      (codes "place function result" ∷ [])
  pub box_in_a_parameter : Tells (codes "def a = fun (f: (y: Box[Int^?]^?) -> Int) => f") E19 (place 1 29)
      (codes "place box" ∷ [])
  pub parameter_in_a_recursive_definition : Tells
      (codes "def rec f: (u: Unit^?) -> Unit = fun (u: Unit) => u")
      E19 (place 1 21) (codes "place function parameter" ∷ [])
  pub parentheses_around : Tells (codes "def a = fun (x: Box[((Int))^?]) => x") E19 (place 1 29)
      (codes "place box" ∷ [])
  pub box_in_an_exit_shape : Tells (codes "def a = fun (x: Exit[Box[Int^?]]) => x") E19 (place 1 30)
      (codes "place box" ∷ [])
  pub box_in_a_boundary : Tells (codes "def a = boundary [Box[Int^?]] z => 1") E19 (place 1 27)
      (codes "place box" ∷ [])
  pub box_in_a_bound : Tells (codes "def a = fun [X <: Box[Int^?]] => 1") E19 (place 1 27)
      (codes "place box" ∷ [])
  pub box_in_a_type_argument : Tells (codes "def a = out[Box[Int^?]]") E19 (place 1 21) (codes "place box" ∷ [])
  pub inside_the_type_of_a_val : Tells (codes "def a = val f: (y: Int^?) -> Int = out; f") E19 (place 1 24)
      (codes "place function parameter" ∷ [])
  pub allowed : IsNotRefused
      (codes "def a: ((x: Int) -> Int)^? = fun (x: Int^?) => val y: Int^? = x; if [Int^?] true then x else y")
  pub the_shape_comes_before_the_set : Tells (codes "def a = fun (x: Box[Q^?]) => x") E11 (place 1 21)
      (codes "name Q" ∷ [])
  -- a type comes before the right side, a name before both
  pub before_the_right_side : Tells (codes "def rec f: Int^? = 1") E19 (place 1 16) (codes "place def rec" ∷ [])
  pub behind_the_name : Tells (codes "def rec out: Int^? = y") E09 (place 1 9)
      (codes "name out" ∷ codes "first device" ∷ [])
