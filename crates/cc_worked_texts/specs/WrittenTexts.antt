-- Texts with types that are written for terms.
use Rattle.std.specs.Prelude.{codes, [], ◌∷◌}
use Rattle.cc_base.specs.declared.code.Code.TheVariants.{E15}
use Rattle.cc_worked_texts.specs.TextVerdicts.{place, lines, Refuses, Accepts}

-- A type that is written is that of the term.
pub record WrittenTypes : Type 0 where
  pub val : Accepts (codes "def a = fun (x: Int) => val y: Any^{x} = x; y") (codes "a: (_0: Int) -> Any^{_0}" ∷ [])
  pub val_with_a_greater_set : Accepts
      (codes "def a = fun (x: Int) => val y: Int^{x, out} = x; y") (codes "a: (_0: Int) -> Int^{out, _0}" ∷ [])
  pub val_of_a_pure_name : Accepts
      (codes "def a = fun (x: Int) => val y: Any = x; y") (codes "a: (_0: Int) -> Any" ∷ [])
  pub definition : Accepts (codes "def a: Any = fun (x: Int) => x") (codes "a: Any" ∷ [])
  pub definition_with_a_set : Accepts
      (codes "def a: ((x: Int) -> Any)^{hits} = fun (x: Int) => 1") (codes "a: ((_0: Int) -> Any)^{hits}" ∷ [])
  pub recursive_definition : Accepts
      (codes "def rec a: ((x: Int) -> Any)^{hits} = fun (x: Int) => 1") (codes "a: ((_0: Int) -> Any)^{hits}" ∷ [])
  pub choice : Accepts
      (codes "def a = fun (x: Int) => if [Any] true then 1 else 2") (codes "a: (_0: Int) -> Any" ∷ [])
  pub choice_of_two_shapes : Accepts
      (codes "def a = fun (x: Int) => if [Any^{x}] true then x else \"\"") (codes "a: (_0: Int) -> Any^{_0}" ∷ [])
  pub boundary : Accepts (codes "def a = fun (x: Int) => boundary [Any] z => 1") (codes "a: (_0: Int) -> Any" ∷ [])
  pub boundary_in_a_function : Accepts
      (codes "def a = fun (x: Int) => boundary [(y: Int) -> Any] z => fun (y: Int) => 1")
      (codes "a: (_0: Int) -> (_1: Int) -> Any" ∷ [])
  pub exit : Accepts
      (codes "def a = fun (e: Exit[Int]) => exit [Any] (e, 1)") (codes "a: (_0: Exit[Int]) -> Any" ∷ [])
  pub exit_with_a_set : Accepts
      (codes "def a = fun (e: Exit[Int]) => exit [Any^{out}] (e, 1)") (codes "a: (_0: Exit[Int]) -> Any^{out}" ∷ [])
  pub exit_that_takes_more : Accepts
      (codes "def a = fun (e: Exit[Any]) => exit [Int] (e, \"\")") (codes "a: (_0: Exit[Any]) -> Int" ∷ [])
  pub unboxing : Accepts
      (codes "def a = fun (b: Box[Int^{out}]) => unbox {out, b} b")
      (codes "a: ((_0: Box[Int^{out}]) -> Int^{out, _0})^{out}" ∷ [])
  pub argument : Accepts
      (codes "def a = fun (f: (y: Any) -> Any^{y}) => fun (x: Int) => f(x)")
      (codes "a: (_0: (_0: Any) -> Any^{_0}) -> ((_1: Int) -> Any^{_1})^{_0}" ∷ [])
  pub type_argument : Accepts
      (codes "def a = fun (f: [X <: Any] -> Box[X]) => f[Int]")
      (codes "a: (_0: [_T0 <: Any] -> Box[_T0]) -> Box[Int]" ∷ [])
  pub type_argument_behind_a_call : Accepts
      (codes "def a = fun (x: Int) => fun (f: (i: Int) -> [X <: Any] -> X) => f(1)[Box[Int^{x}]]")
      (codes "a: (_0: Int) -> (_1: (_1: Int) -> [_T2 <: Any] -> _T2) -> Box[Int^{_0}]" ∷ [])
  pub type_argument_in_a_function : Accepts
      (codes "def a = fun (f: [X <: Any] -> (y: X) -> Box[X^{y}]) => f[Str]")
      (codes "a: (_0: [_T0 <: Any] -> (_1: _T0) -> Box[_T0^{_1}]) -> (_1: Str) -> Box[Str^{_1}]" ∷ [])
  -- a recursive name has the type that others see
  pub own_name : Refuses
      (lines (codes "def g = fun (u: Unit) => out.print(1)"
      ∷ codes "def rec f: (h: Int^{g}) -> Int = fun (h: Int^{g}) => f(h)" ∷ []))
      E15 (place 2 56)
  pub own_name_with_the_device : Accepts
      (lines (codes "def g = fun (u: Unit) => out.print(1)"
      ∷ codes "def rec f: (h: Int^{g, out}) -> Int = fun (h: Int^{g, out}) => f(h)" ∷ []))
      (codes "g: ((_0: Unit) -> Unit)^{out}" ∷ codes "f: (_0: Int^{out}) -> Int" ∷ [])
  -- where the set is omitted, the shape is what was written
  pub omitted_of_a_val : Accepts
      (codes "def a = fun (x: Int) => val y: Any^? = x; y") (codes "a: (_0: Int) -> Any^{_0}" ∷ [])
  pub omitted_of_a_call : Accepts
      (codes "def a = fun (x: Int) => val y: Any^? = (fun (z: Int) => z)(x); y")
      (codes "a: (_0: Int) -> Any^{_0}" ∷ [])
  pub omitted_of_a_definition : Accepts
      (codes "def a: Any^? = fun (x: Int) => out.print(x)") (codes "a: Any^{out}" ∷ [])
  pub omitted_of_a_pure_definition : Accepts
      (codes "def a: ((x: Int) -> Any)^? = fun (x: Int) => 1") (codes "a: (_0: Int) -> Any" ∷ [])
  pub omitted_of_a_choice : Accepts
      (codes "def a = fun (x: Int) => if [Any^?] true then x else 1") (codes "a: (_0: Int) -> Any^{_0}" ∷ [])
  pub omitted_of_a_choice_of_two : Accepts
      (codes "def a = fun (x: Int) => fun (y: Int) => if [Any^?] true then y else x")
      (codes "a: (_0: Int) -> ((_1: Int) -> Any^{_0, _1})^{_0}" ∷ [])
  pub omitted_of_a_pure_choice : Accepts
      (codes "def a = fun (x: Int) => if [Int^?] true then 1 else 2") (codes "a: (_0: Int) -> Int" ∷ [])
  pub omitted_of_an_unboxing : Accepts
      (codes "def a = fun (b: Box[Int^{out, hits}]) => unbox b")
      (codes "a: ((_0: Box[Int^{out, hits}]) -> Int^{out, hits})^{out, hits}" ∷ [])
  pub omitted_of_a_parameter : Accepts (codes "def a = fun (x: Int^?) => x") (codes "a: (_0: Int) -> Int^{_0}" ∷ [])
  -- and where it is written, it has to be above
  pub val_that_is_smaller : Refuses
      (codes "def a = fun (x: Int) => val y: Int = (val z: Int^{out} = 1; z); y") E15 (place 1 38)
  pub choice_that_is_smaller : Refuses
      (codes "def a = fun (x: Int) => fun (y: Int^{out}) => if [Int^{x}] true then y else x") E15 (place 1 70)
