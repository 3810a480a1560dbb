-- Texts with types that are written for terms.
use Rattle.std.proofs.Common.{refl, codes, [], ◌∷◌}
use Rattle.cc_base.specs.declared.code.Code.TheVariants.{E15}
use Rattle.cc_worked_texts.specs.TextVerdicts.{place, lines}
use Rattle.cc_worked_texts.specs.WrittenTexts as example
use Rattle.cc_worked_texts.proofs.ComputedModules.{text_computing, refused, accepted}

pub types : example.WrittenTypes
unfolding text_computing
types = record {
  val = accepted 9 (codes "def a = fun (x: Int) => val y: Any^{x} = x; y") (codes "a: (_0: Int) -> Any^{_0}" ∷ []) refl;
  val_with_a_greater_set = accepted 9 (codes "def a = fun (x: Int) => val y: Int^{x, out} = x; y") (codes "a: (_0: Int) -> Int^{out, _0}" ∷ []) refl;
  val_of_a_pure_name = accepted 9 (codes "def a = fun (x: Int) => val y: Any = x; y") (codes "a: (_0: Int) -> Any" ∷ []) refl;
  definition = accepted 9 (codes "def a: Any = fun (x: Int) => x") (codes "a: Any" ∷ []) refl;
  definition_with_a_set = accepted 9 (codes "def a: ((x: Int) -> Any)^{hits} = fun (x: Int) => 1") (codes "a: ((_0: Int) -> Any)^{hits}" ∷ []) refl;
  recursive_definition = accepted 9 (codes "def rec a: ((x: Int) -> Any)^{hits} = fun (x: Int) => 1") (codes "a: ((_0: Int) -> Any)^{hits}" ∷ []) refl;
  choice = accepted 9 (codes "def a = fun (x: Int) => if [Any] true then 1 else 2") (codes "a: (_0: Int) -> Any" ∷ []) refl;
  choice_of_two_shapes = accepted 9 (codes "def a = fun (x: Int) => if [Any^{x}] true then x else \"\"") (codes "a: (_0: Int) -> Any^{_0}" ∷ []) refl;
  boundary = accepted 9 (codes "def a = fun (x: Int) => boundary [Any] z => 1") (codes "a: (_0: Int) -> Any" ∷ []) refl;
  boundary_in_a_function = accepted 9 (codes "def a = fun (x: Int) => boundary [(y: Int) -> Any] z => fun (y: Int) => 1") (codes "a: (_0: Int) -> (_1: Int) -> Any" ∷ []) refl;
  exit = accepted 9 (codes "def a = fun (e: Exit[Int]) => exit [Any] (e, 1)") (codes "a: (_0: Exit[Int]) -> Any" ∷ []) refl;
  exit_with_a_set = accepted 9 (codes "def a = fun (e: Exit[Int]) => exit [Any^{out}] (e, 1)") (codes "a: (_0: Exit[Int]) -> Any^{out}" ∷ []) refl;
  exit_that_takes_more = accepted 9 (codes "def a = fun (e: Exit[Any]) => exit [Int] (e, \"\")") (codes "a: (_0: Exit[Any]) -> Int" ∷ []) refl;
  unboxing = accepted 9 (codes "def a = fun (b: Box[Int^{out}]) => unbox {out, b} b") (codes "a: ((_0: Box[Int^{out}]) -> Int^{out, _0})^{out}" ∷ []) refl;
  argument = accepted 9 (codes "def a = fun (f: (y: Any) -> Any^{y}) => fun (x: Int) => f(x)") (codes "a: (_0: (_0: Any) -> Any^{_0}) -> ((_1: Int) -> Any^{_1})^{_0}" ∷ []) refl;
  type_argument = accepted 9 (codes "def a = fun (f: [X <: Any] -> Box[X]) => f[Int]") (codes "a: (_0: [_T0 <: Any] -> Box[_T0]) -> Box[Int]" ∷ []) refl;
  type_argument_behind_a_call = accepted 9 (codes "def a = fun (x: Int) => fun (f: (i: Int) -> [X <: Any] -> X) => f(1)[Box[Int^{x}]]") (codes "a: (_0: Int) -> (_1: (_1: Int) -> [_T2 <: Any] -> _T2) -> Box[Int^{_0}]" ∷ []) refl;
  type_argument_in_a_function = accepted 9 (codes "def a = fun (f: [X <: Any] -> (y: X) -> Box[X^{y}]) => f[Str]") (codes "a: (_0: [_T0 <: Any] -> (_1: _T0) -> Box[_T0^{_1}]) -> (_1: Str) -> Box[Str^{_1}]" ∷ []) refl;
  own_name = refused 9 (lines (codes "def g = fun (u: Unit) => out.print(1)" ∷ codes "def rec f: (h: Int^{g}) -> Int = fun (h: Int^{g}) => f(h)" ∷ [])) E15 (place 2 56) refl;
  own_name_with_the_device = accepted 9 (lines (codes "def g = fun (u: Unit) => out.print(1)" ∷ codes "def rec f: (h: Int^{g, out}) -> Int = fun (h: Int^{g, out}) => f(h)" ∷ [])) (codes "g: ((_0: Unit) -> Unit)^{out}" ∷ codes "f: (_0: Int^{out}) -> Int" ∷ []) refl;
  omitted_of_a_val = accepted 9 (codes "def a = fun (x: Int) => val y: Any^? = x; y") (codes "a: (_0: Int) -> Any^{_0}" ∷ []) refl;
  omitted_of_a_call = accepted 9 (codes "def a = fun (x: Int) => val y: Any^? = (fun (z: Int) => z)(x); y") (codes "a: (_0: Int) -> Any^{_0}" ∷ []) refl;
  omitted_of_a_definition = accepted 9 (codes "def a: Any^? = fun (x: Int) => out.print(x)") (codes "a: Any^{out}" ∷ []) refl;
  omitted_of_a_pure_definition = accepted 9 (codes "def a: ((x: Int) -> Any)^? = fun (x: Int) => 1") (codes "a: (_0: Int) -> Any" ∷ []) refl;
  omitted_of_a_choice = accepted 9 (codes "def a = fun (x: Int) => if [Any^?] true then x else 1") (codes "a: (_0: Int) -> Any^{_0}" ∷ []) refl;
  omitted_of_a_choice_of_two = accepted 9 (codes "def a = fun (x: Int) => fun (y: Int) => if [Any^?] true then y else x") (codes "a: (_0: Int) -> ((_1: Int) -> Any^{_0, _1})^{_0}" ∷ []) refl;
  omitted_of_a_pure_choice = accepted 9 (codes "def a = fun (x: Int) => if [Int^?] true then 1 else 2") (codes "a: (_0: Int) -> Int" ∷ []) refl;
  omitted_of_an_unboxing = accepted 9 (codes "def a = fun (b: Box[Int^{out, hits}]) => unbox b") (codes "a: ((_0: Box[Int^{out, hits}]) -> Int^{out, hits})^{out, hits}" ∷ []) refl;
  omitted_of_a_parameter = accepted 9 (codes "def a = fun (x: Int^?) => x") (codes "a: (_0: Int) -> Int^{_0}" ∷ []) refl;
  val_that_is_smaller = refused 9 (codes "def a = fun (x: Int) => val y: Int = (val z: Int^{out} = 1; z); y") E15 (place 1 38) refl;
  choice_that_is_smaller = refused 9 (codes "def a = fun (x: Int) => fun (y: Int^{out}) => if [Int^{x}] true then y else x") E15 (place 1 70) refl;
}
