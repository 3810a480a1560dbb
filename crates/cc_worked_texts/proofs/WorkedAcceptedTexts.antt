-- Texts that are accepted, with the types that others see.
use Rattle.std.proofs.Common.{refl, codes, [], ◌∷◌, ◌++◌}
use Rattle.cc_base.specs.declared.code.Code.TheVariants.{E15, E16}
use Rattle.cc_worked_texts.specs.TextVerdicts.{place, lines, printer_found}
use Rattle.cc_worked_texts.specs.AcceptedTexts as example
use Rattle.cc_worked_texts.proofs.ComputedModules.{text_computing, refused, accepted, accepted_with}

pub signatures : example.Signatures
unfolding text_computing
signatures = record {
  result_captures_the_parameter = accepted 9 (codes "def a = fun (u: Unit) => u") (codes "a: (_0: Unit) -> Unit^{_0}" ∷ []) refl;
  named_content = accepted 9 (codes "def a = fun (u: Unit) => box (val q = u; q)") (codes "a: (_0: Unit) -> Box[Unit^{_0}]" ∷ []) refl;
  recursion = accepted 9 (codes "def rec f: ((u: Unit) -> Unit)^{out} = fun (u: Unit) => val w = out.print(1); f(u)") (codes "f: ((_0: Unit) -> Unit)^{out}" ∷ []) refl;
  recursive_type_function = accepted 9 (codes "def rec f: [X <: Any] -> Int = fun [X <: Any] => f[X]") (codes "f: [_T0 <: Any] -> Int" ∷ []) refl;
  type_function_behind_a_parameter = accepted 9 (codes "def a = fun (w: Int) => fun (x: Int) => fun [X <: Any] => x") (codes "a: (_0: Int) -> (_1: Int) -> ([_T2 <: Any] -> Int^{_1})^{_1}" ∷ []) refl;
  function_behind_both = accepted 9 (codes "def a = fun (x: Int^{cap}) => fun [X <: Any] => fun (y: X) => box x") (codes "a: (_0: Int^{cap}) -> [_T1 <: Any] -> (_2: _T1) -> Box[Int^{_0}]" ∷ []) refl;
  box_of_a_device = accepted 9 (codes "def a = box (out)") (codes "a: Box[Console^{out}]" ∷ []) refl;
}

pub omitted_sets : example.OmittedSetSignatures
unfolding text_computing
omitted_sets = record {
  omitted_set_of_a_val = accepted 9 (codes "def a = fun (x: Unit) => val y: Unit^? = x; val f = fun (u: Unit) => y; f") (codes "a: (_0: Unit) -> ((_1: Unit) -> Unit^{_0})^{_0}" ∷ []) refl;
  omitted_set_of_a_definition = accepted 9 (codes "def a: ((x: Int) -> Unit)^? = (fun (x: Int) => val y: Int^? = x; out.print(if [Int^?] true then " ++ codes "x else y))") (codes "a: ((_0: Int) -> Unit)^{out}" ∷ []) refl;
  omitted_sets_of_two_definitions = accepted 9 (lines (codes "def a = fun (f: Int^?) => fun (g: Int^?) => f" ∷ codes "def b = fun (h: Int^?) => h" ∷ [])) (codes "a: (_0: Int) -> ((_1: Int) -> Int^{_0})^{_0}" ∷ codes "b: (_0: Int) -> Int^{_0}" ∷ []) refl;
  chosen = accepted 9 (lines (codes "def f = fun (x: Int) => out.print(x)" ∷ codes "def g = fun (x: Int) => val n = hits.tick(); unit" ∷ codes "def c = fun (t: Bool) => if [((x: Int) -> Unit)^?] t then f else g" ∷ [])) (codes "f: ((_0: Int) -> Unit)^{out}" ∷ codes "g: ((_0: Int) -> Unit)^{hits}" ∷ codes "c: ((_0: Bool) -> ((_1: Int) -> Unit)^{out, hits})^{out, hits}" ∷ []) refl;
}

pub several : example.SeveralDefinitions
unfolding text_computing
several = record {
  devices_of_earlier_definitions = accepted 9 (lines (codes "def f = fun (u: Unit) => out.print(1)" ∷ codes "def g = fun (u: Unit) => f(u)" ∷ codes "def h = fun (u: Unit) => hits.tick()" ∷ codes "def k = fun (u: Unit) => val a = g(u); h(u)" ∷ [])) (codes "f: ((_0: Unit) -> Unit)^{out}" ∷ codes "g: ((_0: Unit) -> Unit)^{out}" ∷ codes "h: ((_0: Unit) -> Int)^{hits}" ∷ codes "k: ((_0: Unit) -> Int)^{out, hits}" ∷ []) refl;
  imports_and_definitions = accepted_with 9 (printer_found ∷ []) (lines (codes "import m.f" ∷ codes "def a = fun (x: Int) => f(x)" ∷ codes "def b = fun (x: Int) => val y = a(x); hits.tick()" ∷ [])) (codes "a: ((_0: Int) -> Unit)^{out}" ∷ codes "b: ((_0: Int) -> Int)^{out, hits}" ∷ []) refl;
  recursion_on_numbers = accepted 9 (lines (codes "def rec down: (n: Int) -> Int = fun (n: Int) => if [Int] n < 1 then 0 else down(n - 1)" ∷ codes "def main = fun (u: Unit) => down(3)" ∷ [])) (codes "down: (_0: Int) -> Int" ∷ codes "main: (_0: Unit) -> Int" ∷ []) refl;
}

pub larger : example.LargerDefinitions
unfolding text_computing
larger = record {
  identity = accepted 9 (lines (codes "def id = fun [X <: Any] => fun (x: X) => x" ∷ codes "def f: ((x: Int) -> Int)^{out} = fun (x: Int) => val w = out.print(x); x" ∷ codes "def main = fun (u: Unit) => val g = id[Box[((x: Int) -> Int)^{out}]]; (unbox {out} (g(box f)))(3)" ∷ [])) (codes "id: [_T0 <: Any] -> (_1: _T0) -> _T0^{_1}" ∷ codes "f: ((_0: Int) -> Int)^{out}" ∷ codes "main: ((_0: Unit) -> Int)^{out}" ∷ []) refl;
  nested_boundaries = accepted 9 (lines (codes "def main = fun (u: Unit) =>" ∷ codes "  val r = boundary [Int] a => val s = boundary [Int] b => exit [Int] (a, 4); s + 100;" ∷ codes "  out.print(r)" ∷ [])) (codes "main: ((_0: Unit) -> Unit)^{out}" ∷ []) refl;
  widened_and_narrowed = accepted 9 (lines (codes "def g = fun (c: Console^{cap}) =>" ∷ codes "  val p = fun (x: Int) => c.print(x);" ∷ codes "  val q = fun (h: ((y: Int) -> Unit)^{p}) => p(1);" ∷ codes "  q" ∷ [])) (codes "g: (_0: Console^{cap}) -> ((_1: (_1: Int) -> Unit) -> Unit)^{_0}" ∷ []) refl;
}

pub fillings : example.LeastFillings
unfolding text_computing
fillings = record {
  called_twice = accepted 9 (lines (codes "def main = fun (u: Unit) =>" ∷ codes "  val twice = fun (h: ((x: Int) -> Unit)^?) => val w = h(1); h(2);" ∷ codes "  val p = fun (x: Int) => out.print(x);" ∷ codes "  val q = fun (x: Int) => val n = hits.tick(); unit;" ∷ codes "  val a = twice(p);" ∷ codes "  val b = twice(q);" ∷ codes "  twice" ∷ [])) (codes "main: ((_0: Unit) -> (_1: ((_1: Int) -> Unit)^{out, hits}) -> Unit)^{out, hits}" ∷ []) refl;
  one_fills_the_other = accepted 9 (lines (codes "def main = fun (c: Console^{cap}) =>" ∷ codes "  val a = fun (h: ((x: Int) -> Unit)^?) => h(1);" ∷ codes "  val b = fun (k: ((x: Int) -> Unit)^?) => a(k);" ∷ codes "  val d = fun (x: Int) => c.print(x);" ∷ codes "  val w = b(d);" ∷ codes "  a" ∷ [])) (codes "main: (_0: Console^{cap}) -> (_1: ((_1: Int) -> Unit)^{cap}) -> Unit" ∷ []) refl;
  nothing_flows = accepted 9 (lines (codes "def main = fun (c: Console^{cap}) =>" ∷ codes "  val a = fun (h: ((x: Int) -> Unit)^?) => h(1);" ∷ codes "  val b = fun (k: ((x: Int) -> Unit)^?) => a(k);" ∷ codes "  val d = fun (x: Int) => c.print(x);" ∷ codes "  a" ∷ [])) (codes "main: (_0: Console^{cap}) -> (_1: (_1: Int) -> Unit) -> Unit" ∷ []) refl;
}

pub opened_fillings : example.OpenedFillings
unfolding text_computing
opened_fillings = record {
  opened_for_nothing = accepted 9 (lines (codes "def main = fun (c: Console^{cap}) =>" ∷ codes "  val f = fun (h: ((x: Int) -> Unit)^?) =>" ∷ codes "    val b = box h; (unbox {out} b)(1);" ∷ codes "  val d = fun (x: Int) => c.print(x);" ∷ codes "  f" ∷ [])) (codes "main: ((_0: Console^{cap}) -> ((_1: (_1: Int) -> Unit) -> Unit)^{out})^{out}" ∷ []) refl;
  opened_for_a_parameter = refused 9 (lines (codes "def main = fun (c: Console^{cap}) =>" ∷ codes "  val f = fun (h: ((x: Int) -> Unit)^?) =>" ∷ codes "    val b = box h; (unbox {out} b)(1);" ∷ codes "  val d = fun (x: Int) => c.print(x);" ∷ codes "  f(d)" ∷ [])) E15 (place 3 33) refl;
  own_name = accepted 9 (codes "def rec f: (u: Unit) -> Unit = fun (u: Unit) => val h = fun (k: ((v: Unit) -> Unit)^?) => " ++ codes "k(unit); h(f)") (codes "f: (_0: Unit) -> Unit" ∷ []) refl;
}

pub refused_sets : example.RefusedSets
unfolding text_computing
refused_sets = record {
  console_is_given = refused 9 (codes "def k: (x: Unit) -> Console = fun (x: Unit) => out") E15 (place 1 31) refl;
  printing_again = refused 9 (codes "def rec f: (u: Unit) -> Unit = fun (u: Unit) => val w = out.print(1); f(u)") E15 (place 1 32) refl;
  content_of_cap = refused 9 (lines (codes "def f = fun (u: Unit) =>" ∷ codes "  val b = (val c: ((x: Int) -> Unit)^{cap} = fun (x: Int) => out.print(x); box c);" ∷ codes "  (unbox b)(5)" ∷ [])) E16 (place 3 4) refl;
  exit_that_would_leave = refused 9 (lines (codes "def f = fun (u: Unit) =>" ∷ codes "  boundary [(v: Unit) -> Unit] z =>" ∷ codes "    val k = fun (v: Unit) => v;" ∷ codes "    fun (v: Unit) => exit [Unit] (z, k)" ∷ [])) E15 (place 3 5) refl;
  boxed_exit_that_would_leave = refused 9 (lines (codes "def f = fun (u: Unit) =>" ∷ codes "  boundary [Box[(v: Unit) -> Unit]] z => box (fun (v: Unit) => val w = z; v)" ∷ [])) E15 (place 2 42) refl;
}
