-- Texts that are accepted, with the types that others see.
use Rattle.std.specs.Prelude.{codes, [], ◌∷◌, ◌++◌}
use Rattle.cc_base.specs.declared.code.Code.TheVariants.{E15, E16}
use Rattle.cc_worked_texts.specs.TextVerdicts.{place, lines, printer_found, Refuses, Accepts, AcceptsWith}

-- Single definitions, with the types that others see.
pub record Signatures : Type 0 where
  pub result_captures_the_parameter : Accepts
      (codes "def a = fun (u: Unit) => u") (codes "a: (_0: Unit) -> Unit^{_0}" ∷ [])
  pub named_content : Accepts
      (codes "def a = fun (u: Unit) => box (val q = u; q)") (codes "a: (_0: Unit) -> Box[Unit^{_0}]" ∷ [])
  pub recursion : Accepts
      (codes "def rec f: ((u: Unit) -> Unit)^{out} = fun (u: Unit) => val w = out.print(1); f(u)")
      (codes "f: ((_0: Unit) -> Unit)^{out}" ∷ [])
  pub recursive_type_function : Accepts
      (codes "def rec f: [X <: Any] -> Int = fun [X <: Any] => f[X]") (codes "f: [_T0 <: Any] -> Int" ∷ [])
  -- binders are numbered from the outermost on, whether they are of terms or of types
  pub type_function_behind_a_parameter : Accepts
      (codes "def a = fun (w: Int) => fun (x: Int) => fun [X <: Any] => x")
      (codes "a: (_0: Int) -> (_1: Int) -> ([_T2 <: Any] -> Int^{_1})^{_1}" ∷ [])
  pub function_behind_both : Accepts
      (codes "def a = fun (x: Int^{cap}) => fun [X <: Any] => fun (y: X) => box x")
      (codes "a: (_0: Int^{cap}) -> [_T1 <: Any] -> (_2: _T1) -> Box[Int^{_0}]" ∷ [])
  -- a box of a name in parentheses is a value
  pub box_of_a_device : Accepts (codes "def a = box (out)") (codes "a: Box[Console^{out}]" ∷ [])

-- Omitted sets of a `val`, of a definition, of a choice and of parameters.
pub record OmittedSetSignatures : Type 0 where
  -- the set of a `val` with an omitted set is that of its right side
  pub omitted_set_of_a_val : Accepts
      (codes "def a = fun (x: Unit) => val y: Unit^? = x; val f = fun (u: Unit) => y; f")
      (codes "a: (_0: Unit) -> ((_1: Unit) -> Unit^{_0})^{_0}" ∷ [])
  -- the set of a definition is omitted, and is that of its right side
  pub omitted_set_of_a_definition : Accepts
      (codes "def a: ((x: Int) -> Unit)^? = (fun (x: Int) => val y: Int^? = x; out.print(if [Int^?] true then "
      ++ codes "x else y))")
      (codes "a: ((_0: Int) -> Unit)^{out}" ∷ [])
  pub omitted_sets_of_two_definitions : Accepts
      (lines (codes "def a = fun (f: Int^?) => fun (g: Int^?) => f"
      ∷ codes "def b = fun (h: Int^?) => h" ∷ []))
      (codes "a: (_0: Int) -> ((_1: Int) -> Int^{_0})^{_0}" ∷ codes "b: (_0: Int) -> Int^{_0}" ∷ [])
  -- the set of a choice is omitted, and has those of both branches
  pub chosen : Accepts
      (lines (codes "def f = fun (x: Int) => out.print(x)"
      ∷ codes "def g = fun (x: Int) => val n = hits.tick(); unit"
      ∷ codes "def c = fun (t: Bool) => if [((x: Int) -> Unit)^?] t then f else g" ∷ []))
      (codes "f: ((_0: Int) -> Unit)^{out}" ∷ codes "g: ((_0: Int) -> Unit)^{hits}"
      ∷ codes "c: ((_0: Bool) -> ((_1: Int) -> Unit)^{out, hits})^{out, hits}" ∷ [])

-- Definitions that name those before them, and imports.
pub record SeveralDefinitions : Type 0 where
  -- each definition has the devices of those that it calls
  pub devices_of_earlier_definitions : Accepts
      (lines (codes "def f = fun (u: Unit) => out.print(1)"
      ∷ codes "def g = fun (u: Unit) => f(u)"
      ∷ codes "def h = fun (u: Unit) => hits.tick()"
      ∷ codes "def k = fun (u: Unit) => val a = g(u); h(u)" ∷ []))
      (codes "f: ((_0: Unit) -> Unit)^{out}" ∷ codes "g: ((_0: Unit) -> Unit)^{out}"
      ∷ codes "h: ((_0: Unit) -> Int)^{hits}" ∷ codes "k: ((_0: Unit) -> Int)^{out, hits}" ∷ [])
  -- an import stands for what is found for it
  pub imports_and_definitions : AcceptsWith (printer_found ∷ [])
      (lines (codes "import m.f"
      ∷ codes "def a = fun (x: Int) => f(x)"
      ∷ codes "def b = fun (x: Int) => val y = a(x); hits.tick()" ∷ []))
      (codes "a: ((_0: Int) -> Unit)^{out}" ∷ codes "b: ((_0: Int) -> Int)^{out, hits}" ∷ [])
  pub recursion_on_numbers : Accepts
      (lines (codes "def rec down: (n: Int) -> Int = fun (n: Int) => if [Int] n < 1 then 0 else down(n - 1)"
      ∷ codes "def main = fun (u: Unit) => down(3)" ∷ []))
      (codes "down: (_0: Int) -> Int" ∷ codes "main: (_0: Unit) -> Int" ∷ [])

-- Type functions, boundaries and local names that are avoided.
pub record LargerDefinitions : Type 0 where
  -- a type function, and what it gives for a box
  pub identity : Accepts
      (lines (codes "def id = fun [X <: Any] => fun (x: X) => x"
      ∷ codes "def f: ((x: Int) -> Int)^{out} = fun (x: Int) => val w = out.print(x); x"
      ∷ codes "def main = fun (u: Unit) => val g = id[Box[((x: Int) -> Int)^{out}]]; (unbox {out} (g(box f)))(3)" ∷ []))
      (codes "id: [_T0 <: Any] -> (_1: _T0) -> _T0^{_1}" ∷ codes "f: ((_0: Int) -> Int)^{out}"
      ∷ codes "main: ((_0: Unit) -> Int)^{out}" ∷ [])
  pub nested_boundaries : Accepts
      (lines (codes "def main = fun (u: Unit) =>"
      ∷ codes "  val r = boundary [Int] a => val s = boundary [Int] b => exit [Int] (a, 4); s + 100;"
      ∷ codes "  out.print(r)" ∷ []))
      (codes "main: ((_0: Unit) -> Unit)^{out}" ∷ [])
  -- a local name is avoided: the set of a result becomes wider, and that of a parameter narrower
  pub widened_and_narrowed : Accepts
      (lines (codes "def g = fun (c: Console^{cap}) =>"
      ∷ codes "  val p = fun (x: Int) => c.print(x);"
      ∷ codes "  val q = fun (h: ((y: Int) -> Unit)^{p}) => p(1);"
      ∷ codes "  q" ∷ []))
      (codes "g: (_0: Console^{cap}) -> ((_1: (_1: Int) -> Unit) -> Unit)^{_0}" ∷ [])

-- The omitted set of a parameter is filled with what flows into it, and with nothing else.
pub record LeastFillings : Type 0 where
  pub called_twice : Accepts
      (lines (codes "def main = fun (u: Unit) =>"
      ∷ codes "  val twice = fun (h: ((x: Int) -> Unit)^?) => val w = h(1); h(2);"
      ∷ codes "  val p = fun (x: Int) => out.print(x);"
      ∷ codes "  val q = fun (x: Int) => val n = hits.tick(); unit;"
      ∷ codes "  val a = twice(p);"
      ∷ codes "  val b = twice(q);"
      ∷ codes "  twice" ∷ []))
      (codes "main: ((_0: Unit) -> (_1: ((_1: Int) -> Unit)^{out, hits}) -> Unit)^{out, hits}" ∷ [])
  pub one_fills_the_other : Accepts
      (lines (codes "def main = fun (c: Console^{cap}) =>"
      ∷ codes "  val a = fun (h: ((x: Int) -> Unit)^?) => h(1);"
      ∷ codes "  val b = fun (k: ((x: Int) -> Unit)^?) => a(k);"
      ∷ codes "  val d = fun (x: Int) => c.print(x);"
      ∷ codes "  val w = b(d);"
      ∷ codes "  a" ∷ []))
      (codes "main: (_0: Console^{cap}) -> (_1: ((_1: Int) -> Unit)^{cap}) -> Unit" ∷ [])
  pub nothing_flows : Accepts
      (lines (codes "def main = fun (c: Console^{cap}) =>"
      ∷ codes "  val a = fun (h: ((x: Int) -> Unit)^?) => h(1);"
      ∷ codes "  val b = fun (k: ((x: Int) -> Unit)^?) => a(k);"
      ∷ codes "  val d = fun (x: Int) => c.print(x);"
      ∷ codes "  a" ∷ []))
      (codes "main: (_0: Console^{cap}) -> (_1: (_1: Int) -> Unit) -> Unit" ∷ [])

-- The same where the parameter is boxed, and where it is a recursive definition that flows.
pub record OpenedFillings : Type 0 where
  pub opened_for_nothing : Accepts
      (lines (codes "def main = fun (c: Console^{cap}) =>"
      ∷ codes "  val f = fun (h: ((x: Int) -> Unit)^?) =>"
      ∷ codes "    val b = box h; (unbox {out} b)(1);"
      ∷ codes "  val d = fun (x: Int) => c.print(x);"
      ∷ codes "  f" ∷ []))
      (codes "main: ((_0: Console^{cap}) -> ((_1: (_1: Int) -> Unit) -> Unit)^{out})^{out}" ∷ [])
  -- the set is filled with `cap`, which is not below the console
  pub opened_for_a_parameter : Refuses
      (lines (codes "def main = fun (c: Console^{cap}) =>"
      ∷ codes "  val f = fun (h: ((x: Int) -> Unit)^?) =>"
      ∷ codes "    val b = box h; (unbox {out} b)(1);"
      ∷ codes "  val d = fun (x: Int) => c.print(x);"
      ∷ codes "  f(d)" ∷ []))
      E15 (place 3 33)
  -- the name of a recursive definition is no device
  pub own_name : Accepts
      (codes "def rec f: (u: Unit) -> Unit = fun (u: Unit) => val h = fun (k: ((v: Unit) -> Unit)^?) => "
      ++ codes "k(unit); h(f)")
      (codes "f: (_0: Unit) -> Unit" ∷ [])

-- What captures a device is not pure, and no exit leaves its boundary.
pub record RefusedSets : Type 0 where
  pub console_is_given : Refuses (codes "def k: (x: Unit) -> Console = fun (x: Unit) => out") E15 (place 1 31)
  pub printing_again : Refuses
      (codes "def rec f: (u: Unit) -> Unit = fun (u: Unit) => val w = out.print(1); f(u)") E15 (place 1 32)
  -- the set of the content of a box became `cap`
  pub content_of_cap : Refuses
      (lines (codes "def f = fun (u: Unit) =>"
      ∷ codes "  val b = (val c: ((x: Int) -> Unit)^{cap} = fun (x: Int) => out.print(x); box c);"
      ∷ codes "  (unbox b)(5)" ∷ []))
      E16 (place 3 4)
  pub exit_that_would_leave : Refuses
      (lines (codes "def f = fun (u: Unit) =>"
      ∷ codes "  boundary [(v: Unit) -> Unit] z =>"
      ∷ codes "    val k = fun (v: Unit) => v;"
      ∷ codes "    fun (v: Unit) => exit [Unit] (z, k)" ∷ []))
      E15 (place 3 5)
  pub boxed_exit_that_would_leave : Refuses
      (lines (codes "def f = fun (u: Unit) =>"
      ∷ codes "  boundary [Box[(v: Unit) -> Unit]] z => box (fun (v: Unit) => val w = z; v)" ∷ []))
      E15 (place 2 42)
