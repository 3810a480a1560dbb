-- What constructs become: operands that are no names are named, from left to right, and local names are variables.
use Rattle.std.proofs.Common.{refl, codes, ◌++◌}
use Rattle.cc_worked_texts.specs.NamedOperands as example
use Rattle.cc_worked_texts.proofs.ComputedModules.{text_computing, says}

pub operands : example.Operands
unfolding text_computing
operands = record {
  argument = says (codes "def a = fun (f: Int) => fun (g: Int) => f((g(f)))") (codes "def a = fun (f: Int) => fun (g: Int) => val x = g(f); f(x)") refl refl;
  function_and_argument = says (codes "def a = fun (f: Int) => f(f)(f(1))") (codes "def a = fun (f: Int) => val x = f(f); val y = (val n = 1; f(n)); x(y)") refl refl;
  operands_in_operands = says (codes "def a = fun (u: Unit) => out.print((1 + (2 * 3)))") (codes "def a = fun (u: Unit) => val x = (val n = 1; val y = (val k = 2; val m = 3; k * m); n + y); " ++ codes "out.print(x)") refl refl;
  receiver = says (codes "def a = fun (u: Unit) => u(u).read()") (codes "def a = fun (u: Unit) => val x = u(u); x.read()") refl refl;
  receiver_and_argument = says (codes "def a = fun (u: Unit) => u(u).print(u(1))") (codes "def a = fun (u: Unit) => val x = u(u); val y = (val n = 1; u(n)); x.print(y)") refl refl;
  type_application = says (codes "def a = fun (u: Unit) => u(u)[Int]") (codes "def a = fun (u: Unit) => val x = u(u); x[Int]") refl refl;
  boxed = says (codes "def a = fun (u: Unit) => box (u(u))") (codes "def a = fun (u: Unit) => val x = u(u); box x") refl refl;
  opened = says (codes "def a = fun (b: Box[Int]) => unbox {b, cap} (unbox b)") (codes "def a = fun (b: Box[Int]) => val x = unbox b; unbox {b, cap} x") refl refl;
  condition = says (codes "def a = fun (u: Int) => if [Int^{u}] 1 < u then u else 2") (codes "def a = fun (u: Int) => val x = (val n = 1; n < u); if [Int^{u}] x then u else 2") refl refl;
  exit = says (codes "def a = fun (x: Box[Exit[Int]]) => exit [Any^{x}] (unbox x, 1)") (codes "def a = fun (x: Box[Exit[Int]]) => val y = unbox x; val n = 1; exit [Any^{x}] (y, n)") refl refl;
  repetition = says (codes "def a = fun (u: Unit) => repeat(2 + 3, fun (i: Int) => out.print(i))") (codes "def a = fun (u: Unit) => val x = (val n = 2; val k = 3; n + k); val f = fun (i: Int) => " ++ codes "out.print(i); repeat(x, f)") refl refl;
  body_of_a_boundary = says (codes "def a = fun (f: Unit) => boundary [Int] z => (f(z))[Int]") (codes "def a = fun (f: Unit) => boundary [Int] z => val x = f(z); x[Int]") refl refl;
  right_side = says (codes "def a = fun (u: Unit) => (val x = u; (out.read()))") (codes "def a = fun (u: Unit) => val x = u; out.read()") refl refl;
}

pub names : example.Names
unfolding text_computing
names = record {
  types_are_apart = says (codes "def a = fun (x: Unit) => fun [x <: Any] => fun (y: x^{x}) => x") (codes "def a = fun (x: Unit) => fun [X <: Any] => fun (y: X^{x}) => x") refl refl;
  local_names_hide = says (codes "def a = fun (out: Int) => out") (codes "def a = fun (x: Int) => x") refl refl;
  innermost_binder = says (codes "def a = fun (x: Int) => fun (x: (x: Int^{x}) -> Int^{x}) => x") (codes "def a = fun (x: Int) => fun (y: (z: Int^{x}) -> Int^{z}) => y") refl refl;
  vals_hide = says (codes "def a = fun (x: Int) => val x = x; x") (codes "def a = fun (x: Int) => val y = x; y") refl refl;
}
