-- What constructs become: operands that are no names are named, from left to right, and local names are variables.
use Rattle.std.specs.Prelude.{codes, ◌++◌}
use Rattle.cc_worked_texts.specs.TextMeanings.{SayTheSame}

-- An operand that is no name is named, outside its construct and inside all that stands around.
pub record Operands : Type 0 where
  pub argument : SayTheSame
      (codes "def a = fun (f: Int) => fun (g: Int) => f((g(f)))")
      (codes "def a = fun (f: Int) => fun (g: Int) => val x = g(f); f(x)")
  pub function_and_argument : SayTheSame
      (codes "def a = fun (f: Int) => f(f)(f(1))")
      (codes "def a = fun (f: Int) => val x = f(f); val y = (val n = 1; f(n)); x(y)")
  pub operands_in_operands : SayTheSame
      (codes "def a = fun (u: Unit) => out.print((1 + (2 * 3)))")
      (codes "def a = fun (u: Unit) => val x = (val n = 1; val y = (val k = 2; val m = 3; k * m); n + y); "
      ++ codes "out.print(x)")
  pub receiver : SayTheSame
      (codes "def a = fun (u: Unit) => u(u).read()") (codes "def a = fun (u: Unit) => val x = u(u); x.read()")
  pub receiver_and_argument : SayTheSame
      (codes "def a = fun (u: Unit) => u(u).print(u(1))")
      (codes "def a = fun (u: Unit) => val x = u(u); val y = (val n = 1; u(n)); x.print(y)")
  pub type_application : SayTheSame
      (codes "def a = fun (u: Unit) => u(u)[Int]") (codes "def a = fun (u: Unit) => val x = u(u); x[Int]")
  pub boxed : SayTheSame
      (codes "def a = fun (u: Unit) => box (u(u))") (codes "def a = fun (u: Unit) => val x = u(u); box x")
  -- a set stands under the name of the operand
  pub opened : SayTheSame
      (codes "def a = fun (b: Box[Int]) => unbox {b, cap} (unbox b)")
      (codes "def a = fun (b: Box[Int]) => val x = unbox b; unbox {b, cap} x")
  -- branches are not named
  pub condition : SayTheSame
      (codes "def a = fun (u: Int) => if [Int^{u}] 1 < u then u else 2")
      (codes "def a = fun (u: Int) => val x = (val n = 1; n < u); if [Int^{u}] x then u else 2")
  pub exit : SayTheSame
      (codes "def a = fun (x: Box[Exit[Int]]) => exit [Any^{x}] (unbox x, 1)")
      (codes "def a = fun (x: Box[Exit[Int]]) => val y = unbox x; val n = 1; exit [Any^{x}] (y, n)")
  pub repetition : SayTheSame
      (codes "def a = fun (u: Unit) => repeat(2 + 3, fun (i: Int) => out.print(i))")
      (codes "def a = fun (u: Unit) => val x = (val n = 2; val k = 3; n + k); val f = fun (i: Int) => "
      ++ codes "out.print(i); repeat(x, f)")
  -- a body is not named, nor is a right side
  pub body_of_a_boundary : SayTheSame
      (codes "def a = fun (f: Unit) => boundary [Int] z => (f(z))[Int]")
      (codes "def a = fun (f: Unit) => boundary [Int] z => val x = f(z); x[Int]")
  pub right_side : SayTheSame
      (codes "def a = fun (u: Unit) => (val x = u; (out.read()))")
      (codes "def a = fun (u: Unit) => val x = u; out.read()")

-- What a name stands for.
pub record Names : Type 0 where
  -- names of types and of terms are apart
  pub types_are_apart : SayTheSame
      (codes "def a = fun (x: Unit) => fun [x <: Any] => fun (y: x^{x}) => x")
      (codes "def a = fun (x: Unit) => fun [X <: Any] => fun (y: X^{x}) => x")
  -- a local name hides a device
  pub local_names_hide : SayTheSame (codes "def a = fun (out: Int) => out") (codes "def a = fun (x: Int) => x")
  -- the innermost binder counts, and a parameter is not visible in its own type
  pub innermost_binder : SayTheSame
      (codes "def a = fun (x: Int) => fun (x: (x: Int^{x}) -> Int^{x}) => x")
      (codes "def a = fun (x: Int) => fun (y: (z: Int^{x}) -> Int^{z}) => y")
  pub vals_hide : SayTheSame
      (codes "def a = fun (x: Int) => val x = x; x") (codes "def a = fun (x: Int) => val y = x; y")
