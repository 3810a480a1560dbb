-- Why texts are refused, by computation.
use Rattle.std.proofs.Common.{refl, codes, [], ◌∷◌, ◌++◌}
use Rattle.cc_worked_reasons.specs.DefinitionRows as example
use Rattle.cc_worked_reasons.proofs.ComputedReasons.{reasons_computing, tells}
use Rattle.cc_worked_texts.specs.TextVerdicts.{place, tower, lines}

pub heads_told : example.Heads
unfolding reasons_computing
heads_told = record {
  function = tells 12 (codes "def a = fun (x: Unit) => (x(x))") (place 1 27) (codes "found Unit" ∷ codes "wanted function" ∷ []) refl;
  type_function = tells 12 (codes "def a = fun (x: Unit) => (x[Int])") (place 1 27) (codes "found Unit" ∷ codes "wanted type function" ∷ []) refl;
  box = tells 12 (codes "def a = fun (x: Unit) => (unbox x)") (place 1 33) (codes "found Unit" ∷ codes "wanted box" ∷ []) refl;
  exit = tells 12 (codes "def a = fun (x: Unit) => exit [Int] (x, x)") (place 1 38) (codes "found Unit" ∷ codes "wanted exit" ∷ []) refl;
  device = tells 12 (codes "def a = fun (x: Unit) => hits.print(x)") (place 1 26) (codes "found Counter" ∷ codes "wanted Console" ∷ []) refl;
  bound = tells 12 (codes "def a = fun [X <: Box[Int]] => fun (x: X) => x(1)") (place 1 46) (codes "found Box[Int]" ∷ codes "wanted function" ∷ []) refl;
}

pub matches_told : example.Matches
unfolding reasons_computing
matches_told = record {
  whole = tells 12 (codes "def a = fun (x: Unit) => (val y: Int = x; y)") (place 1 40) (codes "found Unit^{x@1:9}" ∷ codes "wanted Int" ∷ []) refl;
  operand = tells 12 (codes "def a = fun (x: Unit) => (1 + x)") (place 1 31) (codes "found Unit" ∷ codes "wanted Int" ∷ []) refl;
  parameter = tells 12 (codes "def a: (f: (x: Int) -> Int) -> Int = fun (f: (x: Unit) -> Int) => 1") (place 1 38) (codes "found (_0: (_0: Unit) -> Int) -> Int" ∷ codes "wanted (_0: (_0: Int) -> Int) -> Int" ∷ codes "within found Unit" ∷ codes "within wanted Int" ∷ []) refl;
  content = tells 12 (codes "def a: (x: Unit) -> Box[Box[Int]] = fun (x: Unit) => box (box x)") (place 1 37) (codes "found (_0: Unit) -> Box[Box[Unit^{_0}]]" ∷ codes "wanted (_0: Unit) -> Box[Box[Int]]" ∷ codes "within found Unit" ∷ codes "within wanted Int" ∷ []) refl;
}

pub captured_told : example.Captured
unfolding reasons_computing
captured_told = record {
  definition = tells 12 (codes "def a: (x: Int) -> Unit = fun (x: Int) => out.print(x)") (place 1 27) (codes "captured out" ∷ codes "allowed {}" ∷ []) refl;
  both = tells 12 (codes "def a: ((x: Int) -> Unit)^{hits} = fun (x: Int) => val n = hits.tick(); out.print(n)") (place 1 36) (codes "captured out" ∷ codes "allowed {hits}" ∷ []) refl;
  argument = tells 12 (codes "def a = fun (f: (c: Console) -> Unit) => (f(out))") (place 1 45) (codes "captured out" ∷ codes "allowed {}" ∷ []) refl;
}

pub chains_told : example.Chains
unfolding reasons_computing
chains_told = record {
  over_local = tells 12 (codes "def a = fun (u: Unit) => (val f = fun (x: Int) => out.print(x); val g = fun (x: Int) => f(x); val h: (x: Int) -> Unit = fun (x: Int) => g(x); 1)") (place 1 121) (codes "captured g@1:65" ∷ codes "allowed {}" ∷ codes "g@1:65: f@1:27 out" ∷ []) refl;
  shorter = tells 12 (codes "def a = fun (u: Unit) => (val e = fun (x: Int) => out.print(x); val f = fun (x: Int) => e(x); val g = fun (x: Int) => out.print(x); val h = fun (x: Int) => (val y = f(x); g(x)); val k: (x: Int) -> Unit = fun (x: Int) => h(x); 1)") (place 1 205) (codes "captured h@1:133" ∷ codes "allowed {}" ∷ codes "h@1:133: g@1:95 out" ∷ []) refl;
  first = tells 12 (codes "def a = fun (u: Unit) => (val f = fun (x: Int) => hits.tick(); val g = fun (x: Int) => out.print(x); val h = fun (x: Int) => (val y = f(x); g(x)); val k: (x: Int) -> Unit = fun (x: Int) => h(x); 1)") (place 1 174) (codes "captured h@1:102" ∷ codes "allowed {}" ∷ codes "h@1:102: f@1:27 hits" ∷ []) refl;
  allowed = tells 12 (codes "def a = fun (u: Unit) => (val f = fun (x: Int) => out.print(x); val g = fun (x: Int) => (val y = hits.tick(); unit); val h = fun (x: Int) => (val y = f(x); g(x)); val k: ((x: Int) -> Unit)^{out} = fun (x: Int) => h(x); 1)") (place 1 198) (codes "captured h@1:118" ∷ codes "allowed {out}" ∷ codes "h@1:118: g@1:65 hits" ∷ []) refl;
  definition = tells 12 (lines (codes "def one = fun (x: Int) => out.print(x)" ∷ codes "def two: (x: Int) -> Unit = fun (x: Int) => one(x)" ∷ [])) (place 2 29) (codes "captured one" ∷ codes "allowed {}" ∷ codes "one: out" ∷ []) refl;
  beside = tells 12 (lines (codes "def one = fun (x: Int) => out.print(x)" ∷ codes "def two: (x: Int) -> Int = fun (x: Int) => (val y = one(x); hits.tick())" ∷ [])) (place 2 28) (codes "captured hits one" ∷ codes "allowed {}" ∷ codes "one: out" ∷ []) refl;
  universal = tells 12 (codes "def a = fun (f: ((x: Int) -> Unit)^{cap}) => (val g: (x: Int) -> Unit = fun (x: Int) => f(x); 1)") (place 1 73) (codes "captured f@1:9" ∷ codes "allowed {}" ∷ codes "f@1:9: cap" ∷ []) refl;
  alone = tells 12 (codes "def a = fun (g: (x: Int) -> Int^{cap}) => fun (n: Int) => (val y: Int = g(n); y)") (place 1 73) (codes "captured cap" ∷ codes "allowed {}" ∷ []) refl;
}

pub universal_told : example.Universal
unfolding reasons_computing
universal_told = record {
  written = tells 12 (codes "def a = fun (b: Box[Int^{out}]) => (unbox {cap} b)") (place 1 37) (codes "set {cap}" ∷ []) refl;
  inside = tells 12 (codes "def a = fun (b: Box[Int^{cap}]) => (unbox b)") (place 1 37) (codes "set {cap}" ∷ []) refl;
}

pub unavoidable_told : example.Unavoidable
unfolding reasons_computing
unavoidable_told = record {
  bound = tells 12 (codes "def a = fun (x: Unit) => (val y = 1; fun [X <: Box[Int^{y}]] => unit)") (place 1 27) (codes "name y@1:27" ∷ codes "type [_T0 <: Box[Int^{y@1:27}]] -> Unit" ∷ []) refl;
  operand = tells 12 (codes "def a = fun (h: (n: Int) -> [X <: Box[Int^{n}]] -> Unit) => h(1 + 1)") (place 1 63) (codes "name _@1:63" ∷ codes "type [_T0 <: Box[Int^{_@1:63}]] -> Unit" ∷ []) refl;
}

pub hidden_told : example.Hidden
unfolding reasons_computing
hidden_told = record {
  locals = tells 12 (codes "def a = fun (x: Unit) => val x = x; (val y: Int = x; y)") (place 1 51) (codes "found Unit^{x@1:26}" ∷ codes "wanted Int" ∷ []) refl;
  second = tells 12 (lines (codes "def one = 1" ∷ codes "def two = fun (x: Unit) => one(x)" ∷ [])) (place 2 28) (codes "found Int" ∷ codes "wanted function" ∷ []) refl;
}

pub sizes_told : example.Sizes
unfolding reasons_computing
sizes_told = record {
  size = tells 12 (codes "def a = fun (f: [X <: Any] -> " ++ tower 6 (codes "X") ++ codes ") => (f[" ++ tower 5 (codes "Int") ++ codes "])") (place 1 9) (codes "size 4225" ∷ codes "limit 4096" ∷ []) refl;
}
