-- Why texts are refused, line by line: texts beside a console out and a counter hits, whose first refused definition has the
-- reason.
use Rattle.std.specs.Prelude.{ℕ, codes, List, [], ◌∷◌, ◌++◌, length}
use Rattle.cc_base.specs.declared.place.Place.{Place}
use Rattle.cc_mnf.specs.Scopes.{Name}
use Rattle.cc_reasons.specs.DefinitionReasons.{DefinitionReason}
use Rattle.cc_reasons.specs.ReasonTexts.{AreLines}
use Rattle.cc_reasons.specs.RefusedDefinitions.{IsOfDefinition}
use Rattle.cc_worked_texts.specs.TextVerdicts.{devices, place, tower, lines}

-- the text, which imports nothing, is refused for a definition, at this place, with these lines of the reason
abbrev pub Tells : List ℕ → Place → List (List ℕ) → Type 0
Tells text at told =
    (reason : DefinitionReason) × (names : List Name) × IsOfDefinition devices text [] reason at names
    × AreLines (length devices) names reason told

-- what stands at a head, and what is wanted there
pub record Heads : Type 0 where
  pub function : Tells (codes "def a = fun (x: Unit) => (x(x))") (place 1 27)
      (codes "found Unit" ∷ codes "wanted function" ∷ [])
  pub type_function : Tells (codes "def a = fun (x: Unit) => (x[Int])") (place 1 27)
      (codes "found Unit" ∷ codes "wanted type function" ∷ [])
  pub box : Tells (codes "def a = fun (x: Unit) => (unbox x)") (place 1 33)
      (codes "found Unit" ∷ codes "wanted box" ∷ [])
  pub exit : Tells (codes "def a = fun (x: Unit) => exit [Int] (x, x)") (place 1 38)
      (codes "found Unit" ∷ codes "wanted exit" ∷ [])
  pub device : Tells (codes "def a = fun (x: Unit) => hits.print(x)") (place 1 26)
      (codes "found Counter" ∷ codes "wanted Console" ∷ [])
  -- a type variable is what its bound is
  pub bound : Tells (codes "def a = fun [X <: Box[Int]] => fun (x: X) => x(1)") (place 1 46)
      (codes "found Box[Int]" ∷ codes "wanted function" ∷ [])

-- types and shapes that do not match, and the first parts of theirs that do not
pub record Matches : Type 0 where
  pub whole : Tells (codes "def a = fun (x: Unit) => (val y: Int = x; y)") (place 1 40)
      (codes "found Unit^{x@1:9}" ∷ codes "wanted Int" ∷ [])
  pub operand : Tells (codes "def a = fun (x: Unit) => (1 + x)") (place 1 31)
      (codes "found Unit" ∷ codes "wanted Int" ∷ [])
  pub parameter : Tells (codes "def a: (f: (x: Int) -> Int) -> Int = fun (f: (x: Unit) -> Int) => 1") (place 1 38)
      (codes "found (_0: (_0: Unit) -> Int) -> Int" ∷ codes "wanted (_0: (_0: Int) -> Int) -> Int"
      ∷ codes "within found Unit" ∷ codes "within wanted Int" ∷ [])
  pub content : Tells (codes "def a: (x: Unit) -> Box[Box[Int]] = fun (x: Unit) => box (box x)") (place 1 37)
      (codes "found (_0: Unit) -> Box[Box[Unit^{_0}]]" ∷ codes "wanted (_0: Unit) -> Box[Box[Int]]" ∷ codes "within found Unit" ∷ codes "within wanted Int"
      ∷ [])

-- what was captured, and what is allowed
pub record Captured : Type 0 where
  pub definition : Tells (codes "def a: (x: Int) -> Unit = fun (x: Int) => out.print(x)") (place 1 27)
      (codes "captured out" ∷ codes "allowed {}" ∷ [])
  pub both : Tells
      (codes "def a: ((x: Int) -> Unit)^{hits} = fun (x: Int) => val n = hits.tick(); out.print(n)") (place 1 36)
      (codes "captured out" ∷ codes "allowed {hits}" ∷ [])
  pub argument : Tells (codes "def a = fun (f: (c: Console) -> Unit) => (f(out))") (place 1 45)
      (codes "captured out" ∷ codes "allowed {}" ∷ [])

-- the shortest chains of declared sets that lead from what was captured to an end
pub record Chains : Type 0 where
  -- a local that leads over another local to a device
  pub over_local : Tells
      (codes "def a = fun (u: Unit) => (val f = fun (x: Int) => out.print(x); val g = fun (x: Int) => f(x); val h: (x: Int) -> Unit = fun (x: Int) => g(x); 1)")
      (place 1 121)
      (codes "captured g@1:65" ∷ codes "allowed {}" ∷ codes "g@1:65: f@1:27 out" ∷ [])
  -- of two ways the shorter, though the other begins first in the declared set
  pub shorter : Tells
      (codes "def a = fun (u: Unit) => (val e = fun (x: Int) => out.print(x); val f = fun (x: Int) => e(x); val g = fun (x: Int) => out.print(x); val h = fun (x: Int) => (val y = f(x); g(x)); val k: (x: Int) -> Unit = fun (x: Int) => h(x); 1)")
      (place 1 205)
      (codes "captured h@1:133" ∷ codes "allowed {}" ∷ codes "h@1:133: g@1:95 out" ∷ [])
  -- of two ways of one length the first in the order of the declared set, not in that of the devices
  pub first : Tells
      (codes "def a = fun (u: Unit) => (val f = fun (x: Int) => hits.tick(); val g = fun (x: Int) => out.print(x); val h = fun (x: Int) => (val y = f(x); g(x)); val k: (x: Int) -> Unit = fun (x: Int) => h(x); 1)")
      (place 1 174)
      (codes "captured h@1:102" ∷ codes "allowed {}" ∷ codes "h@1:102: f@1:27 hits" ∷ [])
  -- no way leads over what is allowed
  pub allowed : Tells
      (codes "def a = fun (u: Unit) => (val f = fun (x: Int) => out.print(x); val g = fun (x: Int) => (val y = hits.tick(); unit); val h = fun (x: Int) => (val y = f(x); g(x)); val k: ((x: Int) -> Unit)^{out} = fun (x: Int) => h(x); 1)")
      (place 1 198)
      (codes "captured h@1:118" ∷ codes "allowed {out}" ∷ codes "h@1:118: g@1:65 hits" ∷ [])
  -- a definition of the module that leads to a device
  pub definition : Tells
      (lines (codes "def one = fun (x: Int) => out.print(x)" ∷ codes "def two: (x: Int) -> Unit = fun (x: Int) => one(x)" ∷ []))
      (place 2 29)
      (codes "captured one" ∷ codes "allowed {}" ∷ codes "one: out" ∷ [])
  -- a device beside a definition has no line of its own
  pub beside : Tells
      (lines (codes "def one = fun (x: Int) => out.print(x)" ∷ codes "def two: (x: Int) -> Int = fun (x: Int) => (val y = one(x); hits.tick())" ∷ []))
      (place 2 28)
      (codes "captured hits one" ∷ codes "allowed {}" ∷ codes "one: out" ∷ [])
  -- a parameter that leads to the universal capability
  pub universal : Tells
      (codes "def a = fun (f: ((x: Int) -> Unit)^{cap}) => (val g: (x: Int) -> Unit = fun (x: Int) => f(x); 1)")
      (place 1 73)
      (codes "captured f@1:9" ∷ codes "allowed {}" ∷ codes "f@1:9: cap" ∷ [])
  -- the universal capability itself
  pub alone : Tells
      (codes "def a = fun (g: (x: Int) -> Int^{cap}) => fun (n: Int) => (val y: Int = g(n); y)")
      (place 1 73)
      (codes "captured cap" ∷ codes "allowed {}" ∷ [])

-- a set with the universal capability
pub record Universal : Type 0 where
  pub written : Tells (codes "def a = fun (b: Box[Int^{out}]) => (unbox {cap} b)") (place 1 37)
      (codes "set {cap}" ∷ [])
  pub inside : Tells (codes "def a = fun (b: Box[Int^{cap}]) => (unbox b)") (place 1 37) (codes "set {cap}" ∷ [])

-- a variable that cannot be avoided, by the name of its binder; an operand that was named for it has none
pub record Unavoidable : Type 0 where
  pub bound : Tells (codes "def a = fun (x: Unit) => (val y = 1; fun [X <: Box[Int^{y}]] => unit)") (place 1 27)
      (codes "name y@1:27" ∷ codes "type [_T0 <: Box[Int^{y@1:27}]] -> Unit" ∷ [])
  pub operand : Tells (codes "def a = fun (h: (n: Int) -> [X <: Box[Int^{n}]] -> Unit) => h(1 + 1)") (place 1 63)
      (codes "name _@1:63" ∷ codes "type [_T0 <: Box[Int^{_@1:63}]] -> Unit" ∷ [])

-- names that hide each other are told apart, and a second definition is told of behind one that is accepted
pub record Hidden : Type 0 where
  pub locals : Tells (codes "def a = fun (x: Unit) => val x = x; (val y: Int = x; y)") (place 1 51)
      (codes "found Unit^{x@1:26}" ∷ codes "wanted Int" ∷ [])
  pub second : Tells (lines (codes "def one = 1" ∷ codes "def two = fun (x: Unit) => one(x)" ∷ [])) (place 2 28)
      (codes "found Int" ∷ codes "wanted function" ∷ [])

-- a type that is too large
pub record Sizes : Type 0 where
  pub size : Tells
      (codes "def a = fun (f: [X <: Any] -> " ++ tower 6 (codes "X") ++ codes ") => (f[" ++ tower 5 (codes "Int")
      ++ codes "])") (place 1 9)
      (codes "size 4225" ∷ codes "limit 4096" ∷ [])
