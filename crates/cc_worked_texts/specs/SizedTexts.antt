-- Texts with types of the greatest size, and with larger ones.
use Rattle.std.specs.Prelude.{ℕ, zero, suc, List, codes, ◌++◌}
use Rattle.cc_base.specs.declared.code.Code.TheVariants.{E18}
use Rattle.cc_worked_texts.specs.TextVerdicts.{place, repeated, tower, Refuses}

-- a tower of so many levels: functions that take and give the tower below, down to the type variable `X`
abbrev pub towering : ℕ → List ℕ
towering zero = codes "X"
towering (suc levels) = codes "(a:" ++ towering levels ++ codes ")->" ++ towering levels

-- a function of size 4,097
abbrev pub large : List ℕ
large = codes "(a:" ++ towering 11 ++ codes ")->Int"

-- A type that is written may be too large, too. What a term is applied to, left with or decided by has a name here: a
-- literal would be bound around the term, at the same place, where the size is tested again.
pub record WrittenSizes : Type 0 where
  pub application : Refuses
      (codes "def a = fun [X <: Any] => fun (g: (u: Unit) -> " ++ large ++ codes ") => fun (v: Unit) => (g(v))") E18 (place 1 14409)
  pub boundary : Refuses
      (codes "def a = fun [X <: Any] => (boundary [" ++ large ++ codes "] z => fun (a: Any) => 1)") E18 (place 1 27)
  pub exit : Refuses
      (codes "def a = fun [X <: Any] => fun (e: Exit[Int]) => fun (n: Int) => (exit [" ++ large ++ codes "] (e, n))")
      E18 (place 1 65)
  pub choice : Refuses
      (codes "def a = fun [X <: Any] => fun (b: Bool) => (if [" ++ large
      ++ codes "] b then fun (a: Any) => 1 else fun (a: Any) => 1)")
      E18 (place 1 44)
  pub choice_of_an_omitted_set : Refuses
      (codes "def a = fun [X <: Any] => fun (b: Bool) => (if [(" ++ large
      ++ codes ")^?] b then fun (a: Any) => 1 else fun (a: Any) => 1)")
      E18 (place 1 44)

-- A term of each form whose type is too large is refused at its own parenthesis.
pub record SizedTerms : Type 0 where
  -- the shape of `y` has size 4,096
  pub variable : Refuses
      (codes "def a = fun (f: [X <: Any] -> Box[" ++ tower 6 (codes "X") ++ codes "]) => val y = f["
      ++ tower 5 (codes "Int") ++ codes "]; (y)")
      E18 (place 1 1060)
  -- that of `f[..]` has size 4,095
  pub function : Refuses
      (codes "def a = fun (f: [X <: Any] -> " ++ tower 6 (codes "X") ++ codes ") => (fun (u: Unit) => f["
      ++ tower 5 (codes "Int") ++ codes "])")
      E18 (place 1 667)
  pub type_function : Refuses
      (codes "def a = fun (f: [X <: Any] -> " ++ tower 6 (codes "X") ++ codes ") => (fun [Y <: Any] => f["
      ++ tower 5 (codes "Int") ++ codes "])")
      E18 (place 1 667)
  -- the shape of `p` has size 4,094, and its box is of size 4,096 until `p` is avoided
  pub val : Refuses
      (codes "def a = fun (f: [X <: Any] -> " ++ repeated 63 (codes "Box[") ++ tower 6 (codes "X")
      ++ repeated 63 (codes "]") ++ codes "^{out, hits}) => (val p = f[" ++ repeated 31 (codes "Box[")
      ++ tower 4 (codes "Int") ++ repeated 31 (codes "]") ++ codes "]; box p)")
      E18 (place 1 994)
  pub val_of_one_less : Refuses
      (codes "def a = fun (f: [X <: Any] -> " ++ repeated 62 (codes "Box[") ++ tower 6 (codes "X")
      ++ repeated 62 (codes "]") ++ codes "^{out, hits}) => (val p = f[" ++ repeated 31 (codes "Box[")
      ++ tower 4 (codes "Int") ++ repeated 31 (codes "]") ++ codes "]; box p)")
      E18 (place 1 9)
  -- the content of `b` has size 4,095, and the set two elements more
  pub unboxing : Refuses
      (codes "def a = fun (f: [X <: Any] -> " ++ repeated 63 (codes "Box[") ++ tower 6 (codes "X")
      ++ repeated 63 (codes "]") ++ codes ") => val y = f[" ++ repeated 31 (codes "Box[") ++ tower 4 (codes "Int")
      ++ repeated 31 (codes "]") ++ codes "]; val b = box y; (unbox {y, out, hits} b)")
      E18 (place 1 1348)
  pub unboxing_of_one_less : Refuses
      (codes "def a = fun (f: [X <: Any] -> " ++ repeated 63 (codes "Box[") ++ tower 6 (codes "X")
      ++ repeated 63 (codes "]") ++ codes ") => val y = f[" ++ repeated 31 (codes "Box[") ++ tower 4 (codes "Int")
      ++ repeated 31 (codes "]") ++ codes "]; val b = box y; (unbox {y, out} b)")
      E18 (place 1 9)
