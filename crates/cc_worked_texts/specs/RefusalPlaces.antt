-- Where refusals of definitions stand, each shown by a text in which the places that a construct has are apart.
use Rattle.std.specs.Prelude.{codes, [], ◌∷◌, ◌++◌}
use Rattle.cc_base.specs.declared.code.Code.TheVariants.{E13, E14, E15, E16, E17, E18}
use Rattle.cc_worked_texts.specs.TextVerdicts.{place, repeated, tower, lines, Refuses}

-- A head that is not of the shape which its construct wants is refused where it starts itself.
pub record HeadPlaces : Type 0 where
  -- what is applied, and not its application
  pub applied : Refuses (codes "def a = fun (x: Unit) => (x(x))") E13 (place 1 27)
  pub applied_to_a_shape : Refuses (codes "def a = fun (x: Unit) => (x[Int])") E13 (place 1 27)
  -- what is opened, and not the word
  pub opened : Refuses (codes "def a = fun (x: Unit) => (unbox x)") E13 (place 1 33)
  -- a device
  pub operated : Refuses (codes "def a = fun (x: Unit) => (x.print(x))") E13 (place 1 27)
  -- an exit
  pub left : Refuses (codes "def a = fun (z: Int) => exit [Int] (z, z)(z)") E13 (place 1 37)
  pub left_with_units : Refuses (codes "def a = fun (x: Unit) => exit [Int] (x, x)") E13 (place 1 38)
  -- a head that is no name starts with its parenthesis
  pub named : Refuses (codes "def a = fun (x: Unit) => ((val q = 1; q)(2))") E13 (place 1 27)

-- Another operand of another shape is refused where it starts.
pub record OperandPlaces : Type 0 where
  -- the sides of an operator
  pub left_side : Refuses (codes "def a = fun (x: Unit) => (x + x)") E14 (place 1 27)
  pub right_side : Refuses (codes "def a = fun (x: Unit) => (1 + x)") E14 (place 1 31)
  -- an argument, and a shape that is one
  pub argument : Refuses (codes "def a = fun (f: (x: Int) -> Int) => (f(out))") E14 (place 1 40)
  pub shape : Refuses (codes "def a = fun (f: [X <: Int] -> Int) => (f[Bool])") E14 (place 1 42)
  pub condition : Refuses (codes "def a = fun (x: Unit) => (if [Int] x then 1 else 2)") E14 (place 1 36)
  pub condition_of_an_omitted_set : Refuses
      (codes "def a = fun (x: Unit) => (if [Int^?] x then 1 else 2)") E14 (place 1 38)
  -- the count and the function of a repetition
  pub count : Refuses (codes "def a = fun (x: Unit) => (repeat(x, x))") E14 (place 1 34)
  pub repeated_function : Refuses (codes "def a = fun (x: Unit) => (repeat(1, x))") E14 (place 1 37)
  pub repeated_number : Refuses (codes "def a = fun (z: Int) => repeat(z, z)[Int]") E14 (place 1 35)
  -- what a device is given
  pub printed : Refuses (codes "def a = fun (x: Unit) => (out.print(x))") E14 (place 1 37)
  pub said : Refuses (codes "def a = fun (x: Int) => (out.say(x))") E14 (place 1 34)
  pub given_to_an_exit : Refuses
      (codes "def a = fun (x: Unit) => boundary [Int] z => (exit [Int] (z, x))") E14 (place 1 62)

-- A branch and the body of a boundary are refused where they start, with the parenthesis around them.
pub record PartPlaces : Type 0 where
  pub first_branch : Refuses (codes "def a = fun (x: Unit) => (if [Int] true then x else 2)") E14 (place 1 46)
  pub second_branch : Refuses (codes "def a = fun (x: Unit) => (if [Int] true then 1 else x)") E14 (place 1 53)
  pub first_branch_of_an_omitted_set : Refuses
      (codes "def a = fun (x: Unit) => (if [Int^?] true then x else 2)") E14 (place 1 48)
  pub second_branch_of_an_omitted_set : Refuses
      (codes "def a = fun (x: Unit) => (if [Int^?] true then 1 else x)") E14 (place 1 55)
  pub body_of_a_boundary : Refuses (codes "def a = fun (x: Unit) => (boundary [Int] z => x)") E14 (place 1 47)
  pub body_in_parentheses : Refuses
      (codes "def a = fun (x: Unit) => (boundary [Int] z => (val q = x; q))") E14 (place 1 47)

-- A set that is not below another is refused where the term starts that was compared, and `cap` in the set of an
-- unboxing at the word.
pub record SetPlaces : Type 0 where
  pub argument : Refuses (codes "def a = fun (f: (c: Console) -> Unit) => (f(out))") E15 (place 1 45)
  pub opened : Refuses (codes "def a = fun (b: Box[Int^{cap}]) => (unbox {out} b)") E15 (place 1 49)
  pub cap_is_written : Refuses (codes "def a = fun (b: Box[Int^{out}]) => (unbox {cap} b)") E16 (place 1 37)
  pub cap_is_written_and_inside : Refuses (codes "def a = fun (b: Box[Int^{cap}]) => (unbox {cap} b)") E16 (place 1 37)
  pub cap_is_inside : Refuses (codes "def a = fun (b: Box[Int^{cap}]) => (unbox b)") E16 (place 1 37)
  pub right_side_of_a_val : Refuses (codes "def a = fun (x: Unit) => (val c: Console = out; 1)") E15 (place 1 44)
  pub first_branch : Refuses (codes "def a = fun (x: Unit) => (if [Console] true then out else out)") E15 (place 1 50)
  pub second_branch : Refuses
      (codes "def a = fun (c: Console^{cap}) => (if [Console^{out}] true then out else c)") E15 (place 1 74)
  pub body_of_a_boundary : Refuses (codes "def a = fun (x: Unit) => (boundary [Console] z => out)") E15 (place 1 51)
  pub given_to_an_exit : Refuses
      (codes "def a = fun (x: Unit) => boundary [Console] z => (exit [Console] (z, out))") E15 (place 1 70)

-- What a `val` writes is refused where its right side starts, and a name that cannot be avoided at the word `val` or
-- where the operand starts that was named.
pub record LetPlaces : Type 0 where
  pub right_side : Refuses (codes "def a = fun (x: Unit) => (val y: Int = x; y(2))") E14 (place 1 40)
  pub right_side_of_an_omitted_set : Refuses
      (codes "def a = fun (x: Unit) => (val y: Int^? = x; y(2))") E14 (place 1 42)
  pub bound_by_val : Refuses
      (codes "def a = fun (x: Unit) => (val y = 1; fun [X <: Box[Int^{y}]] => unit)") E17 (place 1 27)
  pub named_operand : Refuses
      (codes "def a = fun (h: (n: Int) -> [X <: Box[Int^{n}]] -> Unit) => h(1 + 1)") E17 (place 1 63)
  pub named_operand_in_parentheses : Refuses
      (codes "def a = fun (h: (n: Int) -> [X <: Box[Int^{n}]] -> Unit) => (h((1 + 1)))") E17 (place 1 64)

-- A type that is too large is refused where its term starts, with the parenthesis around it; the parts come first.
pub record SizePlaces : Type 0 where
  -- the type of `f[..]` has size 4,095
  pub whole : Refuses
      (codes "def a = fun (f: [X <: Any] -> " ++ tower 6 (codes "X") ++ codes ") => (f[" ++ tower 5 (codes "Int")
      ++ codes "])")
      E18 (place 1 9)
  -- that of `f[..]` has size 4,159
  pub part : Refuses
      (codes "def a = fun (f: [X <: Any] -> " ++ tower 6 (codes "X") ++ codes ") => (f[Box[" ++ tower 5 (codes "Int")
      ++ codes "]])")
      E18 (place 1 667)
  -- a shape that is no bound is refused before the size
  pub bound_comes_first : Refuses
      (codes "def a = fun (f: [X <: Int] -> " ++ tower 6 (codes "X") ++ codes ") => (f[Box[" ++ tower 5 (codes "Int")
      ++ codes "]])")
      E14 (place 1 670)
  -- `y` has size 4,096, and its box 4,097
  pub boxed : Refuses
      (codes "def a = fun (f: [X <: Any] -> " ++ tower 6 (codes "X") ++ codes ") => (val y = f["
      ++ tower 5 (codes "Int") ++ codes "]; (box y))")
      E18 (place 1 1056)
  -- a size of 4,096 passes, and 4,097 does not
  pub greatest : Refuses
      (codes "def a = fun (x: Unit) => val g = fun (f: [X <: Any] -> " ++ tower 6 (codes "X") ++ codes ") => fun (u: "
      ++ repeated 30 (codes "Box[") ++ tower 4 (codes "Int") ++ repeated 30 (codes "]") ++ codes ") => f["
      ++ repeated 29 (codes "Box[") ++ tower 4 (codes "Int") ++ repeated 29 (codes "]") ++ codes "]; x(x)")
      E13 (place 1 1371)
  pub too_large : Refuses
      (codes "def a = fun (x: Unit) => val g = fun (f: [X <: Any] -> " ++ tower 6 (codes "X") ++ codes ") => fun (u: "
      ++ repeated 31 (codes "Box[") ++ tower 4 (codes "Int") ++ repeated 31 (codes "]") ++ codes ") => f["
      ++ repeated 29 (codes "Box[") ++ tower 4 (codes "Int") ++ repeated 29 (codes "]") ++ codes "]; x(x)")
      E18 (place 1 34)

-- A right side is refused where it starts, and a name that its signature cannot avoid at the name of the definition.
pub record DefinitionPlaces : Type 0 where
  pub written_shape : Refuses (codes "def a: [X <: Any] -> Int^{out} = 1") E14 (place 1 34)
  pub written_set : Refuses (codes "def f: (u: Unit) -> Unit = fun (u: Unit) => out.print(1)") E15 (place 1 28)
  pub written_for_itself : Refuses
      (codes "def rec a: (x: Unit) -> Unit = fun (x: Int) => out.print(x)") E14 (place 1 32)
  pub set_written_for_itself : Refuses
      (codes "def rec a: (u: Unit) -> Unit = fun (u: Unit) => out.print(1)") E15 (place 1 32)
  pub name_in_a_bound : Refuses
      (lines (codes "def f = fun (u: Unit) => out.print(1)"
      ∷ codes "def g = fun [X <: Box[Unit^{f}]] => unit" ∷ []))
      E17 (place 2 5)
  pub name_in_a_written_bound : Refuses
      (lines (codes "def f = fun (u: Unit) => u"
      ∷ codes "def rec g: [X <: Box[Unit^{f}]] -> Unit = fun [X <: Box[Unit^{f}]] => unit" ∷ []))
      E17 (place 2 9)
