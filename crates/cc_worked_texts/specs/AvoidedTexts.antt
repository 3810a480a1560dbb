-- Texts in which a name is avoided in a type.
use Rattle.std.specs.Prelude.{codes, [], ◌∷◌, ◌++◌}
use Rattle.cc_base.specs.declared.code.Code.TheVariants.{E17}
use Rattle.cc_worked_texts.specs.TextVerdicts.{place, lines, Refuses, Accepts}

-- Where a set may become larger, a name gives way to what it was declared with.
pub record PositivePlaces : Type 0 where
  pub alone : Accepts
      (codes "def a = fun (c: Console^{cap}) => val p = fun (x: Int) => c.print(x); fun (h: (k: Int^{p}) -> "
      ++ codes "Int) => 1")
      (codes "a: (_0: Console^{cap}) -> (_1: (_1: Int^{_0}) -> Int) -> Int" ∷ [])
  -- what stands beside it stays
  pub with_others : Accepts
      (codes "def a = fun (c: Console^{cap}) => val p = fun (x: Int) => c.print(x); fun (h: (k: Int^{p, out}) "
      ++ codes "-> Int) => 1")
      (codes "a: (_0: Console^{cap}) -> (_1: (_1: Int^{out, _0}) -> Int) -> Int" ∷ [])
  pub with_its_own_set : Accepts
      (codes "def a = fun (c: Console^{cap}) => val p = fun (x: Int) => c.print(x); fun (h: (k: Int^{p, c}) "
      ++ codes "-> Int) => 1")
      (codes "a: (_0: Console^{cap}) -> (_1: (_1: Int^{_0}) -> Int) -> Int" ∷ [])
  pub with_cap : Accepts
      (codes "def a = fun (c: Console^{cap}) => val p = fun (x: Int) => c.print(x); fun (h: (k: Int^{p, cap}) "
      ++ codes "-> Int) => 1")
      (codes "a: (_0: Console^{cap}) -> (_1: (_1: Int^{_0, cap}) -> Int) -> Int" ∷ [])
  -- a set without it stays as it is
  pub elsewhere : Accepts
      (codes "def a = fun (c: Console^{cap}) => val p = fun (x: Int) => c.print(x); fun (h: (k: Int^{out}) -> "
      ++ codes "Int) => 1")
      (codes "a: (_0: Console^{cap}) -> (_1: (_1: Int^{out}) -> Int) -> Int" ∷ [])
  pub pure : Accepts
      (codes "def a = fun (c: Console^{cap}) => val p = fun (x: Int) => c.print(x); fun (h: (k: Int) -> Int) "
      ++ codes "=> 1")
      (codes "a: (_0: Console^{cap}) -> (_1: (_1: Int) -> Int) -> Int" ∷ [])
  -- contents and results keep the sign
  pub content : Accepts
      (codes "def a = fun (c: Console^{cap}) => val p = fun (x: Int) => c.print(x); fun (h: (k: Box[Int^{p}]) "
      ++ codes "-> Int) => 1")
      (codes "a: (_0: Console^{cap}) -> (_1: (_1: Box[Int^{_0}]) -> Int) -> Int" ∷ [])
  pub content_of_a_content : Accepts
      (codes "def a = fun (c: Console^{cap}) => val p = fun (x: Int) => c.print(x); fun (h: (k: "
      ++ codes "Box[Box[Int^{p}]]) -> Int) => 1")
      (codes "a: (_0: Console^{cap}) -> (_1: (_1: Box[Box[Int^{_0}]]) -> Int) -> Int" ∷ [])
  pub content_and_box : Accepts
      (codes "def a = fun (c: Console^{cap}) => val p = fun (x: Int) => c.print(x); fun (h: (k: "
      ++ codes "Box[Int^{p}]^{p}) -> Int) => 1")
      (codes "a: (_0: Console^{cap}) -> (_1: (_1: Box[Int^{_0}]^{_0}) -> Int) -> Int" ∷ [])
  pub result : Accepts
      (codes "def a = fun (c: Console^{cap}) => val p = fun (x: Int) => c.print(x); fun (h: (k: (i: Int) -> "
      ++ codes "Int^{p}) -> Int) => 1")
      (codes "a: (_0: Console^{cap}) -> (_1: (_1: (_1: Int) -> Int^{_0}) -> Int) -> Int" ∷ [])
  pub content_of_a_result : Accepts
      (codes "def a = fun (c: Console^{cap}) => val p = fun (x: Int) => c.print(x); fun (h: (k: (i: Int) -> "
      ++ codes "Box[Int^{p}]) -> Int) => 1")
      (codes "a: (_0: Console^{cap}) -> (_1: (_1: (_1: Int) -> Box[Int^{_0}]) -> Int) -> Int" ∷ [])
  pub result_of_a_type_function : Accepts
      (codes "def a = fun (c: Console^{cap}) => val p = fun (x: Int) => c.print(x); fun (h: (k: [X <: Any] -> "
      ++ codes "Int^{p}) -> Int) => 1")
      (codes "a: (_0: Console^{cap}) -> (_1: (_1: [_T1 <: Any] -> Int^{_0}) -> Int) -> Int" ∷ [])
  pub content_of_the_result_of_a_type_function : Accepts
      (codes "def a = fun (c: Console^{cap}) => val p = fun (x: Int) => c.print(x); fun (h: (k: [X <: Any] -> "
      ++ codes "Box[Int^{p}]) -> Int) => 1")
      (codes "a: (_0: Console^{cap}) -> (_1: (_1: [_T1 <: Any] -> Box[Int^{_0}]) -> Int) -> Int" ∷ [])
  pub result_of_a_result : Accepts
      (codes "def a = fun (c: Console^{cap}) => val p = fun (x: Int) => c.print(x); fun (h: (k: (i: Int) -> "
      ++ codes "[X <: Any] -> (j: Int) -> Int^{p}) -> Int) => 1")
      ((codes "a: (_0: Console^{cap}) -> (_1: (_1: (_1: Int) -> [_T2 <: Any] -> (_3: Int) -> Int^{_0}) "
      ++ codes "-> Int) -> Int") ∷ [])
  -- a parameter turns it
  pub parameter : Accepts
      (codes "def a = fun (c: Console^{cap}) => val p = fun (x: Int) => c.print(x); fun (h: (k: (i: Int^{p}) "
      ++ codes "-> Int) -> Int) => 1")
      (codes "a: (_0: Console^{cap}) -> (_1: (_1: (_1: Int) -> Int) -> Int) -> Int" ∷ [])
  pub content_of_a_parameter : Accepts
      (codes "def a = fun (c: Console^{cap}) => val p = fun (x: Int) => c.print(x); fun (h: (k: (i: "
      ++ codes "Box[Int^{p}]) -> Int) -> Int) => 1")
      (codes "a: (_0: Console^{cap}) -> (_1: (_1: (_1: Box[Int]) -> Int) -> Int) -> Int" ∷ [])
  pub parameter_of_a_parameter : Accepts
      (codes "def a = fun (c: Console^{cap}) => val p = fun (x: Int) => c.print(x); fun (h: (k: (i: (j: "
      ++ codes "Int^{p}) -> Int) -> Int) -> Int) => 1")
      (codes "a: (_0: Console^{cap}) -> (_1: (_1: (_1: (_1: Int^{_0}) -> Int) -> Int) -> Int) -> Int" ∷ [])
  pub parameter_of_a_result : Accepts
      (codes "def a = fun (c: Console^{cap}) => val p = fun (x: Int) => c.print(x); fun (h: (k: [X <: Any] -> "
      ++ codes "(i: Int^{p}) -> Int) -> Int) => 1")
      (codes "a: (_0: Console^{cap}) -> (_1: (_1: [_T1 <: Any] -> (_2: Int) -> Int) -> Int) -> Int" ∷ [])
  pub parameter_and_result : Accepts
      (codes "def a = fun (c: Console^{cap}) => val p = fun (x: Int) => c.print(x); fun (h: (k: (i: Int^{p}) "
      ++ codes "-> Int^{p}) -> Int) => 1")
      (codes "a: (_0: Console^{cap}) -> (_1: (_1: (_1: Int) -> Int^{_0}) -> Int) -> Int" ∷ [])
  -- the outermost set
  pub outermost : Accepts
      (codes "def a = fun (c: Console^{cap}) => val p = fun (x: Int) => c.print(x); p")
      (codes "a: (_0: Console^{cap}) -> ((_1: Int) -> Unit)^{_0}" ∷ [])
  pub boxed : Accepts
      (codes "def a = fun (c: Console^{cap}) => val p = fun (x: Int) => c.print(x); box p")
      (codes "a: (_0: Console^{cap}) -> Box[((_1: Int) -> Unit)^{_0}]" ∷ [])
  pub two_devices : Accepts
      (codes "def a = fun (c: Console^{cap}) => val p = fun (x: Int) => val n = hits.tick(); c.print(x); box p")
      (codes "a: (_0: Console^{cap}) -> Box[((_1: Int) -> Unit)^{hits, _0}]" ∷ [])
  pub pure_value : Accepts
      (codes "def a = fun (c: Console^{cap}) => val p = 1; box p") (codes "a: (_0: Console^{cap}) -> Box[Int]" ∷ [])
  pub one_behind_the_other : Accepts
      (codes "def a = fun (c: Console^{cap}) => val p = fun (x: Int) => c.print(x); val q = fun (x: Int) => "
      ++ codes "p(x); box q")
      (codes "a: (_0: Console^{cap}) -> Box[((_1: Int) -> Unit)^{_0}]" ∷ [])
  pub two_at_once : Accepts
      (codes "def a = fun (c: Console^{cap}) => val p = fun (x: Int) => c.print(x); val q = fun (x: Int) => "
      ++ codes "hits.tick(); fun (h: (k: Int^{p, q}) -> Int) => 1")
      (codes "a: (_0: Console^{cap}) -> (_1: (_1: Int^{hits, _0}) -> Int) -> Int" ∷ [])
  pub written_set : Accepts
      (codes "def a = fun (c: Console^{cap}) => val p: ((x: Int) -> Unit)^{c, out} = fun (x: Int) => "
      ++ codes "c.print(x); box p")
      (codes "a: (_0: Console^{cap}) -> Box[((_1: Int) -> Unit)^{out, _0}]" ∷ [])

-- Where a set may become smaller, a name is left out.
pub record NegativePlaces : Type 0 where
  pub alone : Accepts
      (codes "def a = fun (c: Console^{cap}) => val p = fun (x: Int) => c.print(x); fun (h: Int^{p}) => 1")
      (codes "a: (_0: Console^{cap}) -> (_1: Int) -> Int" ∷ [])
  -- what stands beside it stays
  pub with_others : Accepts
      (codes "def a = fun (c: Console^{cap}) => val p = fun (x: Int) => c.print(x); fun (h: Int^{p, out}) => 1")
      (codes "a: (_0: Console^{cap}) -> (_1: Int^{out}) -> Int" ∷ [])
  pub with_its_own_set : Accepts
      (codes "def a = fun (c: Console^{cap}) => val p = fun (x: Int) => c.print(x); fun (h: Int^{p, c}) => 1")
      (codes "a: (_0: Console^{cap}) -> (_1: Int^{_0}) -> Int" ∷ [])
  pub with_cap : Accepts
      (codes "def a = fun (c: Console^{cap}) => val p = fun (x: Int) => c.print(x); fun (h: Int^{p, cap}) => 1")
      (codes "a: (_0: Console^{cap}) -> (_1: Int^{cap}) -> Int" ∷ [])
  -- a set without it stays as it is
  pub elsewhere : Accepts
      (codes "def a = fun (c: Console^{cap}) => val p = fun (x: Int) => c.print(x); fun (h: Int^{out}) => 1")
      (codes "a: (_0: Console^{cap}) -> (_1: Int^{out}) -> Int" ∷ [])
  -- contents and results keep the sign
  pub content : Accepts
      (codes "def a = fun (c: Console^{cap}) => val p = fun (x: Int) => c.print(x); fun (h: Box[Int^{p}]) => 1")
      (codes "a: (_0: Console^{cap}) -> (_1: Box[Int]) -> Int" ∷ [])
  pub content_with_others : Accepts
      (codes "def a = fun (c: Console^{cap}) => val p = fun (x: Int) => c.print(x); fun (h: Box[Int^{p, "
      ++ codes "hits}]) => 1")
      (codes "a: (_0: Console^{cap}) -> (_1: Box[Int^{hits}]) -> Int" ∷ [])
  pub result : Accepts
      (codes "def a = fun (c: Console^{cap}) => val p = fun (x: Int) => c.print(x); fun (h: (i: Int) -> "
      ++ codes "Int^{p, out}) => 1")
      (codes "a: (_0: Console^{cap}) -> (_1: (_1: Int) -> Int^{out}) -> Int" ∷ [])
  pub content_of_a_result : Accepts
      (codes "def a = fun (c: Console^{cap}) => val p = fun (x: Int) => c.print(x); fun (h: (i: Int) -> "
      ++ codes "Box[Int^{p}]) => 1")
      (codes "a: (_0: Console^{cap}) -> (_1: (_1: Int) -> Box[Int]) -> Int" ∷ [])
  pub result_of_a_type_function : Accepts
      (codes "def a = fun (c: Console^{cap}) => val p = fun (x: Int) => c.print(x); fun (h: [X <: Any] -> "
      ++ codes "Int^{p, out}) => 1")
      (codes "a: (_0: Console^{cap}) -> (_1: [_T1 <: Any] -> Int^{out}) -> Int" ∷ [])
  pub content_of_the_result_of_a_type_function : Accepts
      (codes "def a = fun (c: Console^{cap}) => val p = fun (x: Int) => c.print(x); fun (h: [X <: Any] -> "
      ++ codes "Box[Int^{p}]) => 1")
      (codes "a: (_0: Console^{cap}) -> (_1: [_T1 <: Any] -> Box[Int]) -> Int" ∷ [])
  -- a parameter turns it
  pub parameter : Accepts
      (codes "def a = fun (c: Console^{cap}) => val p = fun (x: Int) => c.print(x); fun (h: (i: Int^{p, out}) "
      ++ codes "-> Int) => 1")
      (codes "a: (_0: Console^{cap}) -> (_1: (_1: Int^{out, _0}) -> Int) -> Int" ∷ [])
  pub content_of_a_parameter : Accepts
      (codes "def a = fun (c: Console^{cap}) => val p = fun (x: Int) => c.print(x); fun (h: (i: Box[Int^{p}]) "
      ++ codes "-> Int) => 1")
      (codes "a: (_0: Console^{cap}) -> (_1: (_1: Box[Int^{_0}]) -> Int) -> Int" ∷ [])
  pub parameter_of_a_type_function : Accepts
      (codes "def a = fun (c: Console^{cap}) => val p = fun (x: Int) => c.print(x); fun (h: [X <: Any] -> (i: "
      ++ codes "Int^{p}) -> Int) => 1")
      (codes "a: (_0: Console^{cap}) -> (_1: [_T1 <: Any] -> (_2: Int^{_0}) -> Int) -> Int" ∷ [])
  -- the set of a function that is a parameter
  pub set_of_a_function : Accepts
      (codes "def a = fun (c: Console^{cap}) => val p = fun (x: Int) => c.print(x); val q = fun (h: ((y: Int) "
      ++ codes "-> Unit)^{p, out}) => p(1); q")
      (codes "a: (_0: Console^{cap}) -> ((_1: ((_1: Int) -> Unit)^{out}) -> Unit)^{_0}" ∷ [])
  pub set_of_a_function_with_cap : Accepts
      (codes "def a = fun (c: Console^{cap}) => val p = fun (x: Int) => c.print(x); val q = fun (h: ((y: Int) "
      ++ codes "-> Unit)^{cap, p}) => p(1); q")
      (codes "a: (_0: Console^{cap}) -> ((_1: ((_1: Int) -> Unit)^{cap}) -> Unit)^{_0}" ∷ [])
  -- a definition avoids those before it
  pub earlier_definition : Accepts
      (lines (codes "def f = fun (u: Unit) => out.print(1)"
      ∷ codes "def a = fun (h: Int^{f, hits}) => 1" ∷ []))
      (codes "f: ((_0: Unit) -> Unit)^{out}" ∷ codes "a: (_0: Int^{hits}) -> Int" ∷ [])
  pub earlier_definition_of_a_parameter : Accepts
      (lines (codes "def f = fun (u: Unit) => out.print(1)"
      ∷ codes "def a = fun (h: (k: Int^{f}) -> Int) => f(unit)" ∷ []))
      (codes "f: ((_0: Unit) -> Unit)^{out}" ∷ codes "a: ((_0: (_0: Int^{out}) -> Int) -> Unit)^{out}" ∷ [])
  pub earlier_definition_of_a_content : Accepts
      (lines (codes "def f = fun (u: Unit) => out.print(1)"
      ∷ codes "def a = box f" ∷ []))
      (codes "f: ((_0: Unit) -> Unit)^{out}" ∷ codes "a: Box[((_0: Unit) -> Unit)^{out}]" ∷ [])
  pub devices_stay : Accepts
      (codes "def a = fun (h: (k: Int^{out}) -> Int^{hits}) => 1")
      (codes "a: (_0: (_0: Int^{out}) -> Int^{hits}) -> Int" ∷ [])

-- In a bound, or inside an exit, no name can be avoided.
pub record InvariantPlaces : Type 0 where
  pub content_in_a_bound : Refuses
      (codes "def a = fun (c: Console^{cap}) => val p = fun (x: Int) => c.print(x); fun [X <: Box[Int^{p}]] "
      ++ codes "=> 1")
      E17 (place 1 35)
  pub content_in_an_exit : Refuses
      (codes "def a = fun (c: Console^{cap}) => val p = fun (x: Int) => c.print(x); fun (e: "
      ++ codes "Exit[Box[Int^{p}]]) => 1")
      E17 (place 1 35)
  pub content_of_a_content_in_a_bound : Refuses
      (codes "def a = fun (c: Console^{cap}) => val p = fun (x: Int) => c.print(x); fun [X <: "
      ++ codes "Box[Box[Int^{p}]]] => 1")
      E17 (place 1 35)
  pub content_of_a_content_in_an_exit : Refuses
      (codes "def a = fun (c: Console^{cap}) => val p = fun (x: Int) => c.print(x); fun (e: "
      ++ codes "Exit[Box[Box[Int^{p}]]]) => 1")
      E17 (place 1 35)
  pub parameter_in_a_bound : Refuses
      (codes "def a = fun (c: Console^{cap}) => val p = fun (x: Int) => c.print(x); fun [X <: (i: Int^{p}) -> "
      ++ codes "Int] => 1")
      E17 (place 1 35)
  pub parameter_in_an_exit : Refuses
      (codes "def a = fun (c: Console^{cap}) => val p = fun (x: Int) => c.print(x); fun (e: Exit[(i: Int^{p}) "
      ++ codes "-> Int]) => 1")
      E17 (place 1 35)
  pub content_of_a_parameter_in_a_bound : Refuses
      (codes "def a = fun (c: Console^{cap}) => val p = fun (x: Int) => c.print(x); fun [X <: (i: "
      ++ codes "Box[Int^{p}]) -> Int] => 1")
      E17 (place 1 35)
  pub content_of_a_parameter_in_an_exit : Refuses
      (codes "def a = fun (c: Console^{cap}) => val p = fun (x: Int) => c.print(x); fun (e: Exit[(i: "
      ++ codes "Box[Int^{p}]) -> Int]) => 1")
      E17 (place 1 35)
  pub result_in_a_bound : Refuses
      (codes "def a = fun (c: Console^{cap}) => val p = fun (x: Int) => c.print(x); fun [X <: (i: Int) -> "
      ++ codes "Int^{p}] => 1")
      E17 (place 1 35)
  pub result_in_an_exit : Refuses
      (codes "def a = fun (c: Console^{cap}) => val p = fun (x: Int) => c.print(x); fun (e: Exit[(i: Int) -> "
      ++ codes "Int^{p}]) => 1")
      E17 (place 1 35)
  pub content_of_a_result_in_a_bound : Refuses
      (codes "def a = fun (c: Console^{cap}) => val p = fun (x: Int) => c.print(x); fun [X <: (i: Int) -> "
      ++ codes "Box[Int^{p}]] => 1")
      E17 (place 1 35)
  pub content_of_a_result_in_an_exit : Refuses
      (codes "def a = fun (c: Console^{cap}) => val p = fun (x: Int) => c.print(x); fun (e: Exit[(i: Int) -> "
      ++ codes "Box[Int^{p}]]) => 1")
      E17 (place 1 35)
  pub bound_in_a_bound : Refuses
      (codes "def a = fun (c: Console^{cap}) => val p = fun (x: Int) => c.print(x); fun [X <: [Y <: "
      ++ codes "Box[Int^{p}]] -> Int] => 1")
      E17 (place 1 35)
  pub bound_in_an_exit : Refuses
      (codes "def a = fun (c: Console^{cap}) => val p = fun (x: Int) => c.print(x); fun (e: Exit[[Y <: "
      ++ codes "Box[Int^{p}]] -> Int]) => 1")
      E17 (place 1 35)
  pub result_of_a_type_function_in_a_bound : Refuses
      (codes "def a = fun (c: Console^{cap}) => val p = fun (x: Int) => c.print(x); fun [X <: [Y <: Any] -> "
      ++ codes "Int^{p}] => 1")
      E17 (place 1 35)
  pub result_of_a_type_function_in_an_exit : Refuses
      (codes "def a = fun (c: Console^{cap}) => val p = fun (x: Int) => c.print(x); fun (e: Exit[[Y <: Any] "
      ++ codes "-> Int^{p}]) => 1")
      E17 (place 1 35)
  pub content_of_the_result_of_a_type_function_in_a_bound : Refuses
      (codes "def a = fun (c: Console^{cap}) => val p = fun (x: Int) => c.print(x); fun [X <: [Y <: Any] -> "
      ++ codes "Box[Int^{p}]] => 1")
      E17 (place 1 35)
  pub content_of_the_result_of_a_type_function_in_an_exit : Refuses
      (codes "def a = fun (c: Console^{cap}) => val p = fun (x: Int) => c.print(x); fun (e: Exit[[Y <: Any] "
      ++ codes "-> Box[Int^{p}]]) => 1")
      E17 (place 1 35)
  pub exit_in_a_bound : Refuses
      (codes "def a = fun (c: Console^{cap}) => val p = fun (x: Int) => c.print(x); fun [X <: "
      ++ codes "Exit[Box[Int^{p}]]] => 1")
      E17 (place 1 35)
  pub exit_in_an_exit : Refuses
      (codes "def a = fun (c: Console^{cap}) => val p = fun (x: Int) => c.print(x); fun (e: "
      ++ codes "Exit[Exit[Box[Int^{p}]]]) => 1")
      E17 (place 1 35)
  -- wherever the bound or the exit is
  pub bound_of_a_parameter : Refuses
      (codes "def a = fun (c: Console^{cap}) => val p = fun (x: Int) => c.print(x); fun (f: [X <: "
      ++ codes "Box[Int^{p}]] -> Int) => 1")
      E17 (place 1 35)
  pub bound_of_a_parameter_of_a_parameter : Refuses
      (codes "def a = fun (c: Console^{cap}) => val p = fun (x: Int) => c.print(x); fun (f: (g: [X <: "
      ++ codes "Box[Int^{p}]] -> Int) -> Int) => 1")
      E17 (place 1 35)
  pub bound_of_a_result : Refuses
      (codes "def a = fun (c: Console^{cap}) => val p = fun (x: Int) => c.print(x); fun (u: Unit) => fun [X "
      ++ codes "<: Box[Int^{p}]] => 1")
      E17 (place 1 35)
  pub exit_in_a_box : Refuses
      (codes "def a = fun (c: Console^{cap}) => val p = fun (x: Int) => c.print(x); fun (b: "
      ++ codes "Box[Exit[Box[Int^{p}]]]) => 1")
      E17 (place 1 35)
  pub exit_of_a_result : Refuses
      (codes "def a = fun (c: Console^{cap}) => val p = fun (x: Int) => c.print(x); fun (f: (u: Unit) -> "
      ++ codes "Exit[Box[Int^{p}]]) => 1")
      E17 (place 1 35)
  pub exit_of_the_result_of_a_type_function : Refuses
      (codes "def a = fun (c: Console^{cap}) => val p = fun (x: Int) => c.print(x); fun (f: [X <: Any] -> "
      ++ codes "Exit[Box[Int^{p}]]) => 1")
      E17 (place 1 35)
  -- where it is in none, all is well
  pub bound_without_it : Accepts
      (codes "def a = fun (c: Console^{cap}) => val p = fun (x: Int) => c.print(x); fun [X <: Box[Int^{out}]] "
      ++ codes "=> fun (h: Int^{p}) => 1")
      (codes "a: (_0: Console^{cap}) -> [_T1 <: Box[Int^{out}]] -> (_2: Int) -> Int" ∷ [])
  pub exit_without_it : Accepts
      (codes "def a = fun (c: Console^{cap}) => val p = fun (x: Int) => c.print(x); fun (e: "
      ++ codes "Exit[Box[Int^{c}]]^{p}) => 1")
      (codes "a: (_0: Console^{cap}) -> (_1: Exit[Box[Int^{_0}]]) -> Int" ∷ [])
  pub set_of_an_exit : Accepts
      (codes "def a = fun (c: Console^{cap}) => val p = fun (x: Int) => c.print(x); fun (e: "
      ++ codes "Box[Exit[Int]^{p}]) => 1")
      (codes "a: (_0: Console^{cap}) -> (_1: Box[Exit[Int]]) -> Int" ∷ [])
  pub other_name : Accepts
      (codes "def a = fun (c: Console^{cap}) => val q = 1; val p = fun (x: Int) => c.print(x); fun [X <: "
      ++ codes "Box[Int^{c}]] => fun (h: Int^{p, q}) => 1")
      (codes "a: (_0: Console^{cap}) -> [_T1 <: Box[Int^{_0}]] -> (_2: Int) -> Int" ∷ [])
  -- a definition is refused at its name
  pub earlier_definition : Refuses
      (lines (codes "def f = fun (u: Unit) => u"
      ∷ codes "def a = fun (e: Exit[Box[Int^{f}]]) => 1" ∷ []))
      E17 (place 2 5)
