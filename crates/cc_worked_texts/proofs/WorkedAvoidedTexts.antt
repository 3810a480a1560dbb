-- Texts in which a name is avoided in a type.
use Rattle.std.proofs.Common.{refl, codes, [], ◌∷◌, ◌++◌}
use Rattle.cc_base.specs.declared.code.Code.TheVariants.{E17}
use Rattle.cc_worked_texts.specs.TextVerdicts.{place, lines}
use Rattle.cc_worked_texts.specs.AvoidedTexts as example
use Rattle.cc_worked_texts.proofs.ComputedModules.{text_computing, refused, accepted}

pub positive : example.PositivePlaces
unfolding text_computing
positive = record {
  alone = accepted 9 (codes "def a = fun (c: Console^{cap}) => val p = fun (x: Int) => c.print(x); fun (h: (k: Int^{p}) -> " ++ codes "Int) => 1") (codes "a: (_0: Console^{cap}) -> (_1: (_1: Int^{_0}) -> Int) -> Int" ∷ []) refl;
  with_others = accepted 9 (codes "def a = fun (c: Console^{cap}) => val p = fun (x: Int) => c.print(x); fun (h: (k: Int^{p, out}) " ++ codes "-> Int) => 1") (codes "a: (_0: Console^{cap}) -> (_1: (_1: Int^{out, _0}) -> Int) -> Int" ∷ []) refl;
  with_its_own_set = accepted 9 (codes "def a = fun (c: Console^{cap}) => val p = fun (x: Int) => c.print(x); fun (h: (k: Int^{p, c}) " ++ codes "-> Int) => 1") (codes "a: (_0: Console^{cap}) -> (_1: (_1: Int^{_0}) -> Int) -> Int" ∷ []) refl;
  with_cap = accepted 9 (codes "def a = fun (c: Console^{cap}) => val p = fun (x: Int) => c.print(x); fun (h: (k: Int^{p, cap}) " ++ codes "-> Int) => 1") (codes "a: (_0: Console^{cap}) -> (_1: (_1: Int^{_0, cap}) -> Int) -> Int" ∷ []) refl;
  elsewhere = accepted 9 (codes "def a = fun (c: Console^{cap}) => val p = fun (x: Int) => c.print(x); fun (h: (k: Int^{out}) -> " ++ codes "Int) => 1") (codes "a: (_0: Console^{cap}) -> (_1: (_1: Int^{out}) -> Int) -> Int" ∷ []) refl;
  pure = accepted 9 (codes "def a = fun (c: Console^{cap}) => val p = fun (x: Int) => c.print(x); fun (h: (k: Int) -> Int) " ++ codes "=> 1") (codes "a: (_0: Console^{cap}) -> (_1: (_1: Int) -> Int) -> Int" ∷ []) refl;
  content = accepted 9 (codes "def a = fun (c: Console^{cap}) => val p = fun (x: Int) => c.print(x); fun (h: (k: Box[Int^{p}]) " ++ codes "-> Int) => 1") (codes "a: (_0: Console^{cap}) -> (_1: (_1: Box[Int^{_0}]) -> Int) -> Int" ∷ []) refl;
  content_of_a_content = accepted 9 (codes "def a = fun (c: Console^{cap}) => val p = fun (x: Int) => c.print(x); fun (h: (k: " ++ codes "Box[Box[Int^{p}]]) -> Int) => 1") (codes "a: (_0: Console^{cap}) -> (_1: (_1: Box[Box[Int^{_0}]]) -> Int) -> Int" ∷ []) refl;
  content_and_box = accepted 9 (codes "def a = fun (c: Console^{cap}) => val p = fun (x: Int) => c.print(x); fun (h: (k: " ++ codes "Box[Int^{p}]^{p}) -> Int) => 1") (codes "a: (_0: Console^{cap}) -> (_1: (_1: Box[Int^{_0}]^{_0}) -> Int) -> Int" ∷ []) refl;
  result = accepted 9 (codes "def a = fun (c: Console^{cap}) => val p = fun (x: Int) => c.print(x); fun (h: (k: (i: Int) -> " ++ codes "Int^{p}) -> Int) => 1") (codes "a: (_0: Console^{cap}) -> (_1: (_1: (_1: Int) -> Int^{_0}) -> Int) -> Int" ∷ []) refl;
  content_of_a_result = accepted 9 (codes "def a = fun (c: Console^{cap}) => val p = fun (x: Int) => c.print(x); fun (h: (k: (i: Int) -> " ++ codes "Box[Int^{p}]) -> Int) => 1") (codes "a: (_0: Console^{cap}) -> (_1: (_1: (_1: Int) -> Box[Int^{_0}]) -> Int) -> Int" ∷ []) refl;
  result_of_a_type_function = accepted 9 (codes "def a = fun (c: Console^{cap}) => val p = fun (x: Int) => c.print(x); fun (h: (k: [X <: Any] -> " ++ codes "Int^{p}) -> Int) => 1") (codes "a: (_0: Console^{cap}) -> (_1: (_1: [_T1 <: Any] -> Int^{_0}) -> Int) -> Int" ∷ []) refl;
  content_of_the_result_of_a_type_function = accepted 9 (codes "def a = fun (c: Console^{cap}) => val p = fun (x: Int) => c.print(x); fun (h: (k: [X <: Any] -> " ++ codes "Box[Int^{p}]) -> Int) => 1") (codes "a: (_0: Console^{cap}) -> (_1: (_1: [_T1 <: Any] -> Box[Int^{_0}]) -> Int) -> Int" ∷ []) refl;
  result_of_a_result = accepted 9 (codes "def a = fun (c: Console^{cap}) => val p = fun (x: Int) => c.print(x); fun (h: (k: (i: Int) -> " ++ codes "[X <: Any] -> (j: Int) -> Int^{p}) -> Int) => 1") ((codes "a: (_0: Console^{cap}) -> (_1: (_1: (_1: Int) -> [_T2 <: Any] -> (_3: Int) -> Int^{_0}) " ++ codes "-> Int) -> Int") ∷ []) refl;
  parameter = accepted 9 (codes "def a = fun (c: Console^{cap}) => val p = fun (x: Int) => c.print(x); fun (h: (k: (i: Int^{p}) " ++ codes "-> Int) -> Int) => 1") (codes "a: (_0: Console^{cap}) -> (_1: (_1: (_1: Int) -> Int) -> Int) -> Int" ∷ []) refl;
  content_of_a_parameter = accepted 9 (codes "def a = fun (c: Console^{cap}) => val p = fun (x: Int) => c.print(x); fun (h: (k: (i: " ++ codes "Box[Int^{p}]) -> Int) -> Int) => 1") (codes "a: (_0: Console^{cap}) -> (_1: (_1: (_1: Box[Int]) -> Int) -> Int) -> Int" ∷ []) refl;
  parameter_of_a_parameter = accepted 9 (codes "def a = fun (c: Console^{cap}) => val p = fun (x: Int) => c.print(x); fun (h: (k: (i: (j: " ++ codes "Int^{p}) -> Int) -> Int) -> Int) => 1") (codes "a: (_0: Console^{cap}) -> (_1: (_1: (_1: (_1: Int^{_0}) -> Int) -> Int) -> Int) -> Int" ∷ []) refl;
  parameter_of_a_result = accepted 9 (codes "def a = fun (c: Console^{cap}) => val p = fun (x: Int) => c.print(x); fun (h: (k: [X <: Any] -> " ++ codes "(i: Int^{p}) -> Int) -> Int) => 1") (codes "a: (_0: Console^{cap}) -> (_1: (_1: [_T1 <: Any] -> (_2: Int) -> Int) -> Int) -> Int" ∷ []) refl;
  parameter_and_result = accepted 9 (codes "def a = fun (c: Console^{cap}) => val p = fun (x: Int) => c.print(x); fun (h: (k: (i: Int^{p}) " ++ codes "-> Int^{p}) -> Int) => 1") (codes "a: (_0: Console^{cap}) -> (_1: (_1: (_1: Int) -> Int^{_0}) -> Int) -> Int" ∷ []) refl;
  outermost = accepted 9 (codes "def a = fun (c: Console^{cap}) => val p = fun (x: Int) => c.print(x); p") (codes "a: (_0: Console^{cap}) -> ((_1: Int) -> Unit)^{_0}" ∷ []) refl;
  boxed = accepted 9 (codes "def a = fun (c: Console^{cap}) => val p = fun (x: Int) => c.print(x); box p") (codes "a: (_0: Console^{cap}) -> Box[((_1: Int) -> Unit)^{_0}]" ∷ []) refl;
  two_devices = accepted 9 (codes "def a = fun (c: Console^{cap}) => val p = fun (x: Int) => val n = hits.tick(); c.print(x); box p") (codes "a: (_0: Console^{cap}) -> Box[((_1: Int) -> Unit)^{hits, _0}]" ∷ []) refl;
  pure_value = accepted 9 (codes "def a = fun (c: Console^{cap}) => val p = 1; box p") (codes "a: (_0: Console^{cap}) -> Box[Int]" ∷ []) refl;
  one_behind_the_other = accepted 9 (codes "def a = fun (c: Console^{cap}) => val p = fun (x: Int) => c.print(x); val q = fun (x: Int) => " ++ codes "p(x); box q") (codes "a: (_0: Console^{cap}) -> Box[((_1: Int) -> Unit)^{_0}]" ∷ []) refl;
  two_at_once = accepted 9 (codes "def a = fun (c: Console^{cap}) => val p = fun (x: Int) => c.print(x); val q = fun (x: Int) => " ++ codes "hits.tick(); fun (h: (k: Int^{p, q}) -> Int) => 1") (codes "a: (_0: Console^{cap}) -> (_1: (_1: Int^{hits, _0}) -> Int) -> Int" ∷ []) refl;
  written_set = accepted 9 (codes "def a = fun (c: Console^{cap}) => val p: ((x: Int) -> Unit)^{c, out} = fun (x: Int) => " ++ codes "c.print(x); box p") (codes "a: (_0: Console^{cap}) -> Box[((_1: Int) -> Unit)^{out, _0}]" ∷ []) refl;
}

pub negative : example.NegativePlaces
unfolding text_computing
negative = record {
  alone = accepted 9 (codes "def a = fun (c: Console^{cap}) => val p = fun (x: Int) => c.print(x); fun (h: Int^{p}) => 1") (codes "a: (_0: Console^{cap}) -> (_1: Int) -> Int" ∷ []) refl;
  with_others = accepted 9 (codes "def a = fun (c: Console^{cap}) => val p = fun (x: Int) => c.print(x); fun (h: Int^{p, out}) => 1") (codes "a: (_0: Console^{cap}) -> (_1: Int^{out}) -> Int" ∷ []) refl;
  with_its_own_set = accepted 9 (codes "def a = fun (c: Console^{cap}) => val p = fun (x: Int) => c.print(x); fun (h: Int^{p, c}) => 1") (codes "a: (_0: Console^{cap}) -> (_1: Int^{_0}) -> Int" ∷ []) refl;
  with_cap = accepted 9 (codes "def a = fun (c: Console^{cap}) => val p = fun (x: Int) => c.print(x); fun (h: Int^{p, cap}) => 1") (codes "a: (_0: Console^{cap}) -> (_1: Int^{cap}) -> Int" ∷ []) refl;
  elsewhere = accepted 9 (codes "def a = fun (c: Console^{cap}) => val p = fun (x: Int) => c.print(x); fun (h: Int^{out}) => 1") (codes "a: (_0: Console^{cap}) -> (_1: Int^{out}) -> Int" ∷ []) refl;
  content = accepted 9 (codes "def a = fun (c: Console^{cap}) => val p = fun (x: Int) => c.print(x); fun (h: Box[Int^{p}]) => 1") (codes "a: (_0: Console^{cap}) -> (_1: Box[Int]) -> Int" ∷ []) refl;
  content_with_others = accepted 9 (codes "def a = fun (c: Console^{cap}) => val p = fun (x: Int) => c.print(x); fun (h: Box[Int^{p, " ++ codes "hits}]) => 1") (codes "a: (_0: Console^{cap}) -> (_1: Box[Int^{hits}]) -> Int" ∷ []) refl;
  result = accepted 9 (codes "def a = fun (c: Console^{cap}) => val p = fun (x: Int) => c.print(x); fun (h: (i: Int) -> " ++ codes "Int^{p, out}) => 1") (codes "a: (_0: Console^{cap}) -> (_1: (_1: Int) -> Int^{out}) -> Int" ∷ []) refl;
  content_of_a_result = accepted 9 (codes "def a = fun (c: Console^{cap}) => val p = fun (x: Int) => c.print(x); fun (h: (i: Int) -> " ++ codes "Box[Int^{p}]) => 1") (codes "a: (_0: Console^{cap}) -> (_1: (_1: Int) -> Box[Int]) -> Int" ∷ []) refl;
  result_of_a_type_function = accepted 9 (codes "def a = fun (c: Console^{cap}) => val p = fun (x: Int) => c.print(x); fun (h: [X <: Any] -> " ++ codes "Int^{p, out}) => 1") (codes "a: (_0: Console^{cap}) -> (_1: [_T1 <: Any] -> Int^{out}) -> Int" ∷ []) refl;
  content_of_the_result_of_a_type_function = accepted 9 (codes "def a = fun (c: Console^{cap}) => val p = fun (x: Int) => c.print(x); fun (h: [X <: Any] -> " ++ codes "Box[Int^{p}]) => 1") (codes "a: (_0: Console^{cap}) -> (_1: [_T1 <: Any] -> Box[Int]) -> Int" ∷ []) refl;
  parameter = accepted 9 (codes "def a = fun (c: Console^{cap}) => val p = fun (x: Int) => c.print(x); fun (h: (i: Int^{p, out}) " ++ codes "-> Int) => 1") (codes "a: (_0: Console^{cap}) -> (_1: (_1: Int^{out, _0}) -> Int) -> Int" ∷ []) refl;
  content_of_a_parameter = accepted 9 (codes "def a = fun (c: Console^{cap}) => val p = fun (x: Int) => c.print(x); fun (h: (i: Box[Int^{p}]) " ++ codes "-> Int) => 1") (codes "a: (_0: Console^{cap}) -> (_1: (_1: Box[Int^{_0}]) -> Int) -> Int" ∷ []) refl;
  parameter_of_a_type_function = accepted 9 (codes "def a = fun (c: Console^{cap}) => val p = fun (x: Int) => c.print(x); fun (h: [X <: Any] -> (i: " ++ codes "Int^{p}) -> Int) => 1") (codes "a: (_0: Console^{cap}) -> (_1: [_T1 <: Any] -> (_2: Int^{_0}) -> Int) -> Int" ∷ []) refl;
  set_of_a_function = accepted 9 (codes "def a = fun (c: Console^{cap}) => val p = fun (x: Int) => c.print(x); val q = fun (h: ((y: Int) " ++ codes "-> Unit)^{p, out}) => p(1); q") (codes "a: (_0: Console^{cap}) -> ((_1: ((_1: Int) -> Unit)^{out}) -> Unit)^{_0}" ∷ []) refl;
  set_of_a_function_with_cap = accepted 9 (codes "def a = fun (c: Console^{cap}) => val p = fun (x: Int) => c.print(x); val q = fun (h: ((y: Int) " ++ codes "-> Unit)^{cap, p}) => p(1); q") (codes "a: (_0: Console^{cap}) -> ((_1: ((_1: Int) -> Unit)^{cap}) -> Unit)^{_0}" ∷ []) refl;
  earlier_definition = accepted 9 (lines (codes "def f = fun (u: Unit) => out.print(1)" ∷ codes "def a = fun (h: Int^{f, hits}) => 1" ∷ [])) (codes "f: ((_0: Unit) -> Unit)^{out}" ∷ codes "a: (_0: Int^{hits}) -> Int" ∷ []) refl;
  earlier_definition_of_a_parameter = accepted 9 (lines (codes "def f = fun (u: Unit) => out.print(1)" ∷ codes "def a = fun (h: (k: Int^{f}) -> Int) => f(unit)" ∷ [])) (codes "f: ((_0: Unit) -> Unit)^{out}" ∷ codes "a: ((_0: (_0: Int^{out}) -> Int) -> Unit)^{out}" ∷ []) refl;
  earlier_definition_of_a_content = accepted 9 (lines (codes "def f = fun (u: Unit) => out.print(1)" ∷ codes "def a = box f" ∷ [])) (codes "f: ((_0: Unit) -> Unit)^{out}" ∷ codes "a: Box[((_0: Unit) -> Unit)^{out}]" ∷ []) refl;
  devices_stay = accepted 9 (codes "def a = fun (h: (k: Int^{out}) -> Int^{hits}) => 1") (codes "a: (_0: (_0: Int^{out}) -> Int^{hits}) -> Int" ∷ []) refl;
}

pub invariant : example.InvariantPlaces
unfolding text_computing
invariant = record {
  content_in_a_bound = refused 9 (codes "def a = fun (c: Console^{cap}) => val p = fun (x: Int) => c.print(x); fun [X <: Box[Int^{p}]] " ++ codes "=> 1") E17 (place 1 35) refl;
  content_in_an_exit = refused 9 (codes "def a = fun (c: Console^{cap}) => val p = fun (x: Int) => c.print(x); fun (e: " ++ codes "Exit[Box[Int^{p}]]) => 1") E17 (place 1 35) refl;
  content_of_a_content_in_a_bound = refused 9 (codes "def a = fun (c: Console^{cap}) => val p = fun (x: Int) => c.print(x); fun [X <: " ++ codes "Box[Box[Int^{p}]]] => 1") E17 (place 1 35) refl;
  content_of_a_content_in_an_exit = refused 9 (codes "def a = fun (c: Console^{cap}) => val p = fun (x: Int) => c.print(x); fun (e: " ++ codes "Exit[Box[Box[Int^{p}]]]) => 1") E17 (place 1 35) refl;
  parameter_in_a_bound = refused 9 (codes "def a = fun (c: Console^{cap}) => val p = fun (x: Int) => c.print(x); fun [X <: (i: Int^{p}) -> " ++ codes "Int] => 1") E17 (place 1 35) refl;
  parameter_in_an_exit = refused 9 (codes "def a = fun (c: Console^{cap}) => val p = fun (x: Int) => c.print(x); fun (e: Exit[(i: Int^{p}) " ++ codes "-> Int]) => 1") E17 (place 1 35) refl;
  content_of_a_parameter_in_a_bound = refused 9 (codes "def a = fun (c: Console^{cap}) => val p = fun (x: Int) => c.print(x); fun [X <: (i: " ++ codes "Box[Int^{p}]) -> Int] => 1") E17 (place 1 35) refl;
  content_of_a_parameter_in_an_exit = refused 9 (codes "def a = fun (c: Console^{cap}) => val p = fun (x: Int) => c.print(x); fun (e: Exit[(i: " ++ codes "Box[Int^{p}]) -> Int]) => 1") E17 (place 1 35) refl;
  result_in_a_bound = refused 9 (codes "def a = fun (c: Console^{cap}) => val p = fun (x: Int) => c.print(x); fun [X <: (i: Int) -> " ++ codes "Int^{p}] => 1") E17 (place 1 35) refl;
  result_in_an_exit = refused 9 (codes "def a = fun (c: Console^{cap}) => val p = fun (x: Int) => c.print(x); fun (e: Exit[(i: Int) -> " ++ codes "Int^{p}]) => 1") E17 (place 1 35) refl;
  content_of_a_result_in_a_bound = refused 9 (codes "def a = fun (c: Console^{cap}) => val p = fun (x: Int) => c.print(x); fun [X <: (i: Int) -> " ++ codes "Box[Int^{p}]] => 1") E17 (place 1 35) refl;
  content_of_a_result_in_an_exit = refused 9 (codes "def a = fun (c: Console^{cap}) => val p = fun (x: Int) => c.print(x); fun (e: Exit[(i: Int) -> " ++ codes "Box[Int^{p}]]) => 1") E17 (place 1 35) refl;
  bound_in_a_bound = refused 9 (codes "def a = fun (c: Console^{cap}) => val p = fun (x: Int) => c.print(x); fun [X <: [Y <: " ++ codes "Box[Int^{p}]] -> Int] => 1") E17 (place 1 35) refl;
  bound_in_an_exit = refused 9 (codes "def a = fun (c: Console^{cap}) => val p = fun (x: Int) => c.print(x); fun (e: Exit[[Y <: " ++ codes "Box[Int^{p}]] -> Int]) => 1") E17 (place 1 35) refl;
  result_of_a_type_function_in_a_bound = refused 9 (codes "def a = fun (c: Console^{cap}) => val p = fun (x: Int) => c.print(x); fun [X <: [Y <: Any] -> " ++ codes "Int^{p}] => 1") E17 (place 1 35) refl;
  result_of_a_type_function_in_an_exit = refused 9 (codes "def a = fun (c: Console^{cap}) => val p = fun (x: Int) => c.print(x); fun (e: Exit[[Y <: Any] " ++ codes "-> Int^{p}]) => 1") E17 (place 1 35) refl;
  content_of_the_result_of_a_type_function_in_a_bound = refused 9 (codes "def a = fun (c: Console^{cap}) => val p = fun (x: Int) => c.print(x); fun [X <: [Y <: Any] -> " ++ codes "Box[Int^{p}]] => 1") E17 (place 1 35) refl;
  content_of_the_result_of_a_type_function_in_an_exit = refused 9 (codes "def a = fun (c: Console^{cap}) => val p = fun (x: Int) => c.print(x); fun (e: Exit[[Y <: Any] " ++ codes "-> Box[Int^{p}]]) => 1") E17 (place 1 35) refl;
  exit_in_a_bound = refused 9 (codes "def a = fun (c: Console^{cap}) => val p = fun (x: Int) => c.print(x); fun [X <: " ++ codes "Exit[Box[Int^{p}]]] => 1") E17 (place 1 35) refl;
  exit_in_an_exit = refused 9 (codes "def a = fun (c: Console^{cap}) => val p = fun (x: Int) => c.print(x); fun (e: " ++ codes "Exit[Exit[Box[Int^{p}]]]) => 1") E17 (place 1 35) refl;
  bound_of_a_parameter = refused 9 (codes "def a = fun (c: Console^{cap}) => val p = fun (x: Int) => c.print(x); fun (f: [X <: " ++ codes "Box[Int^{p}]] -> Int) => 1") E17 (place 1 35) refl;
  bound_of_a_parameter_of_a_parameter = refused 9 (codes "def a = fun (c: Console^{cap}) => val p = fun (x: Int) => c.print(x); fun (f: (g: [X <: " ++ codes "Box[Int^{p}]] -> Int) -> Int) => 1") E17 (place 1 35) refl;
  bound_of_a_result = refused 9 (codes "def a = fun (c: Console^{cap}) => val p = fun (x: Int) => c.print(x); fun (u: Unit) => fun [X " ++ codes "<: Box[Int^{p}]] => 1") E17 (place 1 35) refl;
  exit_in_a_box = refused 9 (codes "def a = fun (c: Console^{cap}) => val p = fun (x: Int) => c.print(x); fun (b: " ++ codes "Box[Exit[Box[Int^{p}]]]) => 1") E17 (place 1 35) refl;
  exit_of_a_result = refused 9 (codes "def a = fun (c: Console^{cap}) => val p = fun (x: Int) => c.print(x); fun (f: (u: Unit) -> " ++ codes "Exit[Box[Int^{p}]]) => 1") E17 (place 1 35) refl;
  exit_of_the_result_of_a_type_function = refused 9 (codes "def a = fun (c: Console^{cap}) => val p = fun (x: Int) => c.print(x); fun (f: [X <: Any] -> " ++ codes "Exit[Box[Int^{p}]]) => 1") E17 (place 1 35) refl;
  bound_without_it = accepted 9 (codes "def a = fun (c: Console^{cap}) => val p = fun (x: Int) => c.print(x); fun [X <: Box[Int^{out}]] " ++ codes "=> fun (h: Int^{p}) => 1") (codes "a: (_0: Console^{cap}) -> [_T1 <: Box[Int^{out}]] -> (_2: Int) -> Int" ∷ []) refl;
  exit_without_it = accepted 9 (codes "def a = fun (c: Console^{cap}) => val p = fun (x: Int) => c.print(x); fun (e: " ++ codes "Exit[Box[Int^{c}]]^{p}) => 1") (codes "a: (_0: Console^{cap}) -> (_1: Exit[Box[Int^{_0}]]) -> Int" ∷ []) refl;
  set_of_an_exit = accepted 9 (codes "def a = fun (c: Console^{cap}) => val p = fun (x: Int) => c.print(x); fun (e: " ++ codes "Box[Exit[Int]^{p}]) => 1") (codes "a: (_0: Console^{cap}) -> (_1: Box[Exit[Int]]) -> Int" ∷ []) refl;
  other_name = accepted 9 (codes "def a = fun (c: Console^{cap}) => val q = 1; val p = fun (x: Int) => c.print(x); fun [X <: " ++ codes "Box[Int^{c}]] => fun (h: Int^{p, q}) => 1") (codes "a: (_0: Console^{cap}) -> [_T1 <: Box[Int^{_0}]] -> (_2: Int) -> Int" ∷ []) refl;
  earlier_definition = refused 9 (lines (codes "def f = fun (u: Unit) => u" ∷ codes "def a = fun (e: Exit[Box[Int^{f}]]) => 1" ∷ [])) E17 (place 2 5) refl;
}
