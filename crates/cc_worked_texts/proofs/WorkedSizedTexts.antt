-- Texts with types of the greatest size, and with larger ones.
use Rattle.std.proofs.Common.{refl, codes, ◌++◌}
use Rattle.cc_base.specs.declared.code.Code.TheVariants.{E18}
use Rattle.cc_worked_texts.specs.SizedTexts.{large}
use Rattle.cc_worked_texts.specs.TextVerdicts.{place, repeated, tower, Refuses}
use Rattle.cc_worked_texts.specs.SizedTexts as example
use Rattle.cc_worked_texts.proofs.ComputedModules.{text_computing, refused}

application_row : Refuses (codes "def a = fun [X <: Any] => fun (g: (u: Unit) -> " ++ large ++ codes ") => fun (v: Unit) => (g(v))") E18 (place 1 14409)
unfolding text_computing
application_row = refused 9 (codes "def a = fun [X <: Any] => fun (g: (u: Unit) -> " ++ large ++ codes ") => fun (v: Unit) => (g(v))") E18 (place 1 14409) refl

boundary_row : Refuses (codes "def a = fun [X <: Any] => (boundary [" ++ large ++ codes "] z => fun (a: Any) => 1)") E18 (place 1 27)
unfolding text_computing
boundary_row = refused 9 (codes "def a = fun [X <: Any] => (boundary [" ++ large ++ codes "] z => fun (a: Any) => 1)") E18 (place 1 27) refl

exit_row : Refuses (codes "def a = fun [X <: Any] => fun (e: Exit[Int]) => fun (n: Int) => (exit [" ++ large ++ codes "] (e, n))") E18 (place 1 65)
unfolding text_computing
exit_row = refused 9 (codes "def a = fun [X <: Any] => fun (e: Exit[Int]) => fun (n: Int) => (exit [" ++ large ++ codes "] (e, n))") E18 (place 1 65) refl

choice_row : Refuses (codes "def a = fun [X <: Any] => fun (b: Bool) => (if [" ++ large ++ codes "] b then fun (a: Any) => 1 else fun (a: Any) => 1)") E18 (place 1 44)
unfolding text_computing
choice_row = refused 9 (codes "def a = fun [X <: Any] => fun (b: Bool) => (if [" ++ large ++ codes "] b then fun (a: Any) => 1 else fun (a: Any) => 1)") E18 (place 1 44) refl

choice_of_an_omitted_set_row : Refuses (codes "def a = fun [X <: Any] => fun (b: Bool) => (if [(" ++ large ++ codes ")^?] b then fun (a: Any) => 1 else fun (a: Any) => 1)") E18 (place 1 44)
unfolding text_computing
choice_of_an_omitted_set_row = refused 9 (codes "def a = fun [X <: Any] => fun (b: Bool) => (if [(" ++ large ++ codes ")^?] b then fun (a: Any) => 1 else fun (a: Any) => 1)") E18 (place 1 44) refl

pub written : example.WrittenSizes
written = record {
  application = application_row;
  boundary = boundary_row;
  exit = exit_row;
  choice = choice_row;
  choice_of_an_omitted_set = choice_of_an_omitted_set_row;
}

pub terms : example.SizedTerms
unfolding text_computing
terms = record {
  variable = refused 9 (codes "def a = fun (f: [X <: Any] -> Box[" ++ tower 6 (codes "X") ++ codes "]) => val y = f[" ++ tower 5 (codes "Int") ++ codes "]; (y)") E18 (place 1 1060) refl;
  function = refused 9 (codes "def a = fun (f: [X <: Any] -> " ++ tower 6 (codes "X") ++ codes ") => (fun (u: Unit) => f[" ++ tower 5 (codes "Int") ++ codes "])") E18 (place 1 667) refl;
  type_function = refused 9 (codes "def a = fun (f: [X <: Any] -> " ++ tower 6 (codes "X") ++ codes ") => (fun [Y <: Any] => f[" ++ tower 5 (codes "Int") ++ codes "])") E18 (place 1 667) refl;
  val = refused 9 (codes "def a = fun (f: [X <: Any] -> " ++ repeated 63 (codes "Box[") ++ tower 6 (codes "X") ++ repeated 63 (codes "]") ++ codes "^{out, hits}) => (val p = f[" ++ repeated 31 (codes "Box[") ++ tower 4 (codes "Int") ++ repeated 31 (codes "]") ++ codes "]; box p)") E18 (place 1 994) refl;
  val_of_one_less = refused 9 (codes "def a = fun (f: [X <: Any] -> " ++ repeated 62 (codes "Box[") ++ tower 6 (codes "X") ++ repeated 62 (codes "]") ++ codes "^{out, hits}) => (val p = f[" ++ repeated 31 (codes "Box[") ++ tower 4 (codes "Int") ++ repeated 31 (codes "]") ++ codes "]; box p)") E18 (place 1 9) refl;
  unboxing = refused 9 (codes "def a = fun (f: [X <: Any] -> " ++ repeated 63 (codes "Box[") ++ tower 6 (codes "X") ++ repeated 63 (codes "]") ++ codes ") => val y = f[" ++ repeated 31 (codes "Box[") ++ tower 4 (codes "Int") ++ repeated 31 (codes "]") ++ codes "]; val b = box y; (unbox {y, out, hits} b)") E18 (place 1 1348) refl;
  unboxing_of_one_less = refused 9 (codes "def a = fun (f: [X <: Any] -> " ++ repeated 63 (codes "Box[") ++ tower 6 (codes "X") ++ repeated 63 (codes "]") ++ codes ") => val y = f[" ++ repeated 31 (codes "Box[") ++ tower 4 (codes "Int") ++ repeated 31 (codes "]") ++ codes "]; val b = box y; (unbox {y, out} b)") E18 (place 1 9) refl;
}
