-- What omitted sets are filled with, by computation.
use Rattle.std.proofs.Common.{◌≡◌, refl, ℕ, List, [], ◌∷◌, map, Option, Some, None, codes}
use Rattle.cc_core.specs.Terms.{Term}
use Rattle.cc_verdicts.specs.ModuleVerdicts.{ModuleVerdict, IsAccepted, IsRefused, HasModuleVerdict}
use Rattle.cc_worked_texts.specs.TextVerdicts.{devices, lines}
use Rattle.cc_worked_texts.specs.FilledTexts.{FillsTo}
use Rattle.cc_worked_texts.specs.FilledTexts as example
use Rattle.cc_worked_texts.proofs.ComputedModules.{text_computing, accepted, text_verdict_in, text_verdict_in_steps}

-- the filled right sides, where the text is accepted
abbrev filled_in : Option ModuleVerdict → Option (List Term)
filled_in None = None
filled_in (Some (IsRefused code at)) = None
filled_in (Some (IsAccepted list)) = Some (map (λ it. it.accepted.filled) list)

same_terms : {a b : List Term} → Some a ≡ Some b → a ≡ b
same_terms e = cc

by_verdict : (text : List ℕ) (filled : List Term) (found : Option ModuleVerdict) → ((v : ModuleVerdict) → found ≡ Some v → HasModuleVerdict devices text [] v)
    → filled_in found ≡ Some filled → FillsTo text filled
by_verdict text filled None has e = cc
by_verdict text filled (Some (IsRefused code at)) has e = cc
by_verdict text filled (Some (IsAccepted list)) has e = (list, has (IsAccepted list) refl, same_terms e)

-- a text is filled so where that is found
fills : (n : ℕ) (text : List ℕ) (filled : List Term) → filled_in (text_verdict_in devices n [] text) ≡ Some filled → FillsTo text filled
fills n text filled e = by_verdict text filled (text_verdict_in devices n [] text) (λ v is. text_verdict_in_steps devices n [] text v is) e

pub filled_forms : example.FilledForms
unfolding text_computing
filled_forms = record {
  val = fills 9 (codes "def a = fun (x: Int) => val y: Int^? = x; y") _ refl;
  val_of_a_term = fills 9 (codes "def a = fun (x: Int) => fun (y: Int) => val z: Any^? = (val w = y; x); z") _ refl;
  choice = fills 9 (codes "def a = fun (x: Int) => fun (y: Int) => fun (t: Bool) => if [Int^?] t then x else y") _ refl;
  choice_of_the_first = fills 9 (codes "def a = fun (x: Int) => fun (t: Bool) => if [Int^?] t then x else 1") _ refl;
  choice_of_the_second = fills 9 (codes "def a = fun (x: Int) => fun (t: Bool) => if [Int^?] t then 1 else x") _ refl;
  written_choice = fills 9 (codes "def a = fun (x: Int) => fun (t: Bool) => if [Int^{t, x}] t then x else 1") _ refl;
  unboxing = fills 9 (codes "def a = fun (x: Int) => fun (b: Box[Int^{x}]) => unbox b") _ refl;
  unboxing_of_nothing = fills 9 (codes "def a = fun (b: Box[Int]) => unbox b") _ refl;
  parameter = fills 9 (codes "def a = fun (x: Int^{cap}) => val f = fun (y: Int^?) => y; f(x)") _ refl;
  parameter_to_which_nothing_flows = fills 9 (codes "def a = fun (y: Int^?) => y") _ refl;
  exit = fills 9 (codes "def a = fun (x: Int) => boundary [Int] z => exit [Int^{x}] (z, 1)") _ refl;
  in_a_type_function = fills 9 (codes "def a = fun [X <: Any] => fun (x: Int) => val y: Int^? = x; y") _ refl;
  behind_another_definition = fills 9 (lines (codes "def a = 1" ∷ codes "def b = fun (x: Int) => fun (f: Int^?) => x + a" ∷ [])) _ refl;
}

pub sets_apart : example.SetsApart
unfolding text_computing
sets_apart = record {
  first = accepted 9 (lines (codes "def main = fun (u: Unit) =>" ∷ codes "  val a = fun (h: Console^?) => 1; val b = fun (h: Counter^?) => 1; val d = fun (h: Counter^?) => 1;" ∷ codes "  val p = a(out); val q = b(hits); a" ∷ [])) (codes "main: ((_0: Unit) -> (_1: Console^{out}) -> Int)^{out, hits}" ∷ []) refl;
  second = accepted 9 (lines (codes "def main = fun (u: Unit) =>" ∷ codes "  val a = fun (h: Console^?) => 1; val b = fun (h: Counter^?) => 1; val d = fun (h: Counter^?) => 1;" ∷ codes "  val p = a(out); val q = b(hits); b" ∷ [])) (codes "main: ((_0: Unit) -> (_1: Counter^{hits}) -> Int)^{out, hits}" ∷ []) refl;
  third = accepted 9 (lines (codes "def main = fun (u: Unit) =>" ∷ codes "  val a = fun (h: Console^?) => 1; val b = fun (h: Counter^?) => 1; val d = fun (h: Counter^?) => 1;" ∷ codes "  val p = a(out); val q = b(hits); d" ∷ [])) (codes "main: ((_0: Unit) -> (_1: Counter) -> Int)^{out, hits}" ∷ []) refl;
}
