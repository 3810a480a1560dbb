-- Replies that explain signatures, by example.
use Rattle.std.specs.Prelude.{ℕ, codes, true, false, List, [], ◌∷◌}
use Rattle.std.specs.List.{flat_map}
use Rattle.cc_verdicts.specs.PresentTexts.{Texts}
use Rattle.cc_replies.specs.ReplyTexts.{line}
use Rattle.cc_replies.specs.Requests.{ExplainDefinition}
use Rattle.cc_worked_replies.specs.RunExamples.{printing, refused_module, three_modules}
use Rattle.cc_worked_replies.specs.TextReplies.{RepliesWith, console, console_and_counter, m, n, main, one_module}

-- Each device is explained by the definition that brings it in.
abbrev pub ThreeModulesExplained : Type 0
ThreeModulesExplained =
    RepliesWith console_and_counter three_modules (ExplainDefinition (codes "app") main)
    (codes "explain app.main" ∷ codes "  out: app.main logger.line out" ∷ codes "  hits: app.main counter.next hits" ∷ []) false

-- four modules, each of which calls the one before it
abbrev pub chain : Texts
chain =
    (codes "app", flat_map line (codes "import m3.f3" ∷ codes "def main = fun (u: Unit) => f3(0)" ∷ []))
    ∷ (codes "m1", line (codes "def f1 = fun (x: Int) => out.print(x)"))
    ∷ (codes "m2", flat_map line (codes "import m1.f1" ∷ codes "def f2 = fun (x: Int) => f1(x + 2)" ∷ []))
    ∷ (codes "m3", flat_map line (codes "import m2.f2" ∷ codes "def f3 = fun (x: Int) => f2(x + 3)" ∷ []))
    ∷ []

abbrev pub ChainExplained : Type 0
ChainExplained =
    RepliesWith console_and_counter chain (ExplainDefinition (codes "app") main)
    (codes "explain app.main" ∷ codes "  out: app.main m3.f3 m2.f2 m1.f1 out" ∷ []) false

-- a function that takes one with any set, one that calls it, and a number
abbrev pub universal : Texts
universal =
    one_module
    (codes "def any: ((f: ((u: Unit) -> Unit)^{cap}) -> Unit)^{cap} = fun (f: ((u: Unit) -> Unit)^{cap}) => f(unit)"
    ∷ codes "def five = 5" ∷ [])

-- The universal capability is an element as a device is. A definition whose set is empty has the head line alone.
pub record UniversalExplained : Type 0 where
  pub any : RepliesWith console universal (ExplainDefinition m (codes "any"))
      (codes "explain m.any" ∷ codes "  cap: m.any cap" ∷ []) false
  pub none : RepliesWith console universal (ExplainDefinition m (codes "five")) (codes "explain m.five" ∷ []) false

-- Why a signature is not explained.
pub record RefusedExplanations : Type 0 where
  pub no_module : RepliesWith console printing (ExplainDefinition n main) (codes "explain n.main refused E32" ∷ []) true
  pub no_definition : RepliesWith console printing (ExplainDefinition m (codes "none"))
      (codes "explain m.none refused E33" ∷ []) true
  pub of_a_refused_module : RepliesWith console refused_module (ExplainDefinition m main)
      (codes "explain m.main refused E34" ∷ []) true
