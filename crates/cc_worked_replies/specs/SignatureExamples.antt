-- Replies that show signatures, by example.
use Rattle.std.specs.Prelude.{codes, true, false, [], ◌∷◌}
use Rattle.std.specs.List.{flat_map}
use Rattle.cc_verdicts.specs.PresentTexts.{Texts}
use Rattle.cc_replies.specs.ReplyTexts.{line}
use Rattle.cc_replies.specs.Requests.{ShowSignature}
use Rattle.cc_worked_replies.specs.RunExamples.{printing, refused_module, three_modules}
use Rattle.cc_worked_replies.specs.TextReplies.{RepliesWith, console, console_and_counter, m, n}

-- a function that prints, one that calls it, one that calls both this and the counter, a function that gives what it
-- takes, and a number
abbrev pub tools : Texts
tools = (
  codes "tools",
  flat_map line
      (codes "def f = fun (x: Int) => out.print(x)"
      ∷ codes "def main = fun (u: Unit) => f(5)"
      ∷ codes "def next = fun (u: Unit) => val a = main(u); hits.tick()"
      ∷ codes "def same = fun (x: Int) => x"
      ∷ codes "def five = 5" ∷ []),
)
    ∷ []

-- Each definition has a line, in the order of the text. The type that is found for `main` captures `f`, and that of
-- `next` captures `main`; their signatures name devices alone.
abbrev pub DefinitionsAreShown : Type 0
DefinitionsAreShown =
    RepliesWith console_and_counter tools (ShowSignature (codes "tools"))
    (codes "sig tools" ∷ codes "  f: ((_0: Int) -> Unit)^{out}" ∷ codes "  main: ((_0: Unit) -> Unit)^{out}"
    ∷ codes "  next: ((_0: Unit) -> Int)^{out, hits}" ∷ codes "  same: (_0: Int) -> Int^{_0}" ∷ codes "  five: Int"
    ∷ []) false

-- So it is with imported definitions, which have no line in the module that imports them.
abbrev pub ImportingModuleIsShown : Type 0
ImportingModuleIsShown =
    RepliesWith console_and_counter three_modules (ShowSignature (codes "app"))
    (codes "sig app" ∷ codes "  main: ((_0: Unit) -> Unit)^{out, hits}" ∷ []) false

-- a module without a definition
abbrev pub nothing : Texts
nothing = (codes "empty", []) ∷ []

-- It has the head line alone.
abbrev pub NoDefinitionIsShown : Type 0
NoDefinitionIsShown = RepliesWith console nothing (ShowSignature (codes "empty")) (codes "sig empty" ∷ []) false

-- Why signatures are not shown.
pub record RefusedSignatures : Type 0 where
  pub no_module : RepliesWith console printing (ShowSignature n) (codes "sig n refused E32" ∷ []) true
  pub of_a_refused_module : RepliesWith console refused_module (ShowSignature m) (codes "sig m refused E34" ∷ []) true
