-- Whole outputs of jobs, by example: a chain of modules is put and checked, its first module changes, and what calls it is
-- run.
use Rattle.std.specs.Prelude.{ℕ, codes, false, List, [], ◌∷◌, ◌++◌}
use Rattle.std.specs.List.{flat_map}
use Rattle.cc_replies.specs.Outputs.{IsOutput}
use Rattle.cc_replies.specs.ReplyTexts.{line}
use Rattle.cc_replies.specs.Requests.{Request, PutText, CheckModules, RunDefinition, Ask, no_module}
use Rattle.cc_worked_replies.specs.TextReplies.{console_and_counter, main}

-- the first module prints, and when it has changed it counts too
abbrev pub printing_text : List ℕ
printing_text = line (codes "def f1 = fun (x: Int) => out.print(x)")

abbrev pub counting_text : List ℕ
counting_text = line (codes "def f1 = fun (x: Int) => val n = hits.tick(); out.print(x)")

-- what calls the first module, and what calls the second
abbrev pub first_call : List ℕ
first_call = line (codes "import m1.f1") ++ line (codes "def main = fun (u: Unit) => f1(0)")

abbrev pub second_call : List ℕ
second_call = line (codes "import m2.f2") ++ line (codes "def main = fun (u: Unit) => f2(0)")

-- the second module calls the first
abbrev pub second_text : List ℕ
second_text = line (codes "import m1.f1") ++ line (codes "def f2 = fun (x: Int) => f1(x + 2)")

-- what is asked once all modules are there
abbrev pub asked_behind : List Request
asked_behind =
    Ask CheckModules ∷ PutText (codes "m1") counting_text ∷ Ask CheckModules ∷ Ask (RunDefinition (codes "app") main 1000000) ∷ []

-- The output with one module beside the one that calls it.
abbrev pub OutputOfOneModule : Type 0
OutputOfOneModule =
    IsOutput console_and_counter no_module
    (PutText (codes "m1") printing_text ∷ PutText (codes "app") first_call ∷ asked_behind)
    (flat_map line
    (codes "put m1" ∷ codes "put app" ∷ codes "check" ∷ codes "  app ok" ∷ codes "  m1 ok" ∷ codes "put m1" ∷ codes "check"
    ∷ codes "  app ok" ∷ codes "  m1 ok" ∷ codes "run app.main" ∷ codes "  authority {out, hits}" ∷ codes "  hits tick 1"
    ∷ codes "  out print 0" ∷ codes "  done unit after 7 steps" ∷ [])) false

-- The output with two.
abbrev pub OutputOfTwoModules : Type 0
OutputOfTwoModules =
    IsOutput console_and_counter no_module
    (PutText (codes "m1") printing_text ∷ PutText (codes "m2") second_text ∷ PutText (codes "app") second_call ∷ asked_behind)
    (flat_map line
    (codes "put m1" ∷ codes "put m2" ∷ codes "put app" ∷ codes "check" ∷ codes "  app ok" ∷ codes "  m1 ok" ∷ codes "  m2 ok"
    ∷ codes "put m1" ∷ codes "check" ∷ codes "  app ok" ∷ codes "  m1 ok" ∷ codes "  m2 ok" ∷ codes "run app.main"
    ∷ codes "  authority {out, hits}" ∷ codes "  hits tick 1" ∷ codes "  out print 2" ∷ codes "  done unit after 12 steps"
    ∷ [])) false
