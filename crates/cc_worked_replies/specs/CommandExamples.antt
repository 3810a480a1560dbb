-- Replies to commands that put, remove and check modules and set rules, by example, and what a refused put changes.
use Rattle.std.specs.Prelude.{◌≡◌, ℕ, ◌<◌, ◌≤◌, codes, true, false, List, [], ◌∷◌, length, replicate, None}
use Rattle.std.specs.List.{flat_map}
use Rattle.cc_verdicts.specs.PresentTexts.{Texts, others_present}
use Rattle.cc_policy.specs.declared.policy.Rule.{Rule}
use Rattle.cc_replies.specs.Outputs.{IsOutput}
use Rattle.cc_replies.specs.RefusalExamples.{Answers}
use Rattle.cc_replies.specs.Replies.{after}
use Rattle.cc_replies.specs.ReplyTexts.{line}
use Rattle.cc_replies.specs.Requests.{CheckModules, PutText, DropModule, SetPolicy, Ask, JobState, holding}
use Rattle.cc_worked_replies.specs.RunExamples.{three_modules}
use Rattle.cc_worked_replies.specs.TextReplies.{RepliesWith, console_and_counter, m, one_module}

-- a text of one byte more than may be put
abbrev pub long_text : List ℕ
long_text = replicate 65537 32

-- Where no more modules may be present either, it is told of a text that is too long that it is so.
abbrev pub LengthsAreToldFirst : Type 0
LengthsAreToldFirst =
    Answers (replicate 256 (codes "a", [])) (PutText m long_text) (codes "put m refused E30" ∷ []) true

-- a module of one number
abbrev pub number : Texts
number = one_module (codes "def n = 5" ∷ [])

-- A module that gets a text which is too long keeps its own: it is checked, and is no module that is refused.
abbrev pub RefusedPutsAreNotSeen : Type 0
RefusedPutsAreNotSeen =
    IsOutput [] (holding number) (PutText m long_text ∷ Ask CheckModules ∷ [])
    (flat_map line (codes "put m refused E30" ∷ codes "check" ∷ codes "  m ok" ∷ [])) true

-- A text of more than 65,536 bytes changes nothing, and neither does one beside 256 modules of other names.
abbrev pub RefusedPutsChangeNothing : Type 0
RefusedPutsChangeNothing =
    ((state : JobState) (name text : List ℕ) → 65536 < length text → after state (PutText name text) ≡ state)
    × ((state : JobState) (name text : List ℕ) → 256 ≤ others_present name state.texts
    → after state (PutText name text) ≡ state)

-- a rule that denies everything
abbrev pub nothing : Rule
nothing = record { allow = false; «module» = None; device = None }

-- a module that is removed, one that gets another text, and rules that are set: the head line alone, and no refusal
pub record CommandsAreTold : Type 0 where
  pub dropped : Answers number (DropModule m) (codes "drop m" ∷ []) false
  pub put_again : Answers number (PutText m []) (codes "put m" ∷ []) false
  pub rules : Answers [] (SetPolicy (nothing ∷ nothing ∷ nothing ∷ [])) (codes "policy 3" ∷ []) false
  pub no_rules : Answers [] (SetPolicy []) (codes "policy 0" ∷ []) false

-- five modules: one that is no module, a number, one with a name that is not there, one that imports the number, and
-- one that imports what is not there
abbrev pub five_modules : Texts
five_modules =
    (codes "a", codes "def f = 1 2") ∷ (codes "b", codes "def g = 5") ∷ (codes "c", codes "def x = y")
    ∷ (codes "d", codes "import b.g") ∷ (codes "e", codes "import b.h") ∷ []

-- Each has a line, in order of name.
abbrev pub FiveModulesAreChecked : Type 0
FiveModulesAreChecked =
    RepliesWith [] five_modules CheckModules
    (codes "check" ∷ codes "  a E03 1:11" ∷ codes "  b ok" ∷ codes "  c E10 1:9" ∷ codes "  d ok" ∷ codes "  e E06 1:8"
    ∷ []) true

-- where all are accepted the reply tells of no refusal
abbrev pub ThreeModulesAreChecked : Type 0
ThreeModulesAreChecked =
    RepliesWith console_and_counter three_modules CheckModules
    (codes "check" ∷ codes "  app ok" ∷ codes "  counter ok" ∷ codes "  logger ok" ∷ []) false
