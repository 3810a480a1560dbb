-- Jobs with one reply that tells of a refusal, and such ones with none, where a limit is just kept; and verdicts of
-- present texts with what is written for them.
use Rattle.std.specs.Prelude.{◌≡◌, ℕ, Bool, true, false, List, [], ◌∷◌, ◌++◌, codes, map, replicate, refl}
use Rattle.std.specs.List.{flat_map}
use Rattle.cc_base.specs.Texts.{code_text}
use Rattle.cc_base.specs.declared.code.Code.TheVariants as code
use Rattle.cc_verdicts.specs.PresentTexts.{Texts}
use Rattle.cc_replies.specs.ReplyTexts.{line}
use Rattle.cc_replies.specs.Requests.{CheckModules, ShowSignature, Request, PutText, DropModule, Ask, holding}
use Rattle.cc_replies.specs.Outputs.{IsOutput}

-- the request alone, where these texts are present and no device is declared: the lines are written, and tell of a
-- refusal or of none
abbrev pub Answers : Texts → Request → List (List ℕ) → Bool → Type 0
Answers texts request lines refused = IsOutput [] (holding texts) (request ∷ []) (flat_map line lines) refused

abbrev pub m : List ℕ
m = codes "m"

-- a text of 65,537 bytes, and one of 65,536
abbrev pub LongTextIsRefused : Type 0
LongTextIsRefused = Answers [] (PutText m (replicate 65537 32)) (codes "put m refused E30" ∷ []) true

abbrev pub LongestTextIsPut : Type 0
LongestTextIsPut = Answers [] (PutText m (replicate 65536 32)) (codes "put m" ∷ []) false

-- a module beside 256 others, and one beside 255
abbrev pub ModuleTooManyIsRefused : Type 0
ModuleTooManyIsRefused = Answers (replicate 256 (codes "a", [])) (PutText m []) (codes "put m refused E31" ∷ []) true

abbrev pub LastModuleIsPut : Type 0
LastModuleIsPut = Answers (replicate 255 (codes "a", [])) (PutText m []) (codes "put m" ∷ []) false

-- a module that is not present: it is removed, or its signature is asked for
abbrev pub AbsentIsNotDropped : Type 0
AbsentIsNotDropped = Answers [] (DropModule m) (codes "drop m refused E32" ∷ []) true

abbrev pub AbsentHasNoSignature : Type 0
AbsentHasNoSignature = Answers [] (Ask (ShowSignature m)) (codes "sig m refused E32" ∷ []) true

-- no module is present
abbrev pub NothingIsRefused : Type 0
NothingIsRefused = Answers [] (Ask CheckModules) (codes "check" ∷ []) false

-- a text that is no module: it is checked, or its signature is asked for
abbrev pub no_module : Texts
no_module = (m, codes "def f = 1 2") ∷ []

abbrev pub NoModuleIsRefused : Type 0
NoModuleIsRefused = Answers no_module (Ask CheckModules) (codes "check" ∷ codes "  m E03 1:11" ∷ []) true

abbrev pub RefusedHasNoSignature : Type 0
RefusedHasNoSignature = Answers no_module (Ask (ShowSignature m)) (codes "sig m refused E34" ∷ []) true

-- Two modules that import from each other are in a cycle, as one that imports from itself is. One that imports from
-- them is in none, and is refused since they are.
abbrev pub cycle : Texts
cycle =
    (codes "a", codes "import b.g") ∷ (codes "b", codes "import a.f") ∷ (codes "c", codes "import c.f")
    ∷ (codes "d", codes "import a.f") ∷ []

abbrev pub CyclesAreRefused : Type 0
CyclesAreRefused =
    Answers cycle (Ask CheckModules)
    (codes "check" ∷ codes "  a E08 1:8" ∷ codes "  b E08 1:8" ∷ codes "  c E08 1:8" ∷ codes "  d E07 1:8" ∷ []) true

-- Of two imports the first for which nothing is found decides, at its module's name.
abbrev pub two_imports : Texts
two_imports = (codes "a", codes "def f = 1 2") ∷ (codes "b", codes "import a.f" ++ 10 ∷ codes "import x.f") ∷ []

abbrev pub RefusedBeforeAbsent : Type 0
RefusedBeforeAbsent =
    Answers two_imports (Ask CheckModules) (codes "check" ∷ codes "  a E03 1:11" ∷ codes "  b E07 1:8" ∷ []) true

-- how each code is written
pub code_texts :
    map code_text (
    code.E01 ∷ code.E02 ∷ code.E03 ∷ code.E04 ∷ code.E05 ∷ code.E06 ∷ code.E07 ∷ code.E08 ∷ code.E09 ∷ code.E10 ∷
    code.E11 ∷ code.E12 ∷ code.E13 ∷ code.E14 ∷ code.E15 ∷ code.E16 ∷ code.E17 ∷ code.E18 ∷ code.E19 ∷
    code.E30 ∷ code.E31 ∷ code.E32 ∷ code.E33 ∷ code.E34 ∷ code.E35 ∷ code.E36 ∷ code.E37 ∷ [])
    ≡ codes "E01" ∷ codes "E02" ∷ codes "E03" ∷ codes "E04" ∷ codes "E05" ∷ codes "E06" ∷ codes "E07" ∷ codes "E08"
    ∷ codes "E09" ∷ codes "E10" ∷ codes "E11" ∷ codes "E12" ∷ codes "E13" ∷ codes "E14" ∷ codes "E15" ∷ codes "E16"
    ∷ codes "E17" ∷ codes "E18" ∷ codes "E19" ∷ codes "E30" ∷ codes "E31" ∷ codes "E32" ∷ codes "E33"
    ∷ codes "E34" ∷ codes "E35" ∷ codes "E36" ∷ codes "E37" ∷ []
code_texts = refl
