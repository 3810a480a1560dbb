-- What is answered to the tree of a module. It serves the code alone.
use Rattle.std.specs.Prelude.{◌≡◌, ℕ, List, ◌++◌, map, None}
use Rattle.cc_base.specs.declared.device.DeviceDecl.{DeviceDecl}
use Rattle.cc_core.specs.declared.types.Ty.{Ty}
use Rattle.cc_grammar.specs.Syntax.{ModuleSyntax}
use Rattle.cc_verdicts.specs.ModuleVerdicts.{first_missing}
use Rattle.cc_verdicts.specs.Readings.{IsTree, HasReading}
use Rattle.cc_vouching.specs.Submissions.{Claim, ClaimedModule}
use Rattle.cc_vouching.specs.VouchedDefinitions.{device_bind, import_binds}
use Rattle.cc_vouching.specs.VouchedModules.{Answer, Answered, vouched_findings, HasAnswer}
use Rattle.cc_vouch.specs.BindViews.{binds_of}
use Rattle.cc_module_vouching.specs.KeptFindings.{KeepsAnswers}
use Rattle.cc_module_vouching.specs.declared.answered.AnsweredModules.{AnsweredModules}

-- That is answered to each module with the tree and the claims, behind modules of which this is known.
abbrev pub AnswersTree : List DeviceDecl → AnsweredModules → ModuleSyntax → List Claim → Answer → Type 0
AnswersTree devices modules tree claims answer =
    (answered : Answered) (it : ClaimedModule) → KeepsAnswers modules answered → HasReading it.source (IsTree tree)
    → it.claims ≡ claims → HasAnswer devices answered it answer

-- The same behind modules in which a definition is found for each import, where these binds stand before the definitions.
abbrev pub AnswersFound : List DeviceDecl → List (List ℕ × Ty) → ModuleSyntax → List Claim → Answer → Type 0
AnswersFound devices known tree claims answer =
    (answered : Answered) (it : ClaimedModule)
    → binds_of known ≡ map device_bind devices ++ import_binds tree.imports (vouched_findings answered tree.imports)
    → first_missing tree.imports (vouched_findings answered tree.imports) ≡ None → HasReading it.source (IsTree tree)
    → it.claims ≡ claims → HasAnswer devices answered it answer
