-- What is answered where a definition is asked for where it stands.
use Rattle.std.specs.Prelude.{◌≡◌, ◌<◌, ℕ, List, [], ◌∷◌, map, take, length, slice_get, Option, Some, None}
use Rattle.std.specs.Prelude.{Result, Ok, Err, if◌then◌else◌}
use Rattle.std.specs.Option.{unwrap_or}
use Rattle.std.specs.Str.{bytes_eq}
use Rattle.cc_base.specs.declared.code.Code.{Code}
use Rattle.cc_base.specs.declared.code.Code.TheVariants.{E32}
use Rattle.cc_base.specs.declared.device.DeviceDecl.{DeviceDecl}
use Rattle.cc_core.specs.TermViews.{context_of}
use Rattle.cc_judge.specs.Judgements.{Judgement}
use Rattle.cc_verdicts.specs.Readings.{imports_of}
use Rattle.cc_verdicts.specs.StandingDefinitions.{Standing, standing_context, standing_names, first_named}
use Rattle.cc_verdicts.specs.StandingDefinitions.{standing_by}
use Rattle.cc_module.specs.declared.judgement.CheckedDef.{CheckedDef}
use Rattle.cc_module.specs.Judgements.{checked_definition_of}
use Rattle.cc_session.specs.declared.standing.Standing.{Standing as DeclaredStanding}
use Rattle.cc_session.specs.declared.standing.StandingError.{StandingError}
use Rattle.cc_session.specs.declared.standing.StandingError.TheVariants as errors

-- this is the definition, with its context and the names of that
pub record IsStanding (devices : List DeviceDecl) (it : Standing) (answer : DeclaredStanding) : Type 0 where
  pub definition : checked_definition_of answer.def.now ≡ it.definition
  pub context : context_of answer.ctx ≡ standing_context devices it
  pub names : answer.names.items ≡ standing_names devices it

-- The definition is answered where there is one, and else why there is none. Memory is wanting only where there is one.
abbrev pub AnswersStanding : List DeviceDecl → Result Standing Code → Result DeclaredStanding StandingError → Type 0
AnswersStanding devices found (Ok answer) = (it : Standing) × (found ≡ Ok it) × IsStanding devices it answer
AnswersStanding devices found (Err (errors.Refused refused)) = found ≡ Err refused.code
AnswersStanding devices found (Err errors.NoMemory) = (it : Standing) × (found ≡ Ok it)

-- the judgement of the module, if it was judged
abbrev pub judgement_named : List ℕ → List Judgement → Option Judgement
judgement_named name [] = None
judgement_named name (first ∷ rest) = if bytes_eq name first.name then Some first else judgement_named name rest

-- the definition of a module that was judged so
abbrev pub standing_judged : List ℕ → Option Judgement → Result Standing Code
standing_judged name (Some one) = standing_by (unwrap_or (imports_of one.text) []) one.findings one.verdict name
standing_judged name None = Err E32

-- the definition by the last judgements
abbrev pub standing_last : List Judgement → List ℕ → List ℕ → Result Standing Code
standing_last last module_name name = standing_judged name (judgement_named module_name last)

-- the first definition of the name stands at the place
abbrev pub FindsAt : List ℕ → List CheckedDef → ℕ → Type 0
FindsAt name definitions place =
    (place < length definitions)
    × ((one : CheckedDef) → slice_get definitions place ≡ Some one
    → first_named name (map checked_definition_of definitions)
    ≡ Some (map checked_definition_of (take place definitions), checked_definition_of one))
