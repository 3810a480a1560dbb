-- The laws of what is vouched for.
use Rattle.std.specs.Prelude.{◌≡◌, ◌↔◌, ℕ, List, [], map, reverse, IsTrue, None}
use Rattle.std.specs.List.{AllByRecursion, IsDistinct}
use Rattle.std.specs.Option.{unwrap_or}
use Rattle.std.specs.Str.{bytes_eq}
use Rattle.cc_base.specs.declared.device.DeviceDecl.{DeviceDecl}
use Rattle.cc_core.specs.Programs.{Definition, AreTyped, is_definable, NamesDevicesOnly}
use Rattle.cc_device.specs.Declarations.{declared_bases}
use Rattle.cc_mnf.specs.ElaboratedModules.{CoreDefinition}
use Rattle.cc_verdicts.specs.ModuleLaws.{NamesOfDevicesDiffer, IsOverDevices, FitsDevices}
use Rattle.cc_verdicts.specs.ModuleVerdicts.{Finding, declared_context, with_findings}
use Rattle.cc_verdicts.specs.Readings.{imports_of}
use Rattle.cc_certificate_judging.specs.CertificateParts.{CertificateBind}
use Rattle.cc_vouching.specs.Submissions.{Claim, ClaimedModule, Submission, IsSubmission, IsBadAt}
use Rattle.cc_vouching.specs.VouchedDefinitions.{Outcome, Surroundings, HasOutcome, first_difference}
use Rattle.cc_vouching.specs.VouchedModules.{Answer, Vouches, Answered, vouched_findings, HasAnswer, HaveAnswers}
use Rattle.cc_vouching.specs.VouchingReplies.{IsReplied}

-- two lists of binds have no first difference exactly where they are one
abbrev pub DifferencesAreFound : Type 0
DifferencesAreFound = (one other : List CertificateBind) → (first_difference one other ≡ None) ↔ (one ≡ other)

-- a definition has an outcome
abbrev pub OutcomesExist : Type 0
OutcomesExist =
    (it : Surroundings) (definition : CoreDefinition) (claims : List Claim)
    → (outcome : Outcome) × HasOutcome it definition claims outcome

-- and no other, so that each reason is told exactly where it is so
abbrev pub OutcomesAreUnique : Type 0
OutcomesAreUnique =
    (it : Surroundings) (definition : CoreDefinition) (claims : List Claim) (first second : Outcome)
    → HasOutcome it definition claims first → HasOutcome it definition claims second → first ≡ second

-- a module has an answer
abbrev pub AnswersExist : Type 0
AnswersExist =
    (devices : List DeviceDecl) (answered : Answered) (it : ClaimedModule)
    → (answer : Answer) × HasAnswer devices answered it answer

-- and no other
abbrev pub AnswersAreUnique : Type 0
AnswersAreUnique =
    (devices : List DeviceDecl) (answered : Answered) (it : ClaimedModule) (first second : Answer)
    → HasAnswer devices answered it first → HasAnswer devices answered it second → first ≡ second

-- modules in order have answers
abbrev pub AllAnswersExist : Type 0
AllAnswersExist =
    (devices : List DeviceDecl) (answered : Answered) (modules : List ClaimedModule)
    → (answers : List Answer) × HaveAnswers devices answered modules answers

-- and no others
abbrev pub AllAnswersAreUnique : Type 0
AllAnswersAreUnique =
    (devices : List DeviceDecl) (answered : Answered) (modules : List ClaimedModule) (first second : List Answer)
    → HaveAnswers devices answered modules first → HaveAnswers devices answered modules second → first ≡ second

-- What holds of the definitions of a module for whose imports this is found: their names differ; each is a value, and a
-- recursive one a function; each signature is over the devices; and each definition has by the declarative rules the type
-- of its signature, in the context of the devices, of what is found for the imports, and of the signatures before it.
pub record AreSound (devices : List DeviceDecl) (findings : List Finding) (definitions : List Definition) : Type 0 where
  pub names : NamesOfDevicesDiffer devices → IsDistinct bytes_eq (map (λ one. one.name) definitions)
  pub values : AllByRecursion (λ one. IsTrue (is_definable one)) definitions
  pub over_devices : AllByRecursion (λ one. IsOverDevices devices one.signature) definitions
  pub name_devices : AllByRecursion (λ one. NamesDevicesOnly (declared_bases devices) one.signature) definitions
  pub typed : AreTyped (with_findings (declared_context devices) findings) (reverse definitions)

-- the signatures that are found are over the devices
abbrev pub AreOverDevices : List DeviceDecl → List Finding → Type 0
AreOverDevices devices findings = AllByRecursion (FitsDevices devices) findings

-- What is vouched for is typed: it is sound with what was vouched for before it.
abbrev pub VouchedModulesAreSound : Type 0
VouchedModulesAreSound =
    (devices : List DeviceDecl) (answered : Answered) (it : ClaimedModule) (definitions : List Definition)
    → HasAnswer devices answered it (Vouches definitions)
    → AreSound devices (vouched_findings answered (unwrap_or (imports_of it.source) [])) definitions
