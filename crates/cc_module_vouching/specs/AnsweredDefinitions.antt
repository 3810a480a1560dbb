-- What comes of the definitions of a module where what is known of them is a list. It serves the code alone.
use Rattle.std.specs.Prelude.{◌≡◌, ℕ, List, [], ◌∷◌, ◌++◌, map, length, Option, Some, None}
use Rattle.cc_base.specs.declared.device.DeviceDecl.{DeviceDecl}
use Rattle.cc_core.specs.TermViews.{type_of}
use Rattle.cc_core.specs.declared.types.Ty.{Ty}
use Rattle.cc_grammar.specs.Syntax.{ImportSyntax}
use Rattle.cc_mnf.specs.ElaboratedModules.{CoreDefinition}
use Rattle.cc_verdicts.specs.ModuleVerdicts.{Finding}
use Rattle.cc_vouching.specs.Submissions.{Claim}
use Rattle.cc_vouching.specs.VouchedDefinitions.{Outcome, IsVouchedFor, IsNotVouchedFor, Surroundings, device_bind, import_binds, HasOutcome}
use Rattle.cc_vouching.specs.VouchedModules.{Answer, AreAnswered}
use Rattle.cc_vouch.specs.BindViews.{binds_of}
use Rattle.cc_vouch.specs.OutcomeLaws.{standing_binds}
use Rattle.cc_vouch.specs.VouchViews.{definition_of, reason_of}
use Rattle.cc_vouch.specs.declared.definitions.Reason.{Reason}
use Rattle.cc_vouch.specs.declared.definitions.Vouched.{Vouched}

-- That comes of a definition wherever so many devices are declared and these binds stand before it.
abbrev pub ComesOf : ℕ → List (List ℕ × Ty) → CoreDefinition → List Claim → Outcome → Type 0
ComesOf devices known definition claims outcome =
    (it : Surroundings) → length it.devices ≡ devices → standing_binds it ≡ binds_of known
    → HasOutcome it definition claims outcome

-- one definition more is vouched for: it is put behind the others, and its bind behind those that are known
pub record IsVouchedNext (devices : ℕ) (claims : List Claim) (definition : CoreDefinition) (known : List (List ℕ × Ty))
    (vouched : List Vouched) (more : List (List ℕ × Ty)) (longer : List Vouched) : Type 0 where
  pub next : Vouched
  pub comes : ComesOf devices known definition claims (IsVouchedFor (definition_of next))
  pub grown : binds_of more ≡ binds_of known ++ (next.name, type_of next.sig) ∷ []
  pub put : longer ≡ vouched ++ next ∷ []

-- One definition more is vouched for, or this is the reason why it is not.
abbrev pub GoesOn : ℕ → List Claim → CoreDefinition → List (List ℕ × Ty) → List Vouched → List (List ℕ × Ty)
    → List Vouched → Option Reason → Type 0
GoesOn devices claims definition known vouched more longer None =
    IsVouchedNext devices claims definition known vouched more longer
GoesOn devices claims definition known vouched more longer (Some reason) =
    ComesOf devices known definition claims (IsNotVouchedFor (reason_of reason))

-- So many devices are declared, and these binds are those of the devices and of what is found for the imports.
pub record StartsWith (size : ℕ) (known : List (List ℕ × Ty)) (devices : List DeviceDecl) (imports : List ImportSyntax)
    (findings : List Finding) : Type 0 where
  pub counted : length devices ≡ size
  pub bound : binds_of known ≡ map device_bind devices ++ import_binds imports findings

-- That is answered to the definitions of a module wherever these binds stand before the first.
abbrev pub AnswersAll : ℕ → List (List ℕ × Ty) → List Claim → List CoreDefinition → Answer → Type 0
AnswersAll size known claims definitions answer =
    (devices : List DeviceDecl) (imports : List ImportSyntax) (findings : List Finding)
    → StartsWith size known devices imports findings
    → AreAnswered devices imports findings claims [] definitions answer
