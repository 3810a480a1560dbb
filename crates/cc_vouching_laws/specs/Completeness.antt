-- What is accepted is vouched for: an accepted module, with the certificates that are written for its definitions.
use Rattle.std.specs.Prelude.{◌≡◌, ℕ, ◌≤◌, List, [], ◌∷◌, ◌++◌, map, Some}
use Rattle.cc_base.specs.declared.device.DeviceDecl.{DeviceDecl}
use Rattle.cc_grammar.specs.Syntax.{ImportSyntax}
use Rattle.cc_checking.specs.DerivationSizes.{nodes}
use Rattle.cc_checking_laws.specs.AcceptedDefinitions.{accepted_derived}
use Rattle.cc_verdicts.specs.ModuleVerdicts.{Finding, CheckedDefinition, ModuleVerdict, IsAccepted, in_program}
use Rattle.cc_verdicts.specs.PresentTexts.{Texts, ArePresent, text_of, findings_for, AreVerdicts}
use Rattle.cc_verdicts.specs.Readings.{imports_of}
use Rattle.cc_verdicts.specs.StandingDefinitions.{context_behind, names_behind}
use Rattle.cc_certificate_writing.specs.Certificates.{lines_text}
use Rattle.cc_certificate_writing.specs.DefinitionCertificates.{definition_certificate_lines}
use Rattle.cc_certificate_laws.specs.ModuleCertificates.{AreNamed}
use Rattle.cc_vouching.specs.Submissions.{Claim}
use Rattle.cc_vouching.specs.VouchedModules.{Vouches, Answered, vouched_findings, HasAnswer}

-- the claims of definitions behind these: each with the lines of its certificate, as they are derived
abbrev pub claims_behind : List DeviceDecl → List ImportSyntax → List Finding → List CheckedDefinition
    → List CheckedDefinition → List Claim
claims_behind devices imports findings before [] = []
claims_behind devices imports findings before (one ∷ rest) =
    record {
      definition = one.name;
      certificate =
          lines_text
          (definition_certificate_lines (names_behind devices imports before one)
          (context_behind devices findings before one) one.accepted);
    } ∷ claims_behind devices imports findings (before ++ one ∷ []) rest

-- no canonical derivation of definitions behind these has more than 100,000 nodes
abbrev pub AreFew : List DeviceDecl → List Finding → List CheckedDefinition → List CheckedDefinition → Type 0
AreFew devices findings before [] = Unit {0}
AreFew devices findings before (one ∷ rest) =
    (nodes (accepted_derived (context_behind devices findings before one) one.accepted) ≤ 100000)
    × AreFew devices findings (before ++ one ∷ []) rest

-- An accepted present module is vouched for with the certificates of its definitions, and with their signatures, where what
-- is vouched for before it is what is found for its imports.
abbrev pub AcceptedModulesAreVouchedFor : Type 0
AcceptedModulesAreVouchedFor =
    (devices : List DeviceDecl) (texts : Texts) (verdicts : List ℕ → ModuleVerdict) (answered : Answered)
    (name text : List ℕ) (imports : List ImportSyntax) (definitions : List CheckedDefinition)
    → AreNamed devices → ArePresent texts → AreVerdicts devices texts verdicts
    → text_of texts name ≡ Some text → imports_of text ≡ Some imports → verdicts name ≡ IsAccepted definitions
    → AreFew devices (findings_for texts verdicts name text) [] definitions
    → vouched_findings answered imports ≡ findings_for texts verdicts name text
    → HasAnswer devices answered
    (record {
      name = name;
      source = text;
      claims = claims_behind devices imports (findings_for texts verdicts name text) [] definitions;
    })
    (Vouches (map in_program definitions))
