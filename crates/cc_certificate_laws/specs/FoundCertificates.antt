-- What is found of the certificates of definitions: that they prove the types that others see.
use Rattle.std.specs.Prelude.{◌≡◌, ℕ, ◌≤◌, List, Ok}
use Rattle.cc_base.specs.declared.device.DeviceDecl.{DeviceDecl}
use Rattle.cc_core.specs.Contexts.{Context}
use Rattle.cc_grammar.specs.Syntax.{ImportSyntax}
use Rattle.cc_checking.specs.DerivationSizes.{nodes}
use Rattle.cc_checking.specs.Verdicts.{Accepted}
use Rattle.cc_words.specs.Lines.{lines_of, AreWholeLines}
use Rattle.cc_checking_laws.specs.AcceptedDefinitions.{accepted_derived}
use Rattle.cc_verdicts.specs.ModuleVerdicts.{Finding, CheckedDefinition, ModuleVerdict}
use Rattle.cc_verdicts.specs.PresentTexts.{Texts, ArePresent, AreVerdicts}
use Rattle.cc_verdicts.specs.StandingDefinitions.{StandsInPresentModule, context_behind, names_behind}
use Rattle.cc_verdicts.specs.StandingDefinitions.{Standing, standing_context, standing_names, standing_in}
use Rattle.cc_certificate_writing.specs.Certificates.{lines_text}
use Rattle.cc_certificate_writing.specs.DefinitionCertificates.{definition_certificate, definition_certificate_lines}
use Rattle.cc_certificate_judging.specs.Answers.{Found, ProvesType, IsFound}
use Rattle.cc_certificate_laws.specs.ModuleCertificates.{IsCertified, AreNamed}

-- This is found of the bytes, and nothing else is.
pub record IsOnlyFound (bytes : List ℕ) (found : Found) : Type 0 where
  pub is_found : IsFound bytes found
  pub only : (other : Found) → IsFound bytes other → other ≡ found

-- A right certificate proves the type that others see, with the names of the context.
abbrev pub RightCertificatesProveSignatures : Type 0
RightCertificatesProveSignatures =
    (names : List (List ℕ)) (context : Context) (accepted : Accepted) → IsCertified names context accepted
    → IsOnlyFound (definition_certificate names context accepted) (ProvesType names accepted.signature)

-- The text consists of whole lines, which are these: each has its line feed, and none has one within.
pub record HasWholeLines (text : List ℕ) (lines : List (List ℕ)) : Type 0 where
  pub whole : AreWholeLines text
  pub lines_are : lines_of text ≡ lines

-- What is found of the lines of a definition's certificate, each with its line feed: they are whole lines and the text of
-- the certificate, which proves the type that others see, with the names of the definition's context.
pub record LinesProveSignature (names : List (List ℕ)) (context : Context) (accepted : Accepted) : Type 0 where
  pub text :
      lines_text (definition_certificate_lines names context accepted) ≡ definition_certificate names context accepted
  pub whole :
      HasWholeLines (lines_text (definition_certificate_lines names context accepted))
      (definition_certificate_lines names context accepted)
  pub found :
      IsOnlyFound (lines_text (definition_certificate_lines names context accepted))
      (ProvesType names accepted.signature)

-- So it is with each definition of an accepted present module whose canonical derivation has at most 100,000 nodes.
abbrev pub CertificatesOfPresentTextsProveSignatures : Type 0
CertificatesOfPresentTextsProveSignatures =
    (devices : List DeviceDecl) (texts : Texts) (verdicts : List ℕ → ModuleVerdict) (imports : List ImportSyntax)
    (findings : List Finding) (before : List CheckedDefinition) (one : CheckedDefinition) → AreNamed devices
    → ArePresent texts → AreVerdicts devices texts verdicts
    → StandsInPresentModule devices texts verdicts imports findings before one
    → nodes (accepted_derived (context_behind devices findings before one) one.accepted) ≤ 100000
    → LinesProveSignature (names_behind devices imports before one) (context_behind devices findings before one)
    one.accepted

-- So it is with the one that is found by the names of a module and a definition.
abbrev pub CertificatesOfNamedDefinitionsProveSignatures : Type 0
CertificatesOfNamedDefinitionsProveSignatures =
    (devices : List DeviceDecl) (texts : Texts) (verdicts : List ℕ → ModuleVerdict) (module_name name : List ℕ)
    (it : Standing) → AreNamed devices → ArePresent texts → AreVerdicts devices texts verdicts
    → standing_in texts verdicts module_name name ≡ Ok it
    → nodes (accepted_derived (standing_context devices it) it.definition.accepted) ≤ 100000
    → LinesProveSignature (standing_names devices it) (standing_context devices it) it.definition.accepted
