-- Certificates of modules: what is written for a definition of an accepted module is a certificate, and is read back.
use Rattle.std.specs.Prelude.{◌≡◌, ℕ, ◌≤◌, List, [], ◌∷◌, ◌++◌, length, map, reverse, Some}
use Rattle.std.specs.Prelude.{if◌then◌else◌}
use Rattle.std.specs.List.{AllByRecursion}
use Rattle.cc_base.specs.Names.{IsName}
use Rattle.cc_base.specs.declared.device.DeviceDecl.{DeviceDecl}
use Rattle.cc_core.specs.Contexts.{Context, entry_of}
use Rattle.cc_core.specs.Programs.{definition_context, own_context}
use Rattle.cc_core.specs.Terms.{Term}
use Rattle.cc_core.specs.WellFormed.{kinds_of}
use Rattle.cc_grammar.specs.Syntax.{ImportSyntax}
use Rattle.cc_job.specs.Jobs.{IsJob}
use Rattle.cc_job.specs.declared.job.Job.{Job}
use Rattle.cc_mnf.specs.ElaboratedModules.{import_names, device_names}
use Rattle.cc_checking.specs.DerivationSizes.{nodes}
use Rattle.cc_checking.specs.Verdicts.{Accepted}
use Rattle.cc_checking_laws.specs.AcceptedDefinitions.{accepted_derived}
use Rattle.cc_verdicts.specs.Readings.{imports_of}
use Rattle.cc_verdicts.specs.ModuleVerdicts.{Finding, CheckedDefinition, ModuleVerdict, IsAccepted}
use Rattle.cc_verdicts.specs.ModuleVerdicts.{HasModuleVerdict, declared_context, with_findings, in_program}
use Rattle.cc_verdicts.specs.ModuleLaws.{NamesOfDevicesDiffer, AreFit}
use Rattle.cc_verdicts.specs.PresentTexts.{Texts, ArePresent, text_of, findings_for, AreVerdicts}
use Rattle.cc_verdicts.specs.StandingDefinitions.{StandsInPresentModule, with_definitions, context_behind}
use Rattle.cc_verdicts.specs.StandingDefinitions.{names_behind}
use Rattle.cc_certificate_writing.specs.DefinitionCertificates.{definition_certificate, definition_certificate_lines}
use Rattle.cc_certificate_writing.specs.CertificateTextLaws.{IsOneLine}
use Rattle.cc_certificate_text.specs.Certificates.{Line, CertificateNode, IsCertificate}
use Rattle.cc_certificate_laws.specs.DefinitionLaws.{HasWrittenLiterals}
use Rattle.cc_certificate_judging.specs.CertificateParts.{CertificateBind, parts_lines, bound_context, bound_names}
use Rattle.cc_certificate_judging.specs.Judging.{NodeTree, listed, read_tree, Judgement, IsValidAt, IsJudged}
use Rattle.cc_certificate_laws.specs.CertificateLines.{lines_of}
use Rattle.cc_certificate_laws.specs.ModuleLimits.{IsLowFinding}

-- The context is the one that the definition of a checked program is typed in.
abbrev pub ContextsAreThoseOfPrograms : Type 0
ContextsAreThoseOfPrograms =
    (devices : List DeviceDecl) (findings : List Finding) (before : List CheckedDefinition) (one : CheckedDefinition)
    → context_behind devices findings before one
    ≡ own_context
    (definition_context (with_findings (declared_context devices) findings) (reverse (map in_program before)))
    (in_program one)

-- the lines of the certificate that is written for the accepted definition
abbrev pub definition_lines : List (List ℕ) → Context → Accepted → List Line
definition_lines names context accepted = lines_of names context accepted.filled (accepted_derived context accepted)

-- The certificate of the definition is right: it is one, with the lines of its canonical derivation and with no others.
-- These bind the context by its names, state the filled right side and list the nodes of a tree, which is read as the canonical
-- derivation, and which is judged to be valid at the signature. So it is with whatever is read back from the text.
pub record IsCertified (names : List (List ℕ)) (context : Context) (accepted : Accepted) : Type 0 where
  pub written : IsCertificate (definition_certificate names context accepted) (definition_lines names context accepted)
  pub read_back : (lines : List Line) → IsCertificate (definition_certificate names context accepted) lines
      → lines ≡ definition_lines names context accepted
  pub binds : List CertificateBind
  pub tree : NodeTree
  pub parts : definition_lines names context accepted ≡ parts_lines binds accepted.filled (listed 0 tree)
  pub bound : bound_context binds ≡ context
  pub named : bound_names binds ≡ names
  pub canonical : read_tree (length context) (kinds_of context) tree ≡ accepted_derived context accepted
  pub valid : IsJudged context accepted.filled (listed 0 tree) (IsValidAt accepted.signature)
  pub tree_read_back :
      (others : List CertificateBind) (stated : Term) (other : NodeTree)
      → IsCertificate (definition_certificate names context accepted) (parts_lines others stated (listed 0 other))
      → read_tree (length (bound_context others)) (kinds_of (bound_context others)) other
      ≡ accepted_derived context accepted
  pub judged :
      (others : List CertificateBind) (stated : Term) (listing : List CertificateNode) (answer : Judgement)
      → IsCertificate (definition_certificate names context accepted) (parts_lines others stated listing)
      → IsJudged (bound_context others) stated listing answer → answer ≡ IsValidAt accepted.signature

-- The definition stands behind these in an accepted module with these imports, for which this is found.
pub record StandsInModule (devices : List DeviceDecl) (imports : List ImportSyntax) (findings : List Finding)
    (before : List CheckedDefinition) (one : CheckedDefinition) : Type 0 where
  pub text : List ℕ
  pub imports_are : imports_of text ≡ Some imports
  pub after : List CheckedDefinition
  pub accepted : HasModuleVerdict devices text findings (IsAccepted (before ++ one ∷ after))
  pub fit : AreFit devices text findings
  pub low : AllByRecursion IsLowFinding findings

-- the devices have names, which differ
pub record AreNamed (devices : List DeviceDecl) : Type 0 where
  pub named : AllByRecursion IsName (device_names devices)
  pub apart : NamesOfDevicesDiffer devices

-- The devices of a job are so.
abbrev pub DevicesOfJobsAreNamed : Type 0
DevicesOfJobsAreNamed = (bytes : List ℕ) (job : Job) → IsJob bytes job → AreNamed job.devices

-- Each definition of an accepted module whose canonical derivation has at most 100,000 nodes has a right certificate.
abbrev pub DefinitionsOfModulesAreCertified : Type 0
DefinitionsOfModulesAreCertified =
    (devices : List DeviceDecl) (imports : List ImportSyntax) (findings : List Finding)
    (before : List CheckedDefinition) (one : CheckedDefinition) → AreNamed devices
    → StandsInModule devices imports findings before one
    → nodes (accepted_derived (context_behind devices findings before one) one.accepted) ≤ 100000
    → IsCertified (names_behind devices imports before one) (context_behind devices findings before one) one.accepted

-- So has each definition of an accepted present module.
abbrev pub DefinitionsOfPresentTextsAreCertified : Type 0
DefinitionsOfPresentTextsAreCertified =
    (devices : List DeviceDecl) (texts : Texts) (verdicts : List ℕ → ModuleVerdict) (imports : List ImportSyntax)
    (findings : List Finding) (before : List CheckedDefinition) (one : CheckedDefinition) → AreNamed devices
    → ArePresent texts → AreVerdicts devices texts verdicts
    → StandsInPresentModule devices texts verdicts imports findings before one
    → nodes (accepted_derived (context_behind devices findings before one) one.accepted) ≤ 100000
    → IsCertified (names_behind devices imports before one) (context_behind devices findings before one) one.accepted

-- The literals of each definition of an accepted present module are such as may be written.
abbrev pub LiteralsOfDefinitionsAreWritten : Type 0
LiteralsOfDefinitionsAreWritten =
    (devices : List DeviceDecl) (texts : Texts) (verdicts : List ℕ → ModuleVerdict) (imports : List ImportSyntax)
    (findings : List Finding) (before : List CheckedDefinition) (one : CheckedDefinition) → AreNamed devices
    → ArePresent texts → AreVerdicts devices texts verdicts
    → StandsInPresentModule devices texts verdicts imports findings before one
    → HasWrittenLiterals one.accepted.filled

-- No line of what is written for a definition of an accepted present module has a line feed within, however many nodes
-- its canonical derivation has.
abbrev pub LinesOfDefinitionsHaveNoLineFeed : Type 0
LinesOfDefinitionsHaveNoLineFeed =
    (devices : List DeviceDecl) (texts : Texts) (verdicts : List ℕ → ModuleVerdict) (imports : List ImportSyntax)
    (findings : List Finding) (before : List CheckedDefinition) (one : CheckedDefinition) → AreNamed devices
    → ArePresent texts → AreVerdicts devices texts verdicts
    → StandsInPresentModule devices texts verdicts imports findings before one
    → AllByRecursion IsOneLine
    (definition_certificate_lines (names_behind devices imports before one)
    (context_behind devices findings before one) one.accepted)
