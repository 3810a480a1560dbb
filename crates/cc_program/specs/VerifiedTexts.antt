-- What is said of texts that are judged as certificates is so; and a certificate that was shown is found to be valid.
use Rattle.std.specs.Prelude.{◌≡◌, ℕ, List, Ok}
use Rattle.cc_base.specs.declared.device.DeviceDecl.{DeviceDecl}
use Rattle.cc_certificate_writing.specs.Certificates.{lines_text}
use Rattle.cc_certificate_judging.specs.Answers.{ProvesType, IsProof}
use Rattle.cc_core.specs.Shapes.{CapturingType}
use Rattle.cc_certificate_laws.specs.ModuleCertificates.{AreNamed}
use Rattle.cc_verdicts.specs.ModuleVerdicts.{ModuleVerdict}
use Rattle.cc_verdicts.specs.PresentTexts.{Texts, ArePresent, AreVerdicts}
use Rattle.cc_verdicts.specs.StandingDefinitions.{Standing, standing_names, standing_in}
use Rattle.cc_replies.specs.Replies.{Replies}
use Rattle.cc_replies.specs.ReplyTexts.{Reply, Verified, Derived}
use Rattle.cc_replies.specs.Requests.{JobState, ShowDerivation, VerifyText, Ask}

-- Each reply that says that a text is a valid certificate says so of one: its term has the type that is told in the
-- context of its binds, by the rules.
abbrev pub VerifiedTypesAreProved : Type 0
VerifiedTypesAreProved =
    (devices : List DeviceDecl) (state : JobState) (text : List ℕ) (names : List (List ℕ)) (type : CapturingType)
    → Replies devices state (VerifyText text) (Verified (ProvesType names type)) → IsProof text names type

-- The reply says that a text is a valid certificate of the signature's type of the definition, with the names of its
-- context.
pub record SaysSignature (devices : List DeviceDecl) (texts : Texts) (module_name name : List ℕ) (reply : Reply) :
    Type 0 where
  pub verdicts : List ℕ → ModuleVerdict
  pub are : AreVerdicts devices texts verdicts
  pub it : Standing
  pub stands : standing_in texts verdicts module_name name ≡ Ok it
  pub says : reply ≡ Verified (ProvesType (standing_names devices it) it.definition.accepted.signature)

-- The lines of a certificate that was shown, each with a line feed, are answered so wherever they are judged: beside any
-- devices and in any state, of the same job or of another.
abbrev pub ShownCertificatesAreValid : Type 0
ShownCertificatesAreValid =
    (devices : List DeviceDecl) (state : JobState) → AreNamed devices → ArePresent state.texts
    → (module_name name owner definition : List ℕ) (lines : List (List ℕ))
    → Replies devices state (Ask (ShowDerivation module_name name)) (Derived owner definition lines)
    → (other_devices : List DeviceDecl) (other : JobState) (reply : Reply)
    → Replies other_devices other (VerifyText (lines_text lines)) reply
    → SaysSignature devices state.texts module_name name reply
