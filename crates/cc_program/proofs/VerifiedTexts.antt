-- What is said of texts that are judged as certificates is so, and shown certificates are valid.
use Rattle.std.proofs.Common.{◌≡◌, ℕ, ◌≤◌, Bool, true, false, List, Result, Ok, Err, refl, sym, ap, ◌∙◌, subst, if◌then◌else◌, arith}
use Rattle.std.specs.Prelude.{nat_le}
use Rattle.std.proofs.lemmas.Bool.Decides.{nat_tests}
use Rattle.cc_base.specs.declared.code.Code.{Code}
use Rattle.cc_base.specs.declared.code.Code.TheVariants.{E36}
use Rattle.cc_base.specs.declared.device.DeviceDecl.{DeviceDecl}
use Rattle.cc_certificate_writing.specs.Certificates.{lines_text}
use Rattle.cc_certificate_writing.specs.DefinitionCertificates.{definition_certificate_lines}
use Rattle.cc_certificate_judging.specs.Answers.{Found, ProvesType, IsFound}
use Rattle.cc_certificate_laws.specs.ModuleCertificates.{AreNamed}
use Rattle.cc_certificate_laws.proofs.FoundSignatures.{named_prove}
use Rattle.cc_verdicts.specs.ModuleVerdicts.{ModuleVerdict}
use Rattle.cc_verdicts.specs.PresentTexts.{Texts, ArePresent, AreVerdicts}
use Rattle.cc_verdicts.specs.StandingDefinitions.{Standing, standing_context, standing_names, standing_in}
use Rattle.cc_replies.specs.Replies.{Replies, derivation_size, derivation_reply}
use Rattle.cc_replies.specs.ReplyTexts.{Reply, Verified, Derived, DerivationRefused}
use Rattle.cc_replies.specs.Requests.{JobState, VerifyText}
use Rattle.cc_program.specs.VerifiedTexts.{VerifiedTypesAreProved, SaysSignature, ShownCertificatesAreValid}

same_found : (a b : Found) → Verified a ≡ Verified b → a ≡ b
same_found a b e = cc

pub verified_types_are_proved : VerifiedTypesAreProved
verified_types_are_proved devices state text names type (found, is, says) =
    subst (IsFound text) (sym (same_found (ProvesType names type) found says)) is

-- one thing is found of the certificate of a definition that is not too large, and it says the signature's type
module _ (devices : List DeviceDecl) (texts : Texts) (named : AreNamed devices) (sorted : ArePresent texts)
    (verdicts : List ℕ → ModuleVerdict) (are : AreVerdicts devices texts verdicts) where
  pub proved_at : (module_name name : List ℕ) (it : Standing) → standing_in texts verdicts module_name name ≡ Ok it
      → nat_le (derivation_size devices it) 100000 ≡ true
      → IsFound
      (lines_text (definition_certificate_lines (standing_names devices it) (standing_context devices it) it.definition.accepted))
      (ProvesType (standing_names devices it) it.definition.accepted.signature)
  proved_at module_name name it stands small =
      (named_prove devices texts verdicts module_name name it named sorted are stands (small_enough (derivation_size devices it) small)).found.is_found
    where
      small_enough : (n : ℕ) → nat_le n 100000 ≡ true → n ≤ 100000
      small_enough n h = grind (arith, nat_tests)

  pub valid_at : (module_name name : List ℕ) (it : Standing) → standing_in texts verdicts module_name name ≡ Ok it
      → nat_le (derivation_size devices it) 100000 ≡ true → (found : Found)
      → IsFound
      (lines_text (definition_certificate_lines (standing_names devices it) (standing_context devices it) it.definition.accepted)) found
      → SaysSignature devices texts module_name name (Verified found)
  valid_at module_name name it stands small found is =
      let proves = named_prove devices texts verdicts module_name name it named sorted are stands (small_enough (derivation_size devices it) small) in
      record {
        verdicts = verdicts;
        are = are;
        it = it;
        stands = stands;
        says = ap Verified (proves.found.only found is);
      }
    where
      small_enough : (n : ℕ) → nat_le n 100000 ≡ true → n ≤ 100000
      small_enough n h = grind (arith, nat_tests)

-- the certificate is shown, since it is not too large
pub record IsShown (b : Bool) (lines told : List (List ℕ)) : Type 0 where
  pub small : b ≡ true
  pub lines_are : lines ≡ told

pub is_shown : (b : Bool) (owner definition m n : List ℕ) (lines told : List (List ℕ))
    → Derived owner definition lines ≡ (if b then Derived m n told else DerivationRefused m n E36) → IsShown b lines told
is_shown true owner definition m n lines told e = record { small = refl; lines_are = cc }
is_shown false owner definition m n lines told e = cc

valid_by : (devices : List DeviceDecl) (state : JobState) (named : AreNamed devices) (sorted : ArePresent state.texts)
    (verdicts : List ℕ → ModuleVerdict) (are : AreVerdicts devices state.texts verdicts) (other_devices : List DeviceDecl) (other : JobState) (reply : Reply)
    → (module_name name owner definition : List ℕ) (lines : List (List ℕ)) (r : Result Standing Code) → standing_in state.texts verdicts module_name name ≡ r
    → Derived owner definition lines ≡ derivation_reply devices module_name name r
    → Replies other_devices other (VerifyText (lines_text lines)) reply → SaysSignature devices state.texts module_name name reply
valid_by devices state named sorted verdicts are other_devices other reply module_name name owner definition lines (Ok it) stands same (found, is, says) =
    let whole = definition_certificate_lines (standing_names devices it) (standing_context devices it) it.definition.accepted in
    let shown = is_shown (nat_le (derivation_size devices it) 100000) owner definition module_name name lines whole same in
    subst (SaysSignature devices state.texts module_name name) (sym says)
    (valid_at devices state.texts named sorted verdicts are module_name name it stands shown.small found
    (subst (λ ls. IsFound (lines_text ls) found) shown.lines_are is))
valid_by devices state named sorted verdicts are other_devices other reply module_name name owner definition lines (Err code) stands same replies = cc

pub shown_certificates_are_valid : ShownCertificatesAreValid
shown_certificates_are_valid devices state named sorted module_name name owner definition lines (verdicts, are, is) other_devices other reply replies =
    valid_by devices state named sorted verdicts are other_devices other reply module_name name owner definition lines
    (standing_in state.texts verdicts module_name name) refl is replies
