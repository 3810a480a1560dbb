-- Replies to certificates, by example: that of the identity on the unit value, whole and changed.
use Rattle.std.specs.Prelude.{◌≡◌, ℕ, codes, Bool, true, false, List, [], ◌∷◌}
use Rattle.std.specs.List.{flat_map}
use Rattle.cc_base.specs.declared.device.DeviceDecl.{DeviceDecl}
use Rattle.cc_certificate_judging.specs.AnswerExamples.{function_node}
use Rattle.cc_certificate_reading.specs.ReadingExamples.{text, opening, statement, body_node}
use Rattle.cc_mnf.specs.ElaboratedModules.{device_names}
use Rattle.cc_replies.specs.Replies.{Replies}
use Rattle.cc_replies.specs.ReplyTexts.{Reply, line, reply_text, is_refusal}
use Rattle.cc_replies.specs.Requests.{VerifyText, JobState}

-- Beside any devices and in any state, the reply to the lines of a certificate, each with its line feed, is `verify` and
-- this line, and tells of a refusal or of none.
abbrev pub VerifiesWith : List (List ℕ) → List ℕ → Bool → Type 0
VerifiesWith lines told refused =
    (devices : List DeviceDecl) (state : JobState) → (reply : Reply) × Replies devices state (VerifyText (text lines)) reply
    × (reply_text (device_names devices) reply ≡ flat_map line (codes "verify" ∷ told ∷ [])) × (is_refusal reply ≡ refused)

-- the certificate of the identity
abbrev pub ValidCertificate : Type 0
ValidCertificate =
    VerifiesWith (opening ∷ statement ∷ body_node ∷ function_node ∷ []) (codes "  valid (_0: Unit) -> Unit^{_0}") false

-- without the set of the variable
abbrev pub BadNode : Type 0
BadNode =
    VerifiesWith (opening ∷ statement ∷ codes "1 t-var [] : Unit" ∷ function_node ∷ []) (codes "  bad node 1") true

-- with a premise that is no node before
abbrev pub BadLine : Type 0
BadLine =
    VerifiesWith (opening ∷ statement ∷ body_node ∷ codes "2 t-abs [2] : (_0: Unit) -> Unit^{_0}" ∷ [])
    (codes "  bad line 4") true

-- without a node, and without a line
abbrev pub NoNode : Type 0
NoNode = VerifiesWith (opening ∷ statement ∷ []) (codes "  bad line 3") true

abbrev pub NoLine : Type 0
NoLine = VerifiesWith [] (codes "  bad line 1") true
