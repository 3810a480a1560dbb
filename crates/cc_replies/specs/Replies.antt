-- What is answered to a command, where these modules are present.
use Rattle.std.specs.Prelude.{◌≡◌, ℕ, nat_le, nat_lt, List, length, map, Result, Ok, Err, if◌then◌else◌}
use Rattle.std.specs.BTreeMap.{insert_entry}
use Rattle.std.specs.Map.{remove_entry}
use Rattle.std.specs.Option.{is_some}
use Rattle.std.specs.Str.{bytes_eq}
use Rattle.cc_base.specs.declared.code.Code.{Code}
use Rattle.cc_base.specs.declared.code.Code.TheVariants.{E30, E31, E32, E34, E36}
use Rattle.cc_base.specs.declared.device.DeviceDecl.{DeviceDecl}
use Rattle.cc_certificate_writing.specs.DefinitionCertificates.{definition_certificate_lines}
use Rattle.cc_base.specs.Names.{compare_names}
use Rattle.cc_checking_laws.specs.AcceptedDefinitions.{accepted_derived}
use Rattle.cc_entry_laws.specs.PresentEntries.{started_in}
use Rattle.cc_verdicts.specs.ModuleVerdicts.{ModuleVerdict, IsAccepted, IsRefused}
use Rattle.cc_verdicts.specs.PresentTexts.{Texts, text_of, AreVerdicts, others_present, longest_text, most_modules}
use Rattle.cc_verdicts.specs.StandingDefinitions.{Standing, standing_context, standing_names, standing_in}
use Rattle.cc_policy.specs.declared.policy.Rule.{Rule}
use Rattle.cc_replies.specs.ReplyTexts.{Reply, PutDone, PutRefused, DropDone, DropRefused, Verdicts, Signatures}
use Rattle.cc_replies.specs.ReplyTexts.{PolicySet, Verified, SignaturesRefused, Derived, DerivationRefused, is_refusal}
use Rattle.cc_certificate_judging.specs.Answers.{Found, IsFound}
use Rattle.cc_replies.specs.ExplainReplies.{IsExplainAnswer}
use Rattle.cc_replies.specs.PolicyReplies.{IsAuditAnswer, IsGuardAnswer}
use Rattle.cc_replies.specs.ReplayReplies.{IsReplayAnswer}
use Rattle.cc_replies.specs.Requests.{Question, CheckModules, ShowSignature, ShowDerivation, RunDefinition, RunTasks}
use Rattle.cc_replies.specs.Requests.{AuditDefinition, GuardDefinition, ExplainDefinition, ReplayDefinition}
use Rattle.cc_replies.specs.Requests.{Request, PutText, DropModule, SetPolicy, VerifyText, Ask, JobState}
use Rattle.cc_replies.specs.RunReplies.{IsRunAnswer, first_unstarted, IsTasksAnswer}
use Rattle.cc_checking.specs.DerivationSizes.{nodes}

-- the text is put unless it is too long, or no more modules may be present
abbrev pub put_reply : Texts → List ℕ → List ℕ → Reply
put_reply texts name text =
    if nat_lt longest_text (length text) then PutRefused name E30
    else (if nat_le most_modules (others_present name texts) then PutRefused name E31 else PutDone name)

-- a module that is removed is present
abbrev pub drop_reply : Texts → List ℕ → Reply
drop_reply texts name = if is_some (text_of texts name) then DropDone name else DropRefused name E32

-- the verdicts of the present modules, in order of name
abbrev pub check_reply : Texts → (List ℕ → ModuleVerdict) → Reply
check_reply texts verdicts = Verdicts (map (λ one. (one.0, verdicts one.0)) texts)

-- the definitions of a module with this verdict
abbrev pub definitions_reply : List ℕ → ModuleVerdict → Reply
definitions_reply name (IsAccepted definitions) = Signatures name definitions
definitions_reply name (IsRefused code at) = SignaturesRefused name E34

-- the definitions of a module, which is present and accepted
abbrev pub signature_reply : Texts → (List ℕ → ModuleVerdict) → List ℕ → Reply
signature_reply texts verdicts name =
    if is_some (text_of texts name) then definitions_reply name (verdicts name) else SignaturesRefused name E32

-- how many nodes the canonical derivation of a definition has where it stands
abbrev pub derivation_size : List DeviceDecl → Standing → ℕ
derivation_size devices it = nodes (accepted_derived (standing_context devices it) it.definition.accepted)

-- the lines of its certificate, where derivations of more than 100,000 nodes are not shown
abbrev pub derivation_told : List DeviceDecl → List ℕ → List ℕ → Standing → Reply
derivation_told devices module_name name it =
    if nat_le (derivation_size devices it) 100000
    then Derived module_name name
    (definition_certificate_lines (standing_names devices it) (standing_context devices it) it.definition.accepted)
    else DerivationRefused module_name name E36

-- the certificate of a definition, or why there is none
abbrev pub derivation_reply : List DeviceDecl → List ℕ → List ℕ → Result Standing Code → Reply
derivation_reply devices module_name name (Ok it) = derivation_told devices module_name name it
derivation_reply devices module_name name (Err code) = DerivationRefused module_name name code

-- What is answered to a question, beside the devices and where these rules are in force and present modules have these
-- texts and these verdicts.
abbrev pub IsAnswer : List DeviceDecl → List Rule → Texts → (List ℕ → ModuleVerdict) → Question → Reply → Type 0
IsAnswer devices rules texts verdicts CheckModules reply = reply ≡ check_reply texts verdicts
IsAnswer devices rules texts verdicts (ShowSignature name) reply = reply ≡ signature_reply texts verdicts name
IsAnswer devices rules texts verdicts (ShowDerivation module_name name) reply =
    reply ≡ derivation_reply devices module_name name (standing_in texts verdicts module_name name)
IsAnswer devices rules texts verdicts (RunDefinition module_name name fuel) reply =
    IsRunAnswer devices texts verdicts module_name name fuel (started_in texts verdicts module_name name) reply
IsAnswer devices rules texts verdicts (RunTasks fuel schedule tasks) reply =
    IsTasksAnswer devices texts verdicts fuel schedule tasks (first_unstarted texts verdicts tasks) reply
IsAnswer devices rules texts verdicts (AuditDefinition module_name name) reply =
    IsAuditAnswer devices rules texts verdicts module_name name (started_in texts verdicts module_name name) reply
IsAnswer devices rules texts verdicts (GuardDefinition module_name name fuel) reply =
    IsGuardAnswer devices rules texts verdicts module_name name fuel (started_in texts verdicts module_name name) reply
IsAnswer devices rules texts verdicts (ExplainDefinition module_name name) reply =
    IsExplainAnswer devices texts verdicts module_name name (standing_in texts verdicts module_name name) reply
IsAnswer devices rules texts verdicts (ReplayDefinition module_name name fuel text) reply =
    IsReplayAnswer devices texts verdicts module_name name fuel text (started_in texts verdicts module_name name) reply

-- What is answered to a command, beside the devices and in this state. A question is answered by the verdicts that the
-- present texts have. What is found of a text that is to be a certificate has nothing to do with devices and modules.
abbrev pub Replies : List DeviceDecl → JobState → Request → Reply → Type 0
Replies devices state (PutText name text) reply = reply ≡ put_reply state.texts name text
Replies devices state (DropModule name) reply = reply ≡ drop_reply state.texts name
Replies devices state (SetPolicy rules) reply = reply ≡ PolicySet (length rules)
Replies devices state (VerifyText text) reply = (found : Found) × IsFound text found × (reply ≡ Verified found)
Replies devices state (Ask question) reply =
    (verdicts : List ℕ → ModuleVerdict) × AreVerdicts devices state.texts verdicts
    × IsAnswer devices state.rules state.texts verdicts question reply

-- The texts that are present after a command: those that put and remove modules alone change them, where they are not
-- refused.
abbrev pub texts_after : Texts → Request → Texts
texts_after texts (PutText name text) =
    if is_refusal (put_reply texts name text) then texts else insert_entry compare_names texts name text
texts_after texts (DropModule name) = remove_entry (bytes_eq name) texts
texts_after texts (SetPolicy rules) = texts
texts_after texts (VerifyText text) = texts
texts_after texts (Ask question) = texts

-- the rules in force after a command: those that it sets, or else the ones before
abbrev pub rules_after : List Rule → Request → List Rule
rules_after rules (PutText name text) = rules
rules_after rules (DropModule name) = rules
rules_after rules (SetPolicy next) = next
rules_after rules (VerifyText text) = rules
rules_after rules (Ask question) = rules

-- the state after a command
abbrev pub after : JobState → Request → JobState
after state request = record { texts = texts_after state.texts request; rules = rules_after state.rules request }
