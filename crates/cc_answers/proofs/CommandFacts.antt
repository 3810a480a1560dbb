-- What each command does to a session, and what is written for it.
use Rattle.std.proofs.Common.{◌≡◌, ℕ, ◌+◌, ◌≤◌, Bool, false, List, [], length, Option, Some, None, Result, Ok, Err, refl, sym, ◌∙◌, subst, if◌then◌else◌, arith}
use Rattle.std.specs.Prelude.{IfOk, IfSome}
use Rattle.std.specs.BTreeMap.{insert_entry}
use Rattle.std.specs.Map.{remove_entry}
use Rattle.std.specs.Str.{bytes_eq}
use Rattle.cc_base.specs.declared.device.DeviceDecl.{DeviceDecl}
use Rattle.cc_base.specs.Names.{compare_names}
use Rattle.cc_io.specs.declared.whole.WriteAll.{WriteAll}
use Rattle.cc_io.specs.declared.whole.WriteAll.TheVariants as errors
use Rattle.cc_io.specs.Wholes.{WritesWhole}
use Rattle.cc_judge.specs.Judgements.{Judgement, judgements, stale_count, AreCurrent}
use Rattle.cc_verdicts.proofs.PresentLaws.{present_verdicts_exist}
use Rattle.cc_verdicts.specs.ModuleLaws.{NamesOfDevicesDiffer}
use Rattle.cc_verdicts.specs.ModuleVerdicts.{ModuleVerdict}
use Rattle.cc_verdicts.specs.PresentTexts.{Texts, ArePresent, AreVerdicts}
use Rattle.cc_mnf.specs.ElaboratedModules.{device_names}
use Rattle.cc_replies.proofs.ReplyLaws.{replies_exist}
use Rattle.cc_replies.specs.Replies.{Replies, put_reply, texts_after}
use Rattle.cc_policy.specs.declared.policy.Rule.{Rule}
use Rattle.cc_replies.specs.Requests.{Question, Request, PutText, DropModule, SetPolicy, VerifyText, Ask, JobState, holding, holding_under}
use Rattle.cc_replies.specs.ReplyTexts.{Reply, PolicySet, Verified, reply_text, is_refusal}
use Rattle.cc_certificate_judging.proofs.BytesFound.{something_is_found}
use Rattle.std.proofs.lemmas.Result.{IfOk-weaker}
use Rattle.cc_replies.specs.StaleModules.{Checks}
use Rattle.cc_session.specs.Sessions.{SessionState, IsUpToDate}
use Rattle.cc_replies.specs.CertificateTexts.{TellsFound}
use Rattle.cc_answers.specs.Carried.{IsReplied, Changes, Judges}
use Rattle.cc_answers.proofs.OutputFronts.{WritesWhole-none}
use Rattle.cc_answers.proofs.SessionReplies.{put_after}

-- what holds in any case holds of an answer
pub if_ok : {P : Type 0} (result : Result Bool WriteAll) → P → IfOk result (λ _. P)
if_ok (Ok it) p = p
if_ok (Err error) p = tt

-- what holds of a question holds where there is one
pub if_some : {A : Type 0} {P Q : A → Type 0} (option : Option A) → ((it : A) → P it → Q it) → IfSome option P → IfSome option Q
if_some (Some it) f p = f it p
if_some None f p = tt

pub if_any : {A : Type 0} {P : A → Type 0} (option : Option A) → ((it : A) → P it) → IfSome option P
if_any (Some it) f = f it
if_any None f = tt

-- this reply was written
pub replied : (devices : List DeviceDecl) (state : JobState) (request : Request) (reply : Reply) → Replies devices state request reply
    → (old new : Option (List ℕ)) (result : Result Bool WriteAll) → WritesWhole old new result (reply_text (device_names devices) reply)
    → IfOk result (λ refused. refused ≡ is_refusal reply) → IsReplied devices state request old new result
replied devices state request reply is old new result written refused =
    record { reply = reply; replies = is; written = written; refused = refused }

-- what is replied to a command that puts or removes a module is the same under any rules
pub put_replied : (devices : List DeviceDecl) (texts : Texts) (rules : List Rule) (name text : List ℕ) (old new : Option (List ℕ)) (result : Result Bool WriteAll)
    → IsReplied devices (holding texts) (PutText name text) old new result → IsReplied devices (holding_under rules texts) (PutText name text) old new result
put_replied devices texts rules name text old new result it =
    record { reply = it.reply; replies = it.replies; written = it.written; refused = it.refused }

pub drop_replied : (devices : List DeviceDecl) (texts : Texts) (rules : List Rule) (name : List ℕ) (old new : Option (List ℕ)) (result : Result Bool WriteAll)
    → IsReplied devices (holding texts) (DropModule name) old new result → IsReplied devices (holding_under rules texts) (DropModule name) old new result
drop_replied devices texts rules name old new result it =
    record { reply = it.reply; replies = it.replies; written = it.written; refused = it.refused }

-- how many rules there are was written
pub policy_replied : (devices : List DeviceDecl) (state : JobState) (rules : List Rule) (old new : Option (List ℕ)) (result : Result Bool WriteAll)
    → WritesWhole old new result (reply_text [] (PolicySet (length rules))) → IfOk result (λ refused. refused ≡ false)
    → IsReplied devices state (SetPolicy rules) old new result
policy_replied devices state rules old new result written refused =
    replied devices state (SetPolicy rules) (PolicySet (length rules)) refl old new result written refused

-- what is found of a text as a certificate was written, or memory lacked for it
pub certificate_replied : (devices : List DeviceDecl) (state : JobState) (bytes text : List ℕ) (refused : Bool) → TellsFound bytes text refused
    → (old new : Option (List ℕ)) (result : Result Bool WriteAll) → ((t : List ℕ) → text ≡ t → WritesWhole old new result t)
    → IfOk result (λ answer. answer ≡ refused) → IsReplied devices state (VerifyText bytes) old new result
certificate_replied devices state bytes text refused it old new result written told =
    replied devices state (VerifyText bytes) (Verified it.found) (it.found, it.is_found, refl) old new result
    (written (reply_text [] (Verified it.found)) it.says) (IfOk-weaker result _ _ (λ answer e. e ∙ it.tells) told)

pub certificate_not_replied : (devices : List DeviceDecl) (state : JobState) (bytes : List ℕ) (sink : Option (List ℕ))
    → IsReplied devices state (VerifyText bytes) sink sink (Err errors.NoMemory)
certificate_not_replied devices state bytes sink =
    let (found, is) = something_is_found bytes in
    record { reply = Verified found; replies = (found, is, refl); written = WritesWhole-none Bool sink (reply_text [] (Verified found)); refused = tt }

-- memory lacked before anything was written
pub replied_nothing : (devices : List DeviceDecl) (state : JobState) (request : Request) → NamesOfDevicesDiffer devices → ArePresent state.texts
    → (sink : Option (List ℕ)) → IsReplied devices state request sink sink (Err errors.NoMemory)
replied_nothing devices state request differ sorted sink =
    let (reply, is) = replies_exist devices state request differ sorted in
    record { reply = reply; replies = is; written = WritesWhole-none Bool sink (reply_text (device_names devices) reply); refused = tt }

module _ (old new : SessionState) (devices : new.devices ≡ old.devices) where
  -- a put that is answered so
  pub put_changes : (name text : List ℕ) (reply : Reply) → put_reply old.present name text ≡ reply
      → new.present ≡ (if is_refusal reply then old.present else insert_entry compare_names old.present name text)
      → (result : Result Bool WriteAll) → Changes old new (PutText name text) result
  put_changes name text reply is present result =
      record { devices = devices; present = if_ok result (present ∙ sym (put_after old.present name text reply is)) }

  pub drop_changes : (name : List ℕ) → new.present ≡ remove_entry (bytes_eq name) old.present → (result : Result Bool WriteAll)
      → Changes old new (DropModule name) result
  drop_changes name present result = record { devices = devices; present = if_ok result present }

  pub ask_changes : (question : Question) → new.present ≡ old.present → (result : Result Bool WriteAll) → Changes old new (Ask question) result
  ask_changes question present result = record { devices = devices; present = if_ok result present }

  -- what was replied on the texts after a check is replied on those before it
  pub replied_before : (rules : List Rule) (request : Request) (before behind : Option (List ℕ)) (result : Result Bool WriteAll) → new.present ≡ old.present
      → IsReplied new.devices (holding_under rules new.present) request before behind result
      → IsReplied old.devices (holding_under rules old.present) request before behind result
  replied_before rules request before behind result present is =
      subst (λ ts. IsReplied old.devices (holding_under rules ts) request before behind result) present
      (subst (λ ds. IsReplied ds (holding_under rules new.present) request before behind result) devices is)

-- a policy and a certificate change nothing
pub policy_changes : (session : SessionState) (rules : List Rule) (result : Result Bool WriteAll) → Changes session session (SetPolicy rules) result
policy_changes session rules result = record { devices = refl; present = if_ok result refl }

pub certificate_changes : (session : SessionState) (text : List ℕ) (result : Result Bool WriteAll) → Changes session session (VerifyText text) result
certificate_changes session text result = record { devices = refl; present = if_ok result refl }

-- and judge nothing, nor do a put and a drop
pub policy_judges : (session : SessionState) (rules : List Rule) (steps : ℕ) (result : Result Bool WriteAll)
    → Judges session session (SetPolicy rules) steps steps result
policy_judges session rules steps result =
    record { count = 0; next = session.last; stale = λ _. (refl, refl); few = omega arith; last = if_ok result refl }

pub certificate_judges : (session : SessionState) (text : List ℕ) (steps : ℕ) (result : Result Bool WriteAll)
    → Judges session session (VerifyText text) steps steps result
certificate_judges session text steps result =
    record { count = 0; next = session.last; stale = λ _. (refl, refl); few = omega arith; last = if_ok result refl }

pub put_judges : (old new : SessionState) (name text : List ℕ) (steps : ℕ) (result : Result Bool WriteAll) → new.last ≡ old.last
    → Judges old new (PutText name text) steps steps result
put_judges old new name text steps result last =
    record { count = 0; next = old.last; stale = λ _. (refl, refl); few = omega arith; last = if_ok result last }

pub drop_judges : (old new : SessionState) (name : List ℕ) (steps : ℕ) (result : Result Bool WriteAll) → new.last ≡ old.last
    → Judges old new (DropModule name) steps steps result
drop_judges old new name steps result last =
    record { count = 0; next = old.last; stale = λ _. (refl, refl); few = omega arith; last = if_ok result last }

-- how many steps a check of a session takes at most
abbrev pub CountsStale : SessionState → ℕ → ℕ → Type 0
CountsStale old before behind =
    (verdicts : List ℕ → ModuleVerdict) → AreVerdicts old.devices old.present verdicts
    → behind ≤ before + stale_count old.last old.present verdicts

-- what a check found
record Checked (old new : SessionState) (before behind : ℕ) (result : Result Bool WriteAll) : Type 0 where
  count : ℕ
  next : List Judgement
  checks : Checks old.devices old.present old.last count next
  few : behind ≤ before + count
  last : IfOk result (λ _. new.last ≡ next)

checked : (old new : SessionState) (before behind : ℕ) (result : Result Bool WriteAll) → new.devices ≡ old.devices → new.present ≡ old.present
    → IsUpToDate new → CountsStale old before behind → Checked old new before behind result
checked old new before behind result devices present current counts =
    let at = subst (λ ts. AreCurrent old.devices ts new.last) present (subst (λ ds. AreCurrent ds new.present new.last) devices current) in
    record {
      count = stale_count old.last old.present at.0;
      next = judgements old.present at.0;
      checks = (at.0, at.1, refl, refl);
      few = counts at.0 at.1;
      last = if_ok result at.2;
    }

checked_in_part : (old new : SessionState) (before behind : ℕ) (error : WriteAll) → NamesOfDevicesDiffer old.devices → ArePresent old.present
    → CountsStale old before behind → Checked old new before behind (Err error)
checked_in_part old new before behind error differ sorted counts =
    let (verdicts, are) = present_verdicts_exist old.devices old.present differ sorted in
    record {
      count = stale_count old.last old.present verdicts;
      next = judgements old.present verdicts;
      checks = (verdicts, are, refl, refl);
      few = counts verdicts are;
      last = tt;
    }

module _ (old new : SessionState) (before behind : ℕ) (question : Question) where
  judges_of : (result : Result Bool WriteAll) → Checked old new before behind result → Judges old new (Ask question) before behind result
  judges_of result it = record { count = it.count; next = it.next; stale = λ _. it.checks; few = it.few; last = it.last }

  -- a check that answered, and one that found no memory
  pub ask_judges : (result : Result Bool WriteAll) → new.devices ≡ old.devices → new.present ≡ old.present → IsUpToDate new
      → CountsStale old before behind → Judges old new (Ask question) before behind result
  ask_judges result devices present current counts = judges_of result (checked old new before behind result devices present current counts)

  pub ask_judges_in_part : (error : WriteAll) → NamesOfDevicesDiffer old.devices → ArePresent old.present → CountsStale old before behind
      → Judges old new (Ask question) before behind (Err error)
  ask_judges_in_part error differ sorted counts = judges_of (Err error) (checked_in_part old new before behind error differ sorted counts)
