-- What carrying out commands does, one and then all. It serves the code alone.
use Rattle.std.specs.Prelude.{◌≡◌, ℕ, ◌+◌, ◌≤◌, Bool, List, Option, Result, IfOk}
use Rattle.cc_base.specs.declared.device.DeviceDecl.{DeviceDecl}
use Rattle.cc_io.specs.declared.whole.WriteAll.{WriteAll}
use Rattle.cc_io.specs.Wholes.{WritesWhole}
use Rattle.cc_judge.specs.Judgements.{Judgement}
use Rattle.cc_mnf.specs.ElaboratedModules.{device_names}
use Rattle.cc_replies.specs.Outputs.{IsOutput}
use Rattle.cc_replies.specs.Replies.{Replies, texts_after}
use Rattle.cc_policy.specs.declared.policy.Rule.{Rule}
use Rattle.cc_replies.specs.Requests.{Request, JobState, holding_under}
use Rattle.cc_replies.specs.ReplyTexts.{Reply, reply_text, is_refusal}
use Rattle.cc_replies.specs.StaleModules.{FindsStale, AreStale}
use Rattle.cc_session.specs.Sessions.{SessionState}

-- the reply to a request in this state was written, or a front of it; it is told whether it is a refusal
pub record IsReplied (devices : List DeviceDecl) (state : JobState) (request : Request) (old new : Option (List ℕ))
    (result : Result Bool WriteAll) : Type 0 where
  pub reply : Reply
  pub replies : Replies devices state request reply
  pub written : WritesWhole old new result (reply_text (device_names devices) reply)
  pub refused : IfOk result (λ refused. refused ≡ is_refusal reply)

-- what a request changes in a session
pub record Changes (old new : SessionState) (request : Request) (result : Result Bool WriteAll) : Type 0 where
  pub devices : new.devices ≡ old.devices
  pub present : IfOk result (λ _. new.present ≡ texts_after old.present request)

-- how many steps were counted for a request, whatever rules are in force, and the last judgements behind it
pub record Judges (old new : SessionState) (request : Request) (before behind : ℕ) (result : Result Bool WriteAll) :
    Type 0 where
  pub count : ℕ
  pub next : List Judgement
  pub stale : (rules : List Rule) → FindsStale old.devices (holding_under rules old.present) old.last request count next
  pub few : behind ≤ before + count
  pub last : IfOk result (λ _. new.last ≡ next)

-- what was written for requests, in this state before the first, and how many steps were counted
pub record AreAnswered (devices : List DeviceDecl) (state : JobState) (last : List Judgement) (requests : List Request)
    (old new : Option (List ℕ)) (before behind : ℕ) (result : Result Bool WriteAll) : Type 0 where
  pub text : List ℕ
  pub refused : Bool
  pub output : IsOutput devices state requests text refused
  pub written : WritesWhole old new result text
  pub answer : IfOk result (λ answer. answer ≡ refused)
  pub sum : ℕ
  pub stale : AreStale devices state last requests sum
  pub few : behind ≤ before + sum
