-- What was carried out of the commands of a job so far, and what is left.
use Rattle.std.proofs.Common.{◌≡◌, ℕ, suc, ◌+◌, ◌<◌, ◌≤◌, Bool, true, false, ◌||◌, List, [], ◌∷◌, ◌++◌, length, drop, get_or, map, Option, Some, None, Ok, Err, refl, sym, ap, ◌∙◌, subst, arith, add-one, drop-cons}
use Rattle.std.specs.List.Sorted.{IsStrictlySortedBy}
use Rattle.std.specs.Io.KnownBytes.{Appends}
use Rattle.std.proofs.lemmas.List.{append_assoc, append-nil}
use Rattle.cc_base.specs.declared.device.DeviceDecl.{DeviceDecl}
use Rattle.cc_io.specs.declared.whole.WriteAll.{WriteAll}
use Rattle.cc_io.specs.declared.whole.WriteAll.TheVariants as errors
use Rattle.cc_io.specs.Wholes.{WritesWhole}
use Rattle.cc_job.specs.declared.job.Command.{Command}
use Rattle.cc_judge.specs.Judgements.{Judgement}
use Rattle.cc_verdicts.specs.ModuleLaws.{NamesOfDevicesDiffer}
use Rattle.cc_verdicts.specs.PresentTexts.{Texts, ArePresent}
use Rattle.cc_mnf.specs.ElaboratedModules.{device_names}
use Rattle.cc_replies.proofs.OutputLaws.{outputs_exist}
use Rattle.cc_replies.proofs.PresentAfter.{texts_stay_present}
use Rattle.cc_replies.proofs.StaleLaws.{stale_exist}
use Rattle.cc_replies.specs.Outputs.{IsOutput}
use Rattle.cc_policy.specs.declared.policy.Rule.{Rule}
use Rattle.cc_replies.specs.Replies.{Replies, rules_after, after}
use Rattle.cc_replies.specs.Requests.{Request, JobState, holding_under, no_module}
use Rattle.cc_replies.specs.ReplyTexts.{reply_text, is_refusal}
use Rattle.cc_replies.specs.StaleModules.{FindsStale, AreStale}
use Rattle.cc_session.specs.Sessions.{SessionState}
use Rattle.cc_answers.specs.Carried.{IsReplied, Changes, Judges, AreAnswered}
use Rattle.cc_answers.specs.Requests.{request_of}
use Rattle.cc_answers.proofs.OutputFronts.{Appends-both, WritesWhole-first, WritesWhole-second, WritesWhole-none}

-- what commands are asked for
abbrev pub asked : List Command → List Request
asked commands = map request_of commands

-- What was carried out of the requests from this state and these judgements on, where these rules are in force and these
-- requests are left: what is written for
-- those that are left stands behind what was written, and so do the steps.
pub record Stands (devices : List DeviceDecl) (state : JobState) (last : List Judgement) (all : List Request) (written : Option (List ℕ))
    (steps : ℕ) (session : SessionState) (rules : List Rule) (left : List Request) (now : Option (List ℕ)) (counted : ℕ) (refused : Bool) : Type 0 where
  pub devices_same : session.devices ≡ devices
  pub present : ArePresent session.present
  pub done : List ℕ
  pub appended : Appends written now done
  pub output : (text : List ℕ) (later : Bool) → IsOutput devices (holding_under rules session.present) left text later → IsOutput devices state all (done ++ text) (refused || later)
  pub judged : ℕ
  pub few : counted ≤ steps + judged
  pub stale : (sum : ℕ) → AreStale devices (holding_under rules session.present) session.last left sum → AreStale devices state last all (judged + sum)

pub Appends-nothing : (old : Option (List ℕ)) → Appends old old []
Appends-nothing None = tt
Appends-nothing (Some xs) = sym (append-nil xs)

pub stands_first : (session : SessionState) (rules : List Rule) (all : List Request) (written : Option (List ℕ)) (steps : ℕ) → ArePresent session.present
    → Stands session.devices (holding_under rules session.present) session.last all written steps session rules all written steps false
stands_first session rules all written steps sorted = record {
  devices_same = refl;
  present = sorted;
  done = [];
  appended = Appends-nothing written;
  output = λ text later is. is;
  judged = 0;
  few = omega arith;
  stale = λ sum are. subst (AreStale session.devices (holding_under rules session.present) session.last all) (omega arith) are;
}

grouped : (a b c : Bool) → ((a || b) || c) ≡ (a || (b || c))
grouped true b c = refl
grouped false b c = refl

module _ (devices : List DeviceDecl) (state : JobState) (last : List Judgement) (all : List Request) (written : Option (List ℕ)) (steps : ℕ)
    (session : SessionState) (rules : List Rule) (request : Request) (left : List Request) (now : Option (List ℕ)) (counted : ℕ) (refused : Bool)
    (stands : Stands devices state last all written steps session rules (request ∷ left) now counted refused) where
  -- one request more
  pub stands_more : (next : SessionState) (in_force : List Rule) (behind : Option (List ℕ)) (more : ℕ) (later : Bool)
      → in_force ≡ rules_after rules request
      → IsReplied session.devices (holding_under rules session.present) request now behind (Ok later)
      → Changes session next request (Ok later) → Judges session next request counted more (Ok later)
      → (either : Bool) → either ≡ (refused || later)
      → Stands devices state last all written steps next in_force left behind more either
  stands_more next in_force behind more later rules_are replied changes judges either is = record {
    devices_same = changes.devices ∙ stands.devices_same;
    present = subst ArePresent (sym changes.present) (texts_stay_present (holding_under rules session.present) request stands.present);
    done = stands.done ++ reply;
    appended = Appends-both written now behind stands.done reply stands.appended
        (subst (λ ds. Appends now behind (reply_text (device_names ds) replied.reply)) stands.devices_same replied.written);
    output = λ text after_that is_text.
        (let now_is = stands.output (reply ++ text) (is_refusal replied.reply || after_that) (
          replied.reply,
          text,
          after_that,
          subst (λ ds. Replies ds (holding_under rules session.present) request replied.reply) stands.devices_same replied.replies,
          subst (λ rs. IsOutput devices (holding_under rs (after (holding_under rules session.present) request).texts) left text after_that) rules_are
              (subst (λ ts. IsOutput devices (holding_under in_force ts) left text after_that) changes.present is_text),
          refl,
          refl,
        ) in
        subst (λ t. IsOutput devices state all t (either || after_that)) (sym (append_assoc stands.done reply text))
        (subst (IsOutput devices state all (stands.done ++ (reply ++ text)))
        (sym (ap (λ b. b || after_that) (is ∙ ap (λ b. refused || b) replied.refused) ∙ grouped refused (is_refusal replied.reply) after_that)) now_is));
    judged = stands.judged + judges.count;
    few = omega (arith, stands.few, judges.few);
    stale = λ sum are.
        (let finds = subst (λ ds. FindsStale ds (holding_under rules session.present) session.last request judges.count judges.next) stands.devices_same (judges.stale rules) in
        let at = subst (λ rs. AreStale devices (holding_under rs (after (holding_under rules session.present) request).texts) judges.next left sum) rules_are
        (subst (λ ts. AreStale devices (holding_under in_force ts) judges.next left sum) changes.present
        (subst (λ js. AreStale devices (holding_under in_force next.present) js left sum) judges.last are)) in
        subst (AreStale devices state last all) (omega arith)
        (stands.stale (judges.count + sum) (judges.count, judges.next, sum, finds, at, refl)));
  }
    where
      reply : List ℕ
      reply = reply_text (device_names devices) replied.reply

  -- the request failed
  pub stands_stopped : NamesOfDevicesDiffer devices → (next : SessionState) (behind : Option (List ℕ)) (more : ℕ) (error : WriteAll)
      → IsReplied session.devices (holding_under rules session.present) request now behind (Err error)
      → Judges session next request counted more (Err error)
      → AreAnswered devices state last all written behind steps more (Err error)
  stands_stopped differ next behind more error replied judges =
      let sorted = texts_stay_present (holding_under rules session.present) request stands.present in
      let (text, later, is) = outputs_exist devices (after (holding_under rules session.present) request) left differ sorted in
      let (sum, are) = stale_exist devices (after (holding_under rules session.present) request) judges.next left differ sorted in
      let replies = subst (λ ds. Replies ds (holding_under rules session.present) request replied.reply) stands.devices_same replied.replies in
      let finds = subst (λ ds. FindsStale ds (holding_under rules session.present) session.last request judges.count judges.next) stands.devices_same (judges.stale rules) in
      record {
        text = stands.done ++ (reply ++ text);
        refused = refused || (is_refusal replied.reply || later);
        output = stands.output (reply ++ text) (is_refusal replied.reply || later) (replied.reply, text, later, replies, is, refl, refl);
        written = WritesWhole-second Bool Bool error written now behind stands.done (reply ++ text) stands.appended
            (WritesWhole-first Bool Bool error now behind reply text
            (subst (λ ds. WritesWhole {T = Bool} now behind (Err error) (reply_text (device_names ds) replied.reply)) stands.devices_same replied.written));
        answer = tt;
        sum = stands.judged + (judges.count + sum);
        stale = stands.stale (judges.count + sum) (judges.count, judges.next, sum, finds, are, refl);
        few = omega (arith, stands.few, judges.few);
      }
    where
      reply : List ℕ
      reply = reply_text (device_names devices) replied.reply

or_false : (b : Bool) → (b || false) ≡ b
or_false true = refl
or_false false = refl

-- no request is left
pub stands_last : (devices : List DeviceDecl) (state : JobState) (last : List Judgement) (all : List Request) (written : Option (List ℕ)) (steps : ℕ)
    (session : SessionState) (rules : List Rule) (now : Option (List ℕ)) (counted : ℕ) (refused : Bool)
    → Stands devices state last all written steps session rules [] now counted refused
    → AreAnswered devices state last all written now steps counted (Ok refused)
stands_last devices state last all written steps session rules now counted refused stands = record {
  text = stands.done;
  refused = refused;
  output = subst (λ t. IsOutput devices state all t refused) (append-nil stands.done)
      (subst (IsOutput devices state all (stands.done ++ [])) (or_false refused) (stands.output [] false (refl, refl)));
  written = stands.appended;
  answer = refl;
  sum = stands.judged;
  stale = subst (AreStale devices state last all) (omega arith) (stands.stale 0 refl);
  few = stands.few;
}

-- what is left of a list begins with the item at the index
pub drop_next : {A : Type 0} (list : List A) (index : ℕ) (item : A) → index < length list → item ≡ get_or list index item
    → drop index list ≡ item ∷ drop (index + 1) list
drop_next list index item below is =
    drop-cons list index item below
    ∙ ap (λ x. x ∷ drop (suc index) list) (sym is)
    ∙ ap (λ n. item ∷ drop n list) (sym (add-one index))

-- what is asked for by what is left, with the command at the index first
asked_next : (commands : List Command) (index : ℕ) (command : Command) → index < length commands → command ≡ get_or commands index command
    → asked (drop index commands) ≡ request_of command ∷ asked (drop (index + 1) commands)
asked_next commands index command below at = ap asked (drop_next commands index command below at)

module _ (devices : List DeviceDecl) (state : JobState) (last : List Judgement) (commands : List Command) (written : Option (List ℕ)) (steps : ℕ)
    (session : SessionState) (rules : List Rule) (index : ℕ) (command : Command) (now : Option (List ℕ)) (counted : ℕ) (refused : Bool)
    (stands : Stands devices state last (asked commands) written steps session rules (asked (drop index commands)) now counted refused)
    (below : index < length commands) (at : command ≡ get_or commands index command)
    (new : SessionState) (behind : Option (List ℕ)) (more : ℕ) where
  stands_at : Stands devices state last (asked commands) written steps session rules (request_of command ∷ asked (drop (index + 1) commands)) now counted refused
  stands_at = subst (λ rs. Stands devices state last (asked commands) written steps session rules rs now counted refused) (asked_next commands index command below at) stands

  pub turn_more : (in_force : List Rule) (later : Bool) → in_force ≡ rules_after rules (request_of command)
      → IsReplied session.devices (holding_under rules session.present) (request_of command) now behind (Ok later)
      → Changes session new (request_of command) (Ok later) → Judges session new (request_of command) counted more (Ok later)
      → (either : Bool) → either ≡ (refused || later)
      → Stands devices state last (asked commands) written steps new in_force (asked (drop (index + 1) commands)) behind more either
  turn_more in_force later rules_are replied changes judges either is =
      stands_more devices state last (asked commands) written steps session rules (request_of command) (asked (drop (index + 1) commands)) now counted refused stands_at
      new in_force behind more later rules_are replied changes judges either is

  pub turn_stopped : NamesOfDevicesDiffer devices → (error : WriteAll)
      → IsReplied session.devices (holding_under rules session.present) (request_of command) now behind (Err error)
      → Judges session new (request_of command) counted more (Err error)
      → AreAnswered devices state last (asked commands) written behind steps more (Err error)
  turn_stopped differ error replied judges =
      stands_stopped devices state last (asked commands) written steps session rules (request_of command) (asked (drop (index + 1) commands)) now counted refused stands_at
      differ new behind more error replied judges

-- no module is present at first
pub none_present : ArePresent []
unfolding IsStrictlySortedBy
none_present = tt

-- memory lacked before the first command
pub answered_nothing : (devices : List DeviceDecl) (requests : List Request) (sink : Option (List ℕ)) (steps : ℕ) → NamesOfDevicesDiffer devices
    → AreAnswered devices no_module [] requests sink sink steps steps (Err errors.NoMemory)
answered_nothing devices requests sink steps differ =
    let (text, refused, output) = outputs_exist devices no_module requests differ none_present in
    let (sum, stale) = stale_exist devices no_module [] requests differ none_present in
    record {
      text = text;
      refused = refused;
      output = output;
      written = WritesWhole-none Bool sink text;
      answer = tt;
      sum = sum;
      stale = stale;
      few = omega arith;
    }
