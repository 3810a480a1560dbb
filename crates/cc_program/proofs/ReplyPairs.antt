-- What replies to several commands about one definition have to do with each other.
use Rattle.std.proofs.Common.{◌≡◌, ◌↔◌, ◌⊎◌, ℕ, ◌+◌, ◌<◌, zero, suc, Bool, true, false, cond, ◌&&◌, List, [], ◌∷◌, length, map, Some, Result, Ok, Err, refl, sym, ap, ◌∙◌, subst, if◌then◌else◌, inl, inr, get_or, arith}
use Rattle.std.specs.Prelude.{slice_get}
use Rattle.std.specs.List.{AllByRecursion, filter, range_with_len}
use Rattle.std.proofs.lemmas.Option.{slice_get-get_or}
use Rattle.std.proofs.lemmas.List.{length-map}
use Rattle.cc_base.specs.declared.code.Code.{Code}
use Rattle.cc_base.specs.declared.code.Code.TheVariants.{E37}
use Rattle.cc_base.specs.declared.device.DeviceDecl.{DeviceDecl}
use Rattle.cc_core.specs.Stores.{is_permitted}
use Rattle.cc_device.specs.Events.{Event}
use Rattle.cc_entry_laws.specs.PresentEntries.{CheckedEntry, program_entry, started_in}
use Rattle.cc_verdicts.specs.ModuleVerdicts.{CheckedDefinition, ModuleVerdict}
use Rattle.cc_verdicts.specs.PresentTexts.{Texts, ArePresent, AreVerdicts}
use Rattle.cc_runs.specs.Links.{program_start}
use Rattle.cc_runs.specs.Runs.{Run, Ending}
use Rattle.cc_mnf.specs.ElaboratedModules.{device_names}
use Rattle.cc_policy.proofs.Deciding.{rules_decide, rules_decide_once}
use Rattle.cc_policy.specs.declared.policy.Decision.{Decision}
use Rattle.cc_policy.specs.declared.policy.Rule.{Rule}
use Rattle.cc_policy.specs.Policies.{decision_of}
use Rattle.cc_replay.proofs.AgreeingReplays.{agreeing_lines_are_traces}
use Rattle.cc_replay.proofs.FirstDifferences.{replays_differ_first}
use Rattle.cc_replay.specs.Replays.{replay}
use Rattle.cc_replay.specs.declared.replaying.Replayed.{Replayed as Outcome}
use Rattle.cc_replay.specs.declared.replaying.Replayed.TheVariants.{Agrees, Differs}
use Rattle.cc_replies.proofs.ReplyLaws.{replies_are_unique}
use Rattle.cc_replies.specs.PolicyReplies.{decision_named, decision_for, decisions, are_allowed, audit_told, permitted_told, guard_told, IsGuardAnswer}
use Rattle.cc_replies.specs.Replies.{Replies, IsAnswer}
use Rattle.cc_replies.specs.ReplayReplies.{replay_told}
use Rattle.cc_replies.specs.ReplyTexts.{Reply, Ran, RunRefused, Audited, AuditRefused, Guarded, GuardRefused, Replayed, ReplayRefused}
use Rattle.cc_replies.specs.Requests.{JobState, RunDefinition, AuditDefinition, GuardDefinition, ReplayDefinition, Ask}
use Rattle.cc_replies.specs.RunReplies.{declared_run, run_told, IsEntryAnswer, IsRunAnswer, HasEntry}
use Rattle.cc_words.specs.Lines.{lines_of}
use Rattle.cc_program.proofs.ReplayedRuns.{shown_runs_are_replayed}
use Rattle.cc_program.specs.ReplyPairs.{HasPresentEntry, AreDecided, AuditsTellDecisions, DecisionsAreTold, AllAllow, OneDenies, TellsOfGuardedRun, GuardsFollowAudits, GuardsShowRuns, AllowedRunsAreGuarded, ReplaysHaveEntries, ReplaysCompareTraces, ShownGuardedRunsAreReplayed}

-- ENTRIES OF REPLIES

-- what is told of the entry of a definition is what is answered
module _ (devices : List DeviceDecl) (texts : Texts) (module_name name : List ℕ) where
  answer_of : (verdicts : List ℕ → ModuleVerdict) (entry : CheckedEntry) → HasEntry devices texts verdicts (module_name, name) entry
      → (told : CheckedEntry → Reply) (refused : Code → Reply)
      → IsEntryAnswer devices texts verdicts module_name name told refused (started_in texts verdicts module_name name) (told entry)
  answer_of verdicts entry (started, starts, entered) told refused =
      subst (λ r. IsEntryAnswer devices texts verdicts module_name name told refused r (told entry)) (sym starts) (entry, entered, refl)

  -- the entry of a reply that tells of one
  record TellsOf (told : CheckedEntry → Reply) (reply : Reply) : Type 0 where
    entry : CheckedEntry
    has : HasPresentEntry devices texts module_name name entry
    is : reply ≡ told entry

  tells_at : (verdicts : List ℕ → ModuleVerdict) → AreVerdicts devices texts verdicts → (told : CheckedEntry → Reply) (refused : Code → Reply)
      (r : Result CheckedDefinition Code) (reply : Reply) → started_in texts verdicts module_name name ≡ r
      → ((code : Code) → reply ≡ refused code → ⊥)
      → IsEntryAnswer devices texts verdicts module_name name told refused r reply → TellsOf told reply
  tells_at verdicts are told refused (Ok started) reply starts not (entry, entered, same) = record {
    entry = entry;
    has = record { verdicts = verdicts; are = are; has = (started, starts, entered) };
    is = same;
  }
  tells_at verdicts are told refused (Err code) reply starts not same = absurd (not code same)

-- RECORDS OF REPLIES

record SameAudit (a b : List ℕ) (c d : List ℕ) (lines told : List (ℕ × Decision)) : Type 0 where
  owner : a ≡ b
  definition : c ≡ d
  same_lines : lines ≡ told

same_audit : (a b c d : List ℕ) (lines told : List (ℕ × Decision)) → Audited a c lines ≡ Audited b d told → SameAudit a b c d lines told
same_audit a b c d lines told e = record { owner = cc; definition = cc; same_lines = cc }

record SameReplay (a b c d : List ℕ) (outcome told : Outcome) : Type 0 where
  owner : a ≡ b
  definition : c ≡ d
  same_outcome : outcome ≡ told

same_replay : (a b c d : List ℕ) (outcome told : Outcome) → Replayed a c outcome ≡ Replayed b d told → SameReplay a b c d outcome told
same_replay a b c d outcome told e = record { owner = cc; definition = cc; same_outcome = cc }

-- AUDITS

-- what is listed of so many devices is less than their number
listed_first : (from limit : ℕ) (others : List ℕ) → from < limit → AllByRecursion (λ device. device < limit) others → (b : Bool)
    → AllByRecursion (λ device. device < limit) (cond b (from ∷ others) others)
listed_first from limit others low rest true = (low, rest)
listed_first from limit others low rest false = rest

listed_low : (test : ℕ → Bool) (from count limit : ℕ) → from + count ≡ limit
    → AllByRecursion (λ device. device < limit) (filter test (range_with_len from count))
listed_low test from zero limit e = tt
listed_low test from (suc count) limit e =
    listed_first from limit (filter test (range_with_len (from + 1) count)) (omega arith) (listed_low test (from + 1) count limit (omega arith))
    (test from)

-- devices that are declared have names
device_named : (devices : List DeviceDecl) (device : ℕ) → device < length devices
    → (name : List ℕ) × (slice_get (device_names devices) device ≡ Some name)
device_named devices device low =
    let long : device < length (device_names devices) = rw length-map low in
    (get_or (device_names devices) device [], slice_get-get_or (device_names devices) device [] long)

module _ (names : List (List ℕ)) (rules : List Rule) (module_name : List ℕ) where
  -- what is told of devices that have names is decided
  told_is_decided : (authority : List ℕ) → AllByRecursion (λ device. (name : List ℕ) × (slice_get names device ≡ Some name)) authority
      → AreDecided names rules module_name authority (decisions names rules module_name authority)
  told_is_decided [] named = refl
  told_is_decided (device ∷ devices) ((name, is), later) = (
    name,
    decision_of rules module_name name,
    decisions names rules module_name devices,
    is,
    rules_decide rules module_name name,
    told_is_decided devices later,
    ap (λ o. (device, decision_named rules module_name o) ∷ decisions names rules module_name devices) is,
  )

  -- what is decided is told
  decided_is_told : (authority : List ℕ) (lines : List (ℕ × Decision)) → AreDecided names rules module_name authority lines
      → lines ≡ decisions names rules module_name authority
  decided_is_told [] lines are = are
  decided_is_told (device ∷ devices) lines (name, decision, later, is, decides, rest, same) =
      let one : decision ≡ decision_for names rules module_name device =
      rules_decide_once rules module_name name decision decides ∙ ap (decision_named rules module_name) (sym is) in
      same ∙ (λ i. (device, one i) ∷ decided_is_told devices later rest i)

  -- all lines of an audit allow exactly where the test of permission says so, and one denies where it does not
  allowed_if_all : (authority : List ℕ) → AllAllow (decisions names rules module_name authority) → are_allowed names rules module_name authority ≡ true
  allowed_if_all [] all = refl
  allowed_if_all (device ∷ devices) all =
      both (decision_for names rules module_name device).allow (are_allowed names rules module_name devices) all.0 (allowed_if_all devices all.1)
    where
      both : (a b : Bool) → a ≡ true → b ≡ true → (a && b) ≡ true
      both true b h k = k
      both false b h k = cc

  all_if_allowed : (authority : List ℕ) → are_allowed names rules module_name authority ≡ true → AllAllow (decisions names rules module_name authority)
  all_if_allowed [] h = tt
  all_if_allowed (device ∷ devices) h =
      let parts = both (decision_for names rules module_name device).allow (are_allowed names rules module_name devices) h in
      (parts.0, all_if_allowed devices parts.1)
    where
      both : (a b : Bool) → (a && b) ≡ true → (a ≡ true) × (b ≡ true)
      both true true h = (refl, refl)
      both true false h = cc
      both false b h = cc

  denied_if_one : (authority : List ℕ) → OneDenies (decisions names rules module_name authority) → are_allowed names rules module_name authority ≡ false
  denied_if_one [] one = absurd one
  denied_if_one (device ∷ devices) (inl here) = ap (λ b. b && are_allowed names rules module_name devices) here
  denied_if_one (device ∷ devices) (inr later) = second (decision_for names rules module_name device).allow (denied_if_one devices later)
    where
      second : (a : Bool) → are_allowed names rules module_name devices ≡ false → (a && are_allowed names rules module_name devices) ≡ false
      second true h = h
      second false h = refl

  one_if_denied : (authority : List ℕ) → are_allowed names rules module_name authority ≡ false → OneDenies (decisions names rules module_name authority)
  one_if_denied [] h = cc
  one_if_denied (device ∷ devices) h =
      at (decision_for names rules module_name device).allow (are_allowed names rules module_name devices) h (λ later. one_if_denied devices later)
    where
      at : (a b : Bool) → (a && b) ≡ false → (b ≡ false → OneDenies (decisions names rules module_name devices))
          → (a ≡ false) ⊎ OneDenies (decisions names rules module_name devices)
      at true b h rest = inr (rest h)
      at false b h rest = inl refl

  told_devices : (authority : List ℕ) → map (λ line. line.0) (decisions names rules module_name authority) ≡ authority
  told_devices [] = refl
  told_devices (device ∷ devices) = ap (λ ds. device ∷ ds) (told_devices devices)

module _ (devices : List DeviceDecl) (state : JobState) (module_name name : List ℕ) where
  abbrev names : List (List ℕ)
  names = device_names devices

  -- a reply that tells of an audit is that of an entry
  audit_tells : (owner definition : List ℕ) (lines : List (ℕ × Decision))
      → Replies devices state (Ask (AuditDefinition module_name name)) (Audited owner definition lines)
      → TellsOf devices state.texts module_name name (audit_told devices state.rules module_name name) (Audited owner definition lines)
  audit_tells owner definition lines (verdicts, are, is) =
      tells_at devices state.texts module_name name verdicts are (audit_told devices state.rules module_name name) (AuditRefused module_name name)
      (started_in state.texts verdicts module_name name) (Audited owner definition lines) refl (λ code e. cc) is

  -- each device of the authority of an entry has a name
  authority_named : (entry : CheckedEntry) → HasPresentEntry devices state.texts module_name name entry
      → AllByRecursion (λ device. (of : List ℕ) × (slice_get names device ≡ Some of)) entry.authority
  authority_named entry has =
      let (started, starts, entered) = has.has in
      all_named entry.authority
      (subst (AllByRecursion (λ device. device < length devices)) (sym entered.permits)
      (listed_low (is_permitted started.accepted.signature.set) 0 (length devices) (length devices) (omega arith)))
    where
      all_named : (authority : List ℕ) → AllByRecursion (λ device. device < length devices) authority
          → AllByRecursion (λ device. (of : List ℕ) × (slice_get names device ≡ Some of)) authority
      all_named [] all = tt
      all_named (device ∷ others) all = (device_named devices device all.0, all_named others all.1)

  of_module : (entry : CheckedEntry) → HasPresentEntry devices state.texts module_name name entry → entry.module_name ≡ module_name
  of_module entry has = let (started, starts, entered) = has.has in entered.of_module

  -- what an audit tells, where its entry is known
  audit_is : (entry : CheckedEntry) → HasPresentEntry devices state.texts module_name name entry
      → audit_told devices state.rules module_name name entry
      ≡ Audited module_name name (decisions names state.rules module_name entry.authority)
  audit_is entry has = ap (λ m. Audited module_name name (decisions names state.rules m entry.authority)) (of_module entry has)

pub audits_tell_decisions : AuditsTellDecisions
audits_tell_decisions devices state module_name name owner definition lines replies =
    let tells = audit_tells devices state module_name name owner definition lines replies in
    let same = same_audit owner module_name definition name lines
    (decisions (device_names devices) state.rules module_name tells.entry.authority)
    (tells.is ∙ audit_is devices state module_name name tells.entry tells.has) in (
      same.owner,
      same.definition,
      (
        tells.entry,
        tells.has,
        subst (AreDecided (device_names devices) state.rules module_name tells.entry.authority) (sym same.same_lines)
            (told_is_decided (device_names devices) state.rules module_name tells.entry.authority
            (authority_named devices state module_name name tells.entry tells.has)),
      ),
    )

pub decisions_are_told : DecisionsAreTold
decisions_are_told devices state module_name name entry lines has are =
    let told = answer_of devices state.texts module_name name has.verdicts entry has.has (audit_told devices state.rules module_name name)
    (AuditRefused module_name name) in
    let same : audit_told devices state.rules module_name name entry ≡ Audited module_name name lines =
    audit_is devices state module_name name entry has
    ∙ ap (λ ls. Audited module_name name ls) (sym (decided_is_told (device_names devices) state.rules module_name entry.authority lines are)) in
    (has.verdicts, has.are, subst (IsAnswer devices state.rules state.texts has.verdicts (AuditDefinition module_name name)) same told)

-- GUARDS

-- the entry's devices are allowed or not, and so the guard runs it or not
module _ (module_name name authority : List ℕ) (it : Run) where
  abbrev guarded : Bool → Reply
  guarded b = if b then permitted_told module_name name authority it else GuardRefused module_name name E37

  guarded_run : (b : Bool) (reply : Reply) → reply ≡ guarded b → (b ≡ true) ↔ TellsOfGuardedRun module_name name authority reply
  guarded_run true reply e = (λ h. (it.events, it.ending, it.steps, e), λ tells. refl)
  guarded_run false reply e = (λ h. cc, λ (events, ending, steps, same). clash events ending steps (sym e ∙ same))
    where
      clash : (events : List Event) (ending : Ending) (steps : ℕ)
          → GuardRefused module_name name E37 ≡ Guarded module_name name authority events ending steps → ◌≡◌ {A = Bool} false true
      clash events ending steps same = cc

  guarded_not : (b : Bool) (reply : Reply) → reply ≡ guarded b → (b ≡ false) ↔ (reply ≡ GuardRefused module_name name E37)
  guarded_not true reply e = (λ h. cc, λ same. clash (sym e ∙ same))
    where
      clash : Guarded module_name name authority it.events it.ending it.steps ≡ GuardRefused module_name name E37 → ◌≡◌ {A = Bool} true false
      clash same = cc
  guarded_not false reply e = (λ h. e, λ same. refl)

-- a guard's reply where the definition has this entry
guard_is : (devices : List DeviceDecl) (state : JobState) → ArePresent state.texts → (module_name name : List ℕ) (fuel : ℕ) (entry : CheckedEntry)
    → HasPresentEntry devices state.texts module_name name entry → (reply : Reply)
    → Replies devices state (Ask (GuardDefinition module_name name fuel)) reply
    → reply
    ≡ guarded module_name name entry.authority (declared_run devices fuel entry)
    (are_allowed (device_names devices) state.rules module_name entry.authority)
guard_is devices state sorted module_name name fuel entry has reply replies =
    let told : IsGuardAnswer devices state.rules state.texts has.verdicts module_name name fuel
    (started_in state.texts has.verdicts module_name name) (guard_told devices state.rules module_name name fuel entry) =
    answer_of devices state.texts module_name name has.verdicts entry has.has (guard_told devices state.rules module_name name fuel)
    (GuardRefused module_name name) in
    replies_are_unique devices state (Ask (GuardDefinition module_name name fuel)) reply
    (guard_told devices state.rules module_name name fuel entry) sorted replies (has.verdicts, has.are, told)
    ∙ ap (λ m.
    guarded module_name name entry.authority (declared_run devices fuel entry)
    (are_allowed (device_names devices) state.rules m entry.authority)) (of_module devices state module_name name entry has)

both_ways : {A B C : Type 0} → A ↔ B → B ↔ C → A ↔ C
both_ways (to, from) (on, back) = (λ a. on (to a), λ c. from (back c))

pub guards_follow_audits : GuardsFollowAudits
guards_follow_audits devices state sorted module_name name owner definition lines fuel reply audited replies =
    let tells = audit_tells devices state module_name name owner definition lines audited in
    let entry = tells.entry in
    let same = same_audit owner module_name definition name lines (decisions (device_names devices) state.rules module_name entry.authority)
    (tells.is ∙ audit_is devices state module_name name entry tells.has) in
    let is = guard_is devices state sorted module_name name fuel entry tells.has reply replies in
    let b = are_allowed (device_names devices) state.rules module_name entry.authority in
    subst (λ ls.
    (AllAllow ls ↔ TellsOfGuardedRun module_name name (map (λ line. line.0) ls) reply)
    × (OneDenies ls ↔ (reply ≡ GuardRefused module_name name E37))) (sym same.same_lines) (
      subst (λ a.
          AllAllow (decisions (device_names devices) state.rules module_name entry.authority) ↔ TellsOfGuardedRun module_name name a reply)
          (sym (told_devices (device_names devices) state.rules module_name entry.authority))
          (both_ways
          (allowed_if_all (device_names devices) state.rules module_name entry.authority, all_if_allowed (device_names devices) state.rules module_name entry.authority)
          (guarded_run module_name name entry.authority (declared_run devices fuel entry) b reply is)),
      both_ways
          (denied_if_one (device_names devices) state.rules module_name entry.authority, one_if_denied (device_names devices) state.rules module_name entry.authority)
          (guarded_not module_name name entry.authority (declared_run devices fuel entry) b reply is),
    )

-- what a guard shows is told of a run
as_run : (b : Bool) (owner definition authority : List ℕ) (events : List Event) (ending : Ending) (steps : ℕ) (m n a : List ℕ) (it : Run)
    → Guarded owner definition authority events ending steps ≡ (if b then permitted_told m n a it else GuardRefused m n E37)
    → Ran m n a it.events it.ending it.steps ≡ Ran m n authority events ending steps
as_run true owner definition authority events ending steps m n a it e = sym (λ i. told (e i))
  where
    told : Reply → Reply
    told (Guarded o d b es g s) = Ran m n b es g s
    told other = other
as_run false owner definition authority events ending steps m n a it e = cc

-- a reply that tells of a guarded run is that of an entry
guard_tells : (devices : List DeviceDecl) (state : JobState) (module_name name owner definition : List ℕ) (fuel : ℕ) (authority : List ℕ)
    (events : List Event) (ending : Ending) (steps : ℕ)
    → Replies devices state (Ask (GuardDefinition module_name name fuel)) (Guarded owner definition authority events ending steps)
    → TellsOf devices state.texts module_name name (guard_told devices state.rules module_name name fuel)
    (Guarded owner definition authority events ending steps)
guard_tells devices state module_name name owner definition fuel authority events ending steps (verdicts, are, is) =
    tells_at devices state.texts module_name name verdicts are (guard_told devices state.rules module_name name fuel) (GuardRefused module_name name)
    (started_in state.texts verdicts module_name name) (Guarded owner definition authority events ending steps) refl (λ code e. cc) is

pub guards_show_runs : GuardsShowRuns
guards_show_runs devices state other alike module_name name owner definition fuel authority events ending steps replies =
    let tells = guard_tells devices state module_name name owner definition fuel authority events ending steps replies in
    let entry = tells.entry in
    let has = tells.has in
    let told = answer_of devices state.texts module_name name has.verdicts entry has.has
    (λ e. run_told module_name name e.authority (declared_run devices fuel e)) (RunRefused module_name name) in
    let same = as_run (are_allowed (device_names devices) state.rules entry.module_name entry.authority) owner definition authority events ending steps
    module_name name entry.authority (declared_run devices fuel entry) tells.is in
    let T : Texts → Type 0 = λ texts. (all : List ℕ → ModuleVerdict) × AreVerdicts devices texts all
    × IsRunAnswer devices texts all module_name name fuel (started_in texts all module_name name) (Ran module_name name authority events ending steps) in
    subst T (sym alike) (
      has.verdicts,
      has.are,
      subst (IsRunAnswer devices state.texts has.verdicts module_name name fuel (started_in state.texts has.verdicts module_name name)) same told,
    )

-- what a run shows is told of a guarded one
as_guarded : (owner definition authority : List ℕ) (events : List Event) (ending : Ending) (steps : ℕ) (m n a : List ℕ) (it : Run)
    → Ran owner definition authority events ending steps ≡ run_told m n a it → permitted_told m n a it ≡ Guarded m n authority events ending steps
as_guarded owner definition authority events ending steps m n a it e = sym (λ i. told (e i))
  where
    told : Reply → Reply
    told (Ran o d b es g s) = Guarded m n b es g s
    told other = other

pub allowed_runs_are_guarded : AllowedRunsAreGuarded
allowed_runs_are_guarded devices state sorted module_name name owner definition audited_owner audited_definition lines fuel authority events ending steps audited all replies =
    let tells = audit_tells devices state module_name name audited_owner audited_definition lines audited in
    let entry = tells.entry in
    let has = tells.has in
    let same = same_audit audited_owner module_name audited_definition name lines (decisions (device_names devices) state.rules module_name entry.authority)
    (tells.is ∙ audit_is devices state module_name name entry has) in
    let allowed = allowed_if_all (device_names devices) state.rules module_name entry.authority (subst AllAllow same.same_lines all) in
    let ran = answer_of devices state.texts module_name name has.verdicts entry has.has
    (λ e. run_told module_name name e.authority (declared_run devices fuel e)) (RunRefused module_name name) in
    let one = replies_are_unique devices state (Ask (RunDefinition module_name name fuel)) (Ran owner definition authority events ending steps)
    (run_told module_name name entry.authority (declared_run devices fuel entry)) sorted replies (has.verdicts, has.are, ran) in
    let told = answer_of devices state.texts module_name name has.verdicts entry has.has (guard_told devices state.rules module_name name fuel)
    (GuardRefused module_name name) in
    let is : guard_told devices state.rules module_name name fuel entry ≡ Guarded module_name name authority events ending steps =
    ap (λ m.
    guarded module_name name entry.authority (declared_run devices fuel entry)
    (are_allowed (device_names devices) state.rules m entry.authority)) (of_module devices state module_name name entry has)
    ∙ ap (guarded module_name name entry.authority (declared_run devices fuel entry)) allowed
    ∙ as_guarded owner definition authority events ending steps module_name name entry.authority (declared_run devices fuel entry) one in
    (has.verdicts, has.are, subst (IsAnswer devices state.rules state.texts has.verdicts (GuardDefinition module_name name fuel)) is told)

-- REPLAYS

pub replays_have_entries : ReplaysHaveEntries
replays_have_entries devices state module_name name owner definition fuel text outcome (verdicts, are, is) =
    let tells = tells_at devices state.texts module_name name verdicts are (replay_told (device_names devices) module_name name fuel text)
    (ReplayRefused module_name name) (started_in state.texts verdicts module_name name) (Replayed owner definition outcome) refl (λ code e. cc) is in
    let same = same_replay owner module_name definition name outcome
    (replay (device_names devices) fuel (program_start (program_entry tells.entry)) (lines_of text)) tells.is in
    (same.owner, same.definition, (tells.entry, tells.has))

pub replays_compare_traces : ReplaysCompareTraces
replays_compare_traces devices state sorted module_name name entry has fuel text reply replies =
    let start = program_start (program_entry entry) in
    let outcome = replay (device_names devices) fuel start (lines_of text) in
    let told = answer_of devices state.texts module_name name has.verdicts entry has.has (replay_told (device_names devices) module_name name fuel text)
    (ReplayRefused module_name name) in
    let is : reply ≡ Replayed module_name name outcome =
    replies_are_unique devices state (Ask (ReplayDefinition module_name name fuel text)) reply (Replayed module_name name outcome) sorted replies
    (has.verdicts, has.are, told) in
    let says = λ (other : Outcome). says_so reply outcome other is in
    let traces = agreeing_lines_are_traces (device_names devices) fuel start (lines_of text) in (
      both_ways (says Agrees) (traces.0, λ (it, same). traces.1 it same),
      λ line. both_ways (says (Differs line)) (replays_differ_first (device_names devices) fuel start (lines_of text) line),
      one_of reply outcome is,
    )
  where
    says_so : (reply : Reply) (outcome other : Outcome) → reply ≡ Replayed module_name name outcome
        → (reply ≡ Replayed module_name name other) ↔ (outcome ≡ other)
    says_so reply outcome other is =
        (λ e. (same_replay module_name module_name name name outcome other (sym is ∙ e)).same_outcome, λ e. is ∙ ap (λ o. Replayed module_name name o) e)

    one_of : (reply : Reply) (outcome : Outcome) → reply ≡ Replayed module_name name outcome
        → (reply ≡ Replayed module_name name Agrees) ⊎ ((line : ℕ) × (reply ≡ Replayed module_name name (Differs line)))
    one_of reply Agrees is = inl is
    one_of reply (Differs line) is = inr (line, is)

pub shown_guarded_runs_are_replayed : ShownGuardedRunsAreReplayed
shown_guarded_runs_are_replayed bytes job is_job state other sorted alike module_name name owner definition fuel authority events ending steps guarded reply replies =
    shown_runs_are_replayed bytes job is_job state other sorted alike module_name name module_name name fuel authority events ending steps
    (guards_show_runs job.devices state state refl module_name name owner definition fuel authority events ending steps guarded) reply replies
