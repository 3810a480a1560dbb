-- What the replies of every job say is so.
use Rattle.std.proofs.Common.{◌≡◌, ℕ, zero, suc, ◌+◌, ◌<◌, ◌≤◌, Bool, true, false, cond, List, [], ◌∷◌, ◌++◌, map, length, Option, Some, None, Result, Ok, Err, refl, sym, ap, ◌∙◌, subst, if◌then◌else◌, inl, inr, arith}
use Rattle.std.proofs.lemmas.Bool.{cases_Bool}
use Rattle.std.proofs.lemmas.List.{length-map}
use Rattle.std.proofs.lemmas.Option.{same_Some, slice_get-get_or}
use Rattle.std.proofs.lemmas.Slice.Eq.{bytes_eq-Decides}
use Rattle.std.specs.List.{AllByRecursion, range_with_len}
use Rattle.std.specs.List.Sorted.{IsStrictlySortedBy}
use Rattle.std.specs.Map.{keys_of}
use Rattle.std.specs.Option.{is_some}
use Rattle.std.specs.Ordering.{is_eq}
use Rattle.std.specs.Prelude.{filter, get_or, nat_le, slice_get}
use Rattle.std.specs.Str.{bytes_eq}
use Rattle.std.specs.declared.cmp.Ordering.TheVariants.{Less}
use Rattle.cc_base.specs.NameTexts.{bytes_eq-order}
use Rattle.cc_base.specs.Names.{compare_names}
use Rattle.cc_base.specs.declared.code.Code.{Code}
use Rattle.cc_base.specs.declared.code.Code.TheVariants.{E32, E34, E36, E37}
use Rattle.cc_base.specs.declared.device.DeviceDecl.{DeviceDecl}
use Rattle.cc_base.specs.declared.place.Place.{Place}
use Rattle.cc_certificate_judging.proofs.BytesFound.{something_is_found}
use Rattle.cc_certificate_judging.specs.Answers.{Found, IsFound}
use Rattle.cc_certificate_laws.proofs.JobDevices.{job_devices_named}
use Rattle.cc_certificate_laws.specs.ModuleCertificates.{AreNamed}
use Rattle.cc_certificate_writing.specs.Certificates.{lines_text}
use Rattle.cc_certificate_writing.specs.DefinitionCertificates.{definition_certificate_lines}
use Rattle.cc_checking.specs.Verdicts as definitions
use Rattle.cc_core.specs.Contexts.{Context}
use Rattle.cc_core.specs.Stores.{is_permitted, authority}
use Rattle.cc_entry_laws.proofs.ShownVerdicts.{shown_refusals_are_judged, shown_definitions_are_judged}
use Rattle.cc_entry_laws.proofs.SoundFiles.{present_files_are_sound}
use Rattle.cc_entry_laws.specs.PresentEntries.{CheckedEntry, program_entry, started_in, IsEntryOf}
use Rattle.cc_entry_laws.specs.PresentFiles.{IsJudged, SaysRight, HasRefused, HasAccepted}
use Rattle.cc_job.specs.Jobs.{IsJob}
use Rattle.cc_job.specs.declared.job.Job.{Job}
use Rattle.cc_mnf.specs.ElaboratedModules.{CoreDefinition, device_names}
use Rattle.cc_policy.specs.declared.policy.Decision.{Decision}
use Rattle.cc_policy.specs.declared.policy.Rule.{Rule}
use Rattle.cc_replay.specs.Replays.{replay}
use Rattle.cc_replay.specs.declared.replaying.Replayed.{Replayed as Outcome}
use Rattle.cc_replay.specs.declared.replaying.Replayed.TheVariants.{Agrees, Differs}
use Rattle.cc_replies.proofs.PolicyLaws.{told_decisions_are_decided}
use Rattle.cc_replies.proofs.PresentAfter.{texts_stay_present}
use Rattle.cc_replies.specs.ExplainReplies.{IsExplainAnswer}
use Rattle.cc_replies.specs.Outputs.{IsOutput}
use Rattle.cc_replies.specs.PolicyReplies.{decision_for, decisions, are_allowed, permitted_told, IsAuditAnswer, IsGuardAnswer}
use Rattle.cc_replies.specs.ReplayReplies.{replay_told, IsReplayAnswer}
use Rattle.cc_replies.specs.Replies.{IsAnswer, Replies, after, derivation_size, derivation_reply, definitions_reply}
use Rattle.cc_replies.specs.ReplyTexts.{Reply, SignaturesRefused, Derived, DerivationRefused, GuardRefused, Replayed}
use Rattle.cc_replies.specs.Requests.{Question, CheckModules, ShowSignature, ShowDerivation, RunDefinition, RunTasks, AuditDefinition, GuardDefinition, ExplainDefinition, ReplayDefinition, Request, PutText, DropModule, SetPolicy, VerifyText, Ask, JobState, no_module}
use Rattle.cc_replies.specs.RunReplies.{declared_run, HasEntry, IsRunAnswer, Unstarted, first_unstarted, unstarted_or, IsTasksAnswer}
use Rattle.cc_runs.specs.Links.{program_start}
use Rattle.cc_answers.proofs.Answering.{none_present}
use Rattle.cc_answers.specs.Requests.{requests_of}
use Rattle.cc_verdicts.specs.ModuleLaws.{NamesOfDevicesDiffer}
use Rattle.cc_verdicts.specs.ModuleVerdicts.{CheckedDefinition, ModuleVerdict, IsAccepted, IsRefused, to_be_checked}
use Rattle.cc_verdicts.specs.PresentTexts.{Texts, ArePresent, text_of, AreVerdicts}
use Rattle.cc_verdicts.specs.StandingDefinitions.{Standing, standing_in, standing_names, standing_context}
use Rattle.cc_words.specs.Lines.{lines_of}
use Rattle.cc_program.specs.ExplainedSignatures.{ExplainedSignaturesAreExplained}
use Rattle.cc_program.specs.GuardedRuns.{ShownGuardedRunsArePermitted, IsNotPermitted, RefusedEntriesAreNotPermitted}
use Rattle.cc_program.specs.ReplayedRuns.{AgreeingTracesKeepTheAuthority, DiffersFirst, DifferencesAreFirst}
use Rattle.cc_program.specs.SoundJobs.{NamesDefinition, ShownRunsAreSafe, ShownTasksAreSafe}
use Rattle.cc_program.specs.SoundReplies.{IsShownDefinition, IsShownRefusal, SaysOfModule, IsNotStarted, IsGuardRefusal, SaysVerdicts, SaysSignatures, SaysDerivation, SaysRun, SaysTasks, SaysAudit, SaysGuarded, SaysExplanation, SaysReplay, SaysFound, Says, IsSoundReply, IsSoundOutput, EveryOutputIsSound}
use Rattle.cc_program.specs.TrueReplies.{IsDecided}
use Rattle.cc_program.proofs.ExplainedSignatures.{explains_at}
use Rattle.cc_program.proofs.GuardedRuns.{permitted_shown, not_permitted, not_started_in}
use Rattle.cc_program.proofs.ReplayedRuns.{safe_trace, first_difference}
use Rattle.cc_program.proofs.SoundJobs.{entry_shown, entries_shown}
use Rattle.cc_program.proofs.VerifiedTexts.{valid_at}

-- ---- the text of each present module is that of its name
-- a name that stands behind another is not that one
other_name : (first name : List ℕ) → compare_names first name ≡ Less → bytes_eq name first ≡ false
other_name first name less =
    elim (cases_Bool (bytes_eq name first)) [
      | inl same ↦
          (let names : name ≡ first = (bytes_eq-Decides name first).0 same in
          let self : bytes_eq first name ≡ true = (bytes_eq-Decides first name).1 (sym names) in
          let no : bytes_eq first name ≡ false = bytes_eq-order first name ∙ ap is_eq less in cc)
      | inr other ↦ other
    ]

text_behind : (first : List ℕ × List ℕ) (rest others : Texts) → AllByRecursion (λ name. compare_names first.0 name ≡ Less) (keys_of others)
    → AllByRecursion (λ one. text_of rest one.0 ≡ Some one.1) others
    → AllByRecursion (λ one. text_of (first ∷ rest) one.0 ≡ Some one.1) others
text_behind first rest [] less all = tt
text_behind first rest (one ∷ others) less all =
    (rw (other_name first.0 one.0 less.0) all.0, text_behind first rest others less.1 all.1)

texts_are : (texts : Texts) → ArePresent texts → AllByRecursion (λ one. text_of texts one.0 ≡ Some one.1) texts
unfolding IsStrictlySortedBy
texts_are [] sorted = tt
texts_are (first ∷ rest) sorted =
    (rw ((bytes_eq-Decides first.0 first.0).1 refl) refl, text_behind first rest rest sorted.0 (texts_are rest sorted.1))

-- ---- verdicts and signatures
module _ (devices : List DeviceDecl) (texts : Texts) (differ : NamesOfDevicesDiffer devices) (sorted : ArePresent texts)
    (verdicts : List ℕ → ModuleVerdict) (are : AreVerdicts devices texts verdicts) where
  -- what a verdict of a definition says is so
  verdict_says : (globals : Context) (definition : CoreDefinition) (verdict : definitions.Verdict)
      → IsJudged devices texts verdicts globals definition
      → definitions.HasVerdict (length devices) globals (to_be_checked definition) verdict
      → SaysRight (length devices) globals (to_be_checked definition) verdict
  verdict_says globals definition verdict judged has =
      let it = (present_files_are_sound devices texts differ sorted).definitions verdicts are globals definition judged in
      subst (SaysRight (length devices) globals (to_be_checked definition)) (sym (it.only verdict has)) it.right

  definition_says : (name : List ℕ) (shown : CheckedDefinition) → HasAccepted devices texts verdicts name shown
      → IsShownDefinition devices texts verdicts name shown
  definition_says name shown is = record {
    judged = is;
    typed = verdict_says is.globals is.definition (definitions.IsAccepted shown.accepted) is.judged is.accepted;
  }

  definitions_say : (name : List ℕ) (shown : List CheckedDefinition) → AllByRecursion (HasAccepted devices texts verdicts name) shown
      → AllByRecursion (IsShownDefinition devices texts verdicts name) shown
  definitions_say name [] all = tt
  definitions_say name (first ∷ rest) all = (definition_says name first all.0, definitions_say name rest all.1)

  refusal_says : (name : List ℕ) (code : Code) (at : Place) → HasRefused devices texts verdicts name code at
      → IsShownRefusal devices texts verdicts name code at
  refusal_says name code at is = record {
    judged = is;
    untyped = verdict_says is.globals is.definition (definitions.IsRefused code at) is.judged is.refused;
  }

  -- what a verdict of a module says
  module_says : (name text : List ℕ) → text_of texts name ≡ Some text → (verdict : ModuleVerdict) → verdicts name ≡ verdict
      → SaysOfModule devices texts verdicts name verdict
  module_says name text there (IsAccepted shown) same =
      definitions_say name shown (shown_definitions_are_judged devices texts verdicts are name text shown there same)
  module_says name text there (IsRefused code at) same =
      λ is. refusal_says name code at (shown_refusals_are_judged devices texts verdicts are name text code at there same is)

  modules_say : (others : Texts) → AllByRecursion (λ (one : List ℕ × List ℕ). text_of texts one.0 ≡ Some one.1) others
      → AllByRecursion (λ (one : List ℕ × ModuleVerdict). SaysOfModule devices texts verdicts one.0 one.1)
      (map (λ (one : List ℕ × List ℕ). (one.0, verdicts one.0)) others)
  modules_say [] all = tt
  modules_say (first ∷ rest) all = (module_says first.0 first.1 all.0 (verdicts first.0) refl, modules_say rest all.1)

-- ---- audits
listed_all : (P : ℕ → Type 0) (test : ℕ → Bool) (xs : List ℕ) → AllByRecursion P xs → AllByRecursion P (filter test xs)
listed_all P test [] all = tt
listed_all P test (x ∷ xs) all = at (test x) (listed_all P test xs all.1)
  where
    at : (b : Bool) → AllByRecursion P (filter test xs) → AllByRecursion P (cond b (x ∷ filter test xs) (filter test xs))
    at true rest = (all.0, rest)
    at false rest = rest

-- the number has a name
abbrev IsNamed : List (List ℕ) → ℕ → Type 0
IsNamed names number = (name : List ℕ) × (slice_get names number ≡ Some name)

numbers_named : (names : List (List ℕ)) (count from : ℕ) → from + count ≤ length names → AllByRecursion (IsNamed names) (range_with_len from count)
numbers_named names zero from low = tt
numbers_named names (suc count) from low =
    ((get_or names from [], slice_get-get_or names from [] (omega arith)), numbers_named names count (from + 1) (omega arith))

module _ (names : List (List ℕ)) (rules : List Rule) (module_name : List ℕ) where
  numbers_kept : (numbers : List ℕ) → map (λ one. one.0) (decisions names rules module_name numbers) ≡ numbers
  numbers_kept [] = refl
  numbers_kept (first ∷ rest) = ap (λ ns. first ∷ ns) (numbers_kept rest)

  all_decided : (numbers : List ℕ) → AllByRecursion (IsNamed names) numbers
      → AllByRecursion (IsDecided names rules module_name) (decisions names rules module_name numbers)
  all_decided [] all = tt
  all_decided (first ∷ rest) all = (
    record {
      name = all.0.0;
      named = all.0.1;
      decides = told_decisions_are_decided names rules module_name first all.0.0 all.0.1;
    },
    all_decided rest all.1,
  )

-- ---- replies
-- no definition is refused to be started with the code of what is not permitted
as_refused : (devices : List DeviceDecl) (state : JobState) (module_name name : List ℕ) (code : Code) → (code ≡ E37 → ⊥)
    → IsNotStarted devices state.texts module_name name code → IsGuardRefusal devices state module_name name code
as_refused devices state module_name name E37 apart is = absurd (apart refl)
as_refused devices state module_name name code apart is = is

module _ (devices : List DeviceDecl) (state : JobState) (differ : NamesOfDevicesDiffer devices) (sorted : ArePresent state.texts)
    (verdicts : List ℕ → ModuleVerdict) (are : AreVerdicts devices state.texts verdicts) where
  not_started : (module_name name : List ℕ) (code : Code) → started_in state.texts verdicts module_name name ≡ Err code
      → IsNotStarted devices state.texts module_name name code
  not_started module_name name code reason = record { verdicts = verdicts; are = are; reason = reason }

  signatures_say : (name : List ℕ) (verdict : ModuleVerdict) → verdicts name ≡ verdict → (text : Option (List ℕ)) → text_of state.texts name ≡ text
      → SaysSignatures devices state name (if is_some text then definitions_reply name verdict else SignaturesRefused name E32)
  signatures_say name (IsAccepted shown) same (Some text) there = (
    refl,
    record {
      verdicts = verdicts;
      are = are;
      accepted = same;
      say =
          definitions_say devices state.texts differ sorted verdicts are name shown
          (shown_definitions_are_judged devices state.texts verdicts are name text shown there same);
    },
  )
  signatures_say name (IsRefused code at) same (Some text) there = refl
  signatures_say name verdict same None there = refl

  run_says : (module_name name : List ℕ) (fuel : ℕ) (reply : Reply) (r : Result CheckedDefinition Code)
      → started_in state.texts verdicts module_name name ≡ r → IsRunAnswer devices state.texts verdicts module_name name fuel r reply
      → SaysRun devices state module_name name fuel reply
  run_says module_name name fuel reply (Ok started) starts (entry, entered, same) =
      subst (SaysRun devices state module_name name fuel) (sym same)
      ((refl, refl), entry_shown devices state.texts differ sorted verdicts are module_name name fuel entry (started, starts, entered))
  run_says module_name name fuel reply (Err code) starts same =
      subst (SaysRun devices state module_name name fuel) (sym same) ((refl, refl), not_started module_name name code starts)

  -- the first that is not started is not
  unstarted_at : (task : List ℕ × List ℕ) (others : Option Unstarted) (first : Unstarted)
      → (others ≡ Some first → IsNotStarted devices state.texts first.module_name first.name first.code)
      → (r : Result CheckedDefinition Code) → started_in state.texts verdicts task.0 task.1 ≡ r
      → unstarted_or task.0 task.1 r others ≡ Some first → IsNotStarted devices state.texts first.module_name first.name first.code
  unstarted_at task others first later (Ok started) starts is = later is
  unstarted_at task others first later (Err code) starts is =
      let P : Unstarted → Type 0 = λ (it : Unstarted). IsNotStarted devices state.texts it.module_name it.name it.code in
      subst P (same_Some (record { module_name = task.0; name = task.1; code = code }) first is) (not_started task.0 task.1 code starts)

  unstarted_is : (tasks : List (List ℕ × List ℕ)) (first : Unstarted) → first_unstarted state.texts verdicts tasks ≡ Some first
      → IsNotStarted devices state.texts first.module_name first.name first.code
  unstarted_is [] first same = cc
  unstarted_is (task ∷ tasks) first same =
      unstarted_at task (first_unstarted state.texts verdicts tasks) first (unstarted_is tasks first)
      (started_in state.texts verdicts task.0 task.1) refl same

  tasks_say : (fuel : ℕ) (schedule : List ℕ) (tasks : List (List ℕ × List ℕ)) (reply : Reply) (o : Option Unstarted)
      → first_unstarted state.texts verdicts tasks ≡ o → IsTasksAnswer devices state.texts verdicts fuel schedule tasks o reply
      → SaysTasks devices state fuel schedule tasks reply
  tasks_say fuel schedule tasks reply (Some first) is same =
      subst (SaysTasks devices state fuel schedule tasks) (sym same) (unstarted_is tasks first is)
  tasks_say fuel schedule tasks reply None is (entries, have, same) =
      subst (SaysTasks devices state fuel schedule tasks) (sym same)
      (entries_shown devices state.texts differ sorted verdicts are fuel schedule tasks entries have)

  pub audit_says : (module_name name : List ℕ) (reply : Reply) (r : Result CheckedDefinition Code)
      → started_in state.texts verdicts module_name name ≡ r → IsAuditAnswer devices state.rules state.texts verdicts module_name name r reply
      → SaysAudit devices state module_name name reply
  audit_says module_name name reply (Ok started) starts (entry, entered, same) =
      let names = device_names devices in
      let all : AllByRecursion (IsNamed names) entry.authority =
      subst (AllByRecursion (IsNamed names)) (sym entered.permits)
      (listed_all (IsNamed names) (is_permitted started.accepted.signature.set) (range_with_len 0 (length devices))
      (numbers_named names (length devices) 0 (all_named (length names) (length devices) (length-map devices (λ device. device.name))))) in
      subst (SaysAudit devices state module_name name) (sym same) (
        (refl, refl),
        record {
          verdicts = verdicts;
          are = are;
          entry = entry;
          of_definition = (started, starts, entered);
          of_authority = numbers_kept names state.rules entry.module_name entry.authority;
          decided =
              subst (λ m. AllByRecursion (IsDecided names state.rules m) (decisions names state.rules entry.module_name entry.authority)) entered.of_module
              (all_decided names state.rules entry.module_name entry.authority all);
        },
      )
    where
      all_named : (m n : ℕ) → m ≡ n → 0 + n ≤ m
      all_named m n e = omega arith
  audit_says module_name name reply (Err code) starts same =
      subst (SaysAudit devices state module_name name) (sym same) ((refl, refl), not_started module_name name code starts)

  -- what is told of an entry under a guard
  guarded_entry : (module_name name : List ℕ) (fuel : ℕ) (entry : CheckedEntry) → HasEntry devices state.texts verdicts (module_name, name) entry
      → (b : Bool) → are_allowed (device_names devices) state.rules entry.module_name entry.authority ≡ b
      → SaysGuarded devices state module_name name fuel
      (if b then permitted_told module_name name entry.authority (declared_run devices fuel entry) else GuardRefused module_name name E37)
  guarded_entry module_name name fuel entry has true allowed =
      ((refl, refl), permitted_shown devices state differ sorted verdicts are module_name name fuel entry has allowed)
  guarded_entry module_name name fuel entry has false denied =
      ((refl, refl), not_permitted devices state verdicts are module_name name entry has denied)

  guarded_says : (module_name name : List ℕ) (fuel : ℕ) (reply : Reply) (r : Result CheckedDefinition Code)
      → started_in state.texts verdicts module_name name ≡ r
      → IsGuardAnswer devices state.rules state.texts verdicts module_name name fuel r reply
      → SaysGuarded devices state module_name name fuel reply
  guarded_says module_name name fuel reply (Ok started) starts (entry, entered, same) =
      subst (SaysGuarded devices state module_name name fuel) (sym same)
      (guarded_entry module_name name fuel entry (started, starts, entered)
      (are_allowed (device_names devices) state.rules entry.module_name entry.authority) refl)
  guarded_says module_name name fuel reply (Err code) starts same =
      subst (SaysGuarded devices state module_name name fuel) (sym same) (
        (refl, refl),
        as_refused devices state module_name name code
            (λ is. not_started_in state.texts verdicts module_name name (starts ∙ ap Err is))
            (not_started module_name name code starts),
      )

  explanation_says : (module_name name : List ℕ) (reply : Reply) (r : Result Standing Code) → standing_in state.texts verdicts module_name name ≡ r
      → IsExplainAnswer devices state.texts verdicts module_name name r reply → SaysExplanation devices state module_name name reply
  explanation_says module_name name reply (Ok it) stands (explanations, explained, same) =
      subst (SaysExplanation devices state module_name name) (sym same)
      ((refl, refl), explains_at devices state.texts differ sorted verdicts are module_name name it stands explanations explained)
  explanation_says module_name name reply (Err code) stands same =
      subst (SaysExplanation devices state module_name name) (sym same) (refl, refl)

  -- what is told of a replay with an entry
  replayed_entry : (module_name name : List ℕ) (fuel : ℕ) (text : List ℕ) (started : CheckedDefinition)
      → started_in state.texts verdicts module_name name ≡ Ok started → (entry : CheckedEntry)
      → IsEntryOf devices state.texts verdicts module_name name started entry → (outcome : Outcome)
      → replay (device_names devices) fuel (program_start (program_entry entry)) (lines_of text) ≡ outcome
      → SaysReplay devices state module_name name fuel text (Replayed module_name name outcome)
  replayed_entry module_name name fuel text started starts entry entered Agrees is =
      ((refl, refl), safe_trace devices state.texts differ sorted verdicts are module_name name started starts entry entered fuel text is)
  replayed_entry module_name name fuel text started starts entry entered (Differs line) is =
      ((refl, refl), first_difference devices state.texts verdicts are module_name name entry (started, starts, entered) fuel text line is)

  replay_says : (module_name name : List ℕ) (fuel : ℕ) (text : List ℕ) (reply : Reply) (r : Result CheckedDefinition Code)
      → started_in state.texts verdicts module_name name ≡ r
      → IsReplayAnswer devices state.texts verdicts module_name name fuel text r reply
      → SaysReplay devices state module_name name fuel text reply
  replay_says module_name name fuel text reply (Ok started) starts (entry, entered, same) =
      subst (SaysReplay devices state module_name name fuel text) (sym same)
      (replayed_entry module_name name fuel text started starts entry entered
      (replay (device_names devices) fuel (program_start (program_entry entry)) (lines_of text)) refl)
  replay_says module_name name fuel text reply (Err code) starts same =
      subst (SaysReplay devices state module_name name fuel text) (sym same) ((refl, refl), not_started module_name name code starts)

  -- the certificate of a definition, where devices have names of one line
  derivation_told_says : AreNamed devices → (module_name name : List ℕ) (it : Standing) → standing_in state.texts verdicts module_name name ≡ Ok it
      → (b : Bool) → nat_le (derivation_size devices it) 100000 ≡ b
      → SaysDerivation devices state module_name name
      (if b then Derived module_name name
      (definition_certificate_lines (standing_names devices it) (standing_context devices it) it.definition.accepted)
      else DerivationRefused module_name name E36)
  derivation_told_says named module_name name it stands true small =
      let lines = definition_certificate_lines (standing_names devices it) (standing_context devices it) it.definition.accepted in
      let (found, is) = something_is_found (lines_text lines) in (
        (refl, refl),
        record {
          found = found;
          is_found = is;
          says = valid_at devices state.texts named sorted verdicts are module_name name it stands small found is;
        },
      )
  derivation_told_says named module_name name it stands false large = (refl, refl)

  derivation_says : AreNamed devices → (module_name name : List ℕ) (reply : Reply) (r : Result Standing Code)
      → standing_in state.texts verdicts module_name name ≡ r → reply ≡ derivation_reply devices module_name name r
      → SaysDerivation devices state module_name name reply
  derivation_says named module_name name reply (Ok it) stands same =
      subst (SaysDerivation devices state module_name name) (sym same)
      (derivation_told_says named module_name name it stands (nat_le (derivation_size devices it) 100000) refl)
  derivation_says named module_name name reply (Err code) stands same =
      subst (SaysDerivation devices state module_name name) (sym same) (refl, refl)

  -- what is answered to a question says what is so
  question_says : AreNamed devices → (question : Question) (reply : Reply) → IsAnswer devices state.rules state.texts verdicts question reply
      → Says devices state question reply
  question_says named CheckModules reply same =
      subst (SaysVerdicts devices state) (sym same) (
      record {
        verdicts = verdicts;
        are = are;
        of_modules = refl;
        say = modules_say devices state.texts differ sorted verdicts are state.texts (texts_are state.texts sorted);
      }
      )
  question_says named (ShowSignature name) reply same =
      subst (SaysSignatures devices state name) (sym same) (signatures_say name (verdicts name) refl (text_of state.texts name) refl)
  question_says named (ShowDerivation module_name name) reply same =
      derivation_says named module_name name reply (standing_in state.texts verdicts module_name name) refl same
  question_says named (RunDefinition module_name name fuel) reply is =
      run_says module_name name fuel reply (started_in state.texts verdicts module_name name) refl is
  question_says named (RunTasks fuel schedule tasks) reply is =
      tasks_say fuel schedule tasks reply (first_unstarted state.texts verdicts tasks) refl is
  question_says named (AuditDefinition module_name name) reply is =
      audit_says module_name name reply (started_in state.texts verdicts module_name name) refl is
  question_says named (GuardDefinition module_name name fuel) reply is =
      guarded_says module_name name fuel reply (started_in state.texts verdicts module_name name) refl is
  question_says named (ExplainDefinition module_name name) reply is =
      explanation_says module_name name reply (standing_in state.texts verdicts module_name name) refl is
  question_says named (ReplayDefinition module_name name fuel text) reply is =
      replay_says module_name name fuel text reply (started_in state.texts verdicts module_name name) refl is

-- so does the reply to a command
reply_is_sound : (devices : List DeviceDecl) (state : JobState) → AreNamed devices → ArePresent state.texts
    → (request : Request) (reply : Reply) → Replies devices state request reply → IsSoundReply devices state request reply
reply_is_sound devices state named sorted (PutText name text) reply same = tt
reply_is_sound devices state named sorted (DropModule name) reply same = tt
reply_is_sound devices state named sorted (SetPolicy rules) reply same = tt
reply_is_sound devices state named sorted (VerifyText text) reply (found, is, same) = subst (SaysFound text) (sym same) is
reply_is_sound devices state named sorted (Ask question) reply (verdicts, are, is) =
    question_says devices state named.apart sorted verdicts are named question reply is

outputs_are_sound : (devices : List DeviceDecl) (state : JobState) → AreNamed devices → ArePresent state.texts
    → (requests : List Request) (text : List ℕ) (refused : Bool) → IsOutput devices state requests text refused
    → IsSoundOutput devices state requests text
outputs_are_sound devices state named sorted [] text refused is = is.0
outputs_are_sound devices state named sorted (first ∷ others) text refused is =
    let (reply, rest, later, replies, behind, same, either) = is in (
      reply,
      rest,
      replies,
      reply_is_sound devices state named sorted first reply replies,
      outputs_are_sound devices (after state first) named (texts_stay_present state first sorted) others rest later behind,
      same,
    )

pub every_output_is_sound : EveryOutputIsSound
every_output_is_sound bytes job is text refused output =
    outputs_are_sound job.devices no_module (job_devices_named bytes job is) none_present (requests_of job) text refused output

-- ---- the laws of each reply
pub shown_runs_are_safe : ShownRunsAreSafe
shown_runs_are_safe devices state differ sorted module_name name owner definition fuel authority events ending steps (verdicts, are, is) =
    run_says devices state differ sorted verdicts are module_name name fuel _ (started_in state.texts verdicts module_name name) refl is

pub shown_tasks_are_safe : ShownTasksAreSafe
shown_tasks_are_safe devices state differ sorted fuel schedule tasks authorities report (verdicts, are, is) =
    tasks_say devices state differ sorted verdicts are fuel schedule tasks _ (first_unstarted state.texts verdicts tasks) refl is

pub shown_guarded_runs_are_permitted : ShownGuardedRunsArePermitted
shown_guarded_runs_are_permitted devices state differ sorted module_name name owner definition fuel authority events ending steps (verdicts, are, is) =
    guarded_says devices state differ sorted verdicts are module_name name fuel _ (started_in state.texts verdicts module_name name) refl is

refused_by : (devices : List DeviceDecl) (state : JobState) (verdicts : List ℕ → ModuleVerdict) → AreVerdicts devices state.texts verdicts
    → (module_name name owner definition : List ℕ) (fuel : ℕ) (entry : CheckedEntry) → HasEntry devices state.texts verdicts (module_name, name) entry
    → (b : Bool) → are_allowed (device_names devices) state.rules entry.module_name entry.authority ≡ b
    → GuardRefused owner definition E37
    ≡ (if b then permitted_told module_name name entry.authority (declared_run devices fuel entry) else GuardRefused module_name name E37)
    → NamesDefinition owner definition module_name name × IsNotPermitted devices state module_name name
refused_by devices state verdicts are module_name name owner definition fuel entry has true allowed same = cc
refused_by devices state verdicts are module_name name owner definition fuel entry has false denied same =
    ((cc, cc), not_permitted devices state verdicts are module_name name entry has denied)

refused_at : (devices : List DeviceDecl) (state : JobState) (verdicts : List ℕ → ModuleVerdict) → AreVerdicts devices state.texts verdicts
    → (module_name name owner definition : List ℕ) (fuel : ℕ) (r : Result CheckedDefinition Code) → started_in state.texts verdicts module_name name ≡ r
    → IsGuardAnswer devices state.rules state.texts verdicts module_name name fuel r (GuardRefused owner definition E37)
    → NamesDefinition owner definition module_name name × IsNotPermitted devices state module_name name
refused_at devices state verdicts are module_name name owner definition fuel (Ok started) starts (entry, entered, same) =
    refused_by devices state verdicts are module_name name owner definition fuel entry (started, starts, entered)
    (are_allowed (device_names devices) state.rules entry.module_name entry.authority) refl same
refused_at devices state verdicts are module_name name owner definition fuel (Err code) starts same =
    absurd (not_started_in state.texts verdicts module_name name (starts ∙ ap Err (its_code code same)))
  where
    its_code : (code : Code) → GuardRefused owner definition E37 ≡ GuardRefused module_name name code → code ≡ E37
    its_code code e = cc

pub refused_entries_are_not_permitted : RefusedEntriesAreNotPermitted
refused_entries_are_not_permitted devices state module_name name owner definition fuel (verdicts, are, is) =
    refused_at devices state verdicts are module_name name owner definition fuel (started_in state.texts verdicts module_name name) refl is

pub agreeing_traces_keep : AgreeingTracesKeepTheAuthority
agreeing_traces_keep devices state differ sorted module_name name owner definition fuel text (verdicts, are, is) =
    replay_says devices state differ sorted verdicts are module_name name fuel text _ (started_in state.texts verdicts module_name name) refl is

difference_at : (devices : List DeviceDecl) (state : JobState) (verdicts : List ℕ → ModuleVerdict) → AreVerdicts devices state.texts verdicts
    → (module_name name owner definition : List ℕ) (fuel : ℕ) (text : List ℕ) (line : ℕ) (r : Result CheckedDefinition Code)
    → started_in state.texts verdicts module_name name ≡ r
    → IsReplayAnswer devices state.texts verdicts module_name name fuel text r (Replayed owner definition (Differs line))
    → NamesDefinition owner definition module_name name × DiffersFirst devices state.texts module_name name fuel text line
difference_at devices state verdicts are module_name name owner definition fuel text line (Ok started) starts (entry, entered, same) =
    let told = its_parts (replay (device_names devices) fuel (program_start (program_entry entry)) (lines_of text)) same in
    (told.0, first_difference devices state.texts verdicts are module_name name entry (started, starts, entered) fuel text line (sym told.1))
  where
    its_parts : (outcome : Outcome) → Replayed owner definition (Differs line) ≡ Replayed module_name name outcome
        → NamesDefinition owner definition module_name name × (Differs line ≡ outcome)
    its_parts outcome e = ((cc, cc), cc)
difference_at devices state verdicts are module_name name owner definition fuel text line (Err code) starts same = cc

pub differences_are_first : DifferencesAreFirst
differences_are_first devices state module_name name owner definition fuel text line (verdicts, are, is) =
    difference_at devices state verdicts are module_name name owner definition fuel text line
    (started_in state.texts verdicts module_name name) refl is

pub explained_signatures : ExplainedSignaturesAreExplained
explained_signatures devices state differ sorted module_name name owner definition explanations (verdicts, are, is) =
    explanation_says devices state differ sorted verdicts are module_name name _ (standing_in state.texts verdicts module_name name) refl is
