-- What the replies to the questions of jobs say is true.
use Rattle.std.proofs.Common.{◌≡◌, ℕ, Bool, true, false, List, [], ◌∷◌, ◌++◌, map, Result, Ok, Err, refl, sym, ap, ◌∙◌, subst, if◌then◌else◌}
use Rattle.std.specs.List.{AllByRecursion}
use Rattle.std.specs.Prelude.{nat_le, slice_get}
use Rattle.cc_base.specs.declared.code.Code.{Code}
use Rattle.cc_base.specs.declared.code.Code.TheVariants.{E36, E37}
use Rattle.cc_base.specs.declared.device.DeviceDecl.{DeviceDecl}
use Rattle.cc_certificate_judging.specs.Answers.{ProvesType, IsFound}
use Rattle.cc_certificate_laws.proofs.JobDevices.{job_devices_named}
use Rattle.cc_certificate_laws.specs.ModuleCertificates.{AreNamed}
use Rattle.cc_certificate_writing.specs.Certificates.{lines_text}
use Rattle.cc_certificate_writing.specs.DefinitionCertificates.{definition_certificate_lines}
use Rattle.cc_core.specs.Programs.{Entry, IsEntry}
use Rattle.cc_device.specs.Declarations.{declared_devices}
use Rattle.cc_device.specs.Events.{Event}
use Rattle.cc_entry_laws.proofs.AcceptedEntries.{present_entries}
use Rattle.cc_entry_laws.proofs.OneEntry.{one_entry}
use Rattle.cc_entry_laws.specs.PresentEntries.{CheckedEntry, program_entry, started_in, IsEntryOf}
use Rattle.cc_mnf.specs.ElaboratedModules.{device_names}
use Rattle.cc_policy.specs.declared.policy.Rule.{Rule}
use Rattle.cc_replay.proofs.FirstDifferences.{replays_differ_first}
use Rattle.cc_replay.specs.Replays.{replay}
use Rattle.cc_replay.specs.AnsweredRuns.{IsFirstDifference}
use Rattle.cc_replay.specs.declared.replaying.Replayed.{Replayed as Outcome}
use Rattle.cc_replay.specs.declared.replaying.Replayed.TheVariants.{Agrees, Differs}
use Rattle.cc_replies.proofs.PolicyLaws.{permission_is_tested}
use Rattle.cc_replies.specs.ExplainReplies.{IsExplainAnswer}
use Rattle.cc_replies.specs.Outputs.{after_all}
use Rattle.cc_replies.specs.PolicyReplies.{Allows, IsPermitted, are_allowed, guard_told, permitted_told}
use Rattle.cc_replies.specs.ReplayReplies.{replay_told}
use Rattle.cc_replies.specs.Replies.{IsAnswer, derivation_size, derivation_reply}
use Rattle.cc_replies.specs.ReplyTexts.{Reply, Explanation, Derived, DerivationRefused, Audited, Guarded, GuardRefused, Explained, Replayed, ReplayRefused}
use Rattle.cc_replies.specs.Requests.{Question, CheckModules, ShowSignature, ShowDerivation, RunDefinition, RunTasks, AuditDefinition, GuardDefinition, ExplainDefinition, ReplayDefinition, no_module, holding_under}
use Rattle.cc_replies.specs.RunReplies.{declared_run, IsEntryAnswer, HasEntry, HaveEntries}
use Rattle.cc_runs.proofs.InterleavedTasks.{interleavings_are_turns}
use Rattle.cc_runs.specs.Interleavings.{World, world_of, Turn, trace_of, own_events, Takes, no_turn, interleave}
use Rattle.cc_runs.specs.Links.{program_start}
use Rattle.cc_runs.specs.Runs.{Run, Ending}
use Rattle.cc_runs.specs.SafeRuns.{HaveShapes, IsListed}
use Rattle.cc_runs.specs.SafeTasks.{RunsInterleaved}
use Rattle.cc_runs.specs.TaskLaws.{AreEntries}
use Rattle.cc_answers.proofs.Answering.{none_present}
use Rattle.cc_sound_laws.proofs.Running.{programs_run_together}
use Rattle.cc_sound_laws.specs.RunningTogether.{RunTogether}
use Rattle.cc_verdicts.specs.ModuleLaws.{NamesOfDevicesDiffer}
use Rattle.cc_verdicts.specs.ModuleVerdicts.{CheckedDefinition, ModuleVerdict}
use Rattle.cc_verdicts.specs.PresentTexts.{Texts, ArePresent, AreVerdicts}
use Rattle.cc_verdicts.specs.StandingDefinitions.{Standing, standing_in, standing_names, standing_context}
use Rattle.cc_words.specs.Lines.{lines_of}
use Rattle.cc_program.specs.TrueReplies.{IsSafeRun, IsSafeInterleaving, OperateAllowed, IsGuardedRun, IsDecided, ExplainSet, IsSafeTrace, IsTrueAnswer, RepliesAreTrue}
use Rattle.cc_program.proofs.ExplainedSignatures.{set_explained}
use Rattle.cc_program.proofs.GuardedRuns.{all_listed}
use Rattle.cc_program.proofs.ReplayedRuns.{trace_kept}
use Rattle.cc_program.proofs.SoundJobs.{stay_present, as_present, all_present, files}
use Rattle.cc_program.proofs.SoundReplies.{audit_says}
use Rattle.cc_program.proofs.VerifiedTexts.{proved_at, is_shown}

-- ---- what is told under a guard
guard_allowed : (b : Bool) (m n : List ℕ) (its : List ℕ) (it : Run) (o d : List ℕ) (authority : List ℕ) (events : List Event) (ending : Ending) (steps : ℕ)
    → Guarded o d authority events ending steps ≡ (if b then permitted_told m n its it else GuardRefused m n E37) → b ≡ true
guard_allowed true m n its it o d authority events ending steps same = refl
guard_allowed false m n its it o d authority events ending steps same = cc

guard_denied : (b : Bool) (m n : List ℕ) (its : List ℕ) (it : Run) (o d : List ℕ)
    → GuardRefused o d E37 ≡ (if b then permitted_told m n its it else GuardRefused m n E37) → b ≡ false
guard_denied true m n its it o d same = cc
guard_denied false m n its it o d same = refl

clash : (b : Bool) → b ≡ false → b ≡ true → ⊥
clash b denied allowed = cc

same_outcome : (o d m n : List ℕ) (a b : Outcome) → Replayed o d a ≡ Replayed m n b → a ≡ b
same_outcome o d m n a b e = cc

module _ (devices : List DeviceDecl) (rules : List Rule) (texts : Texts) (named : AreNamed devices) (sorted : ArePresent texts)
    (verdicts : List ℕ → ModuleVerdict) (are : AreVerdicts devices texts verdicts) where
  -- what is told of the entry of a definition is told of this one
  told_of : (module_name name : List ℕ) (told : CheckedEntry → Reply) (refused : Code → Reply) (reply : Reply)
      → IsEntryAnswer devices texts verdicts module_name name told refused (started_in texts verdicts module_name name) reply
      → (entry : CheckedEntry) → HasEntry devices texts verdicts (module_name, name) entry → reply ≡ told entry
  told_of module_name name told refused reply is entry (started, starts, entered) =
      let (other, also, same) = subst (λ r. IsEntryAnswer devices texts verdicts module_name name told refused r reply) starts is in
      same ∙ ap told (one_entry devices texts verdicts module_name name started other entry also entered)

  -- an entry is typed, and the declared devices are of its shapes
  is_typed : (module_name name : List ℕ) (entry : CheckedEntry) → HasEntry devices texts verdicts (module_name, name) entry
      → IsEntry (program_entry entry) × HaveShapes (declared_devices devices) (program_entry entry).devices
  is_typed module_name name entry (started, starts, entered) = (
    present_entries devices texts verdicts named.apart sorted are module_name name started starts entry entered,
    (files devices texts named.apart sorted verdicts are).declared ∙ sym entered.shapes,
  )

  are_typed : (tasks : List (List ℕ × List ℕ)) (entries : List CheckedEntry) → HaveEntries devices texts verdicts tasks entries
      → AreEntries (map program_entry entries) (declared_devices devices)
  are_typed [] entries have = subst (λ es. AreEntries (map program_entry es) (declared_devices devices)) (sym have) tt
  are_typed (first ∷ others) entries have =
      let (entry, later, is, rest, same) = have in
      subst (λ es. AreEntries (map program_entry es) (declared_devices devices)) (sym same)
      (is_typed first.0 first.1 entry is, are_typed others later rest)

  safe_run : (module_name name : List ℕ) (fuel : ℕ) (entry : CheckedEntry) → HasEntry devices texts verdicts (module_name, name) entry
      → IsSafeRun devices entry (declared_run devices fuel entry)
  safe_run module_name name fuel entry has =
      let sound = files devices texts named.apart sorted verdicts are in
      let safe = sound.runs entry (as_present devices texts verdicts are module_name name entry has) (declared_devices devices) sound.declared fuel in
      record {
        goes_well = programs_run_together (program_entry entry ∷ []) (declared_devices devices) (is_typed module_name name entry has, tt);
        not_stopped = safe.not_stopped;
        operates = safe.authority;
        scoped = safe.well_scoped;
      }

  safe_tasks : (fuel : ℕ) (schedule : List ℕ) (tasks : List (List ℕ × List ℕ)) (entries : List CheckedEntry)
      → HaveEntries devices texts verdicts tasks entries
      → IsSafeInterleaving (map program_entry entries) (declared_devices devices) schedule fuel
      (interleave fuel schedule (world_of (map program_entry entries) (declared_devices devices)))
  safe_tasks fuel schedule tasks entries have =
      let sound = files devices texts named.apart sorted verdicts are in
      let safe = sound.tasks entries (all_present devices texts named.apart sorted verdicts are tasks entries have) (declared_devices devices) sound.declared schedule fuel in
      record {
        together = programs_run_together (map program_entry entries) (declared_devices devices) (are_typed tasks entries have);
        takes = interleavings_are_turns fuel schedule (world_of (map program_entry entries) (declared_devices devices));
        goes_on = safe.goes_on;
        not_stopped = λ task entry there. let its = safe.tasks task entry there in (its.ending, its.steps, its.told, its.not_stopped);
      }

  guarded : (module_name name : List ℕ) (fuel : ℕ) (entry : CheckedEntry) → HasEntry devices texts verdicts (module_name, name) entry
      → are_allowed (device_names devices) rules entry.module_name entry.authority ≡ true
      → IsGuardedRun devices rules entry (declared_run devices fuel entry)
  guarded module_name name fuel entry has allowed =
      let safe = safe_run module_name name fuel entry has in
      let all : IsPermitted (device_names devices) rules entry =
      (permission_is_tested (device_names devices) rules entry.module_name entry.authority).0 allowed in
      let P : ℕ → Type 0 = Allows (device_names devices) rules entry.module_name in
      record {
        safe = safe;
        permitted = all;
        operated = λ device operation literal among. all_listed P entry.authority device all (safe.operates device operation literal among);
        in_any_turns = λ turns now takes device operation literal among.
            all_listed P entry.authority device all
            ((safe.goes_well.tasks [] (world_of (program_entry entry ∷ []) (declared_devices devices)) no_turn 0 (program_entry entry) refl).operates
            now turns takes device operation literal among).1;
      }

  -- the certificate that is shown
  derived : (module_name name o d : List ℕ) (lines : List (List ℕ)) (it : Standing) → standing_in texts verdicts module_name name ≡ Ok it
      → Derived o d lines ≡ derivation_reply devices module_name name (standing_in texts verdicts module_name name)
      → IsFound (lines_text lines) (ProvesType (standing_names devices it) it.definition.accepted.signature)
  derived module_name name o d lines it stands same =
      let shown = is_shown (nat_le (derivation_size devices it) 100000) o d module_name name lines
      (definition_certificate_lines (standing_names devices it) (standing_context devices it) it.definition.accepted)
      (same ∙ ap (derivation_reply devices module_name name) stands) in
      subst (λ ls. IsFound (lines_text ls) (ProvesType (standing_names devices it) it.definition.accepted.signature)) (sym shown.lines_are)
      (proved_at devices texts named sorted verdicts are module_name name it stands shown.small)

  -- the explanations that are told
  explained : (module_name name o d : List ℕ) (told : List Explanation) (it : Standing) → standing_in texts verdicts module_name name ≡ Ok it
      → IsExplainAnswer devices texts verdicts module_name name (standing_in texts verdicts module_name name) (Explained o d told)
      → ExplainSet devices texts verdicts module_name name it told
  explained module_name name o d told it stands is =
      let (explanations, all, same) = subst (λ r. IsExplainAnswer devices texts verdicts module_name name r (Explained o d told)) stands is in
      subst (ExplainSet devices texts verdicts module_name name it) (sym (same_told explanations same))
      (set_explained devices texts named.apart sorted verdicts are module_name name it stands explanations all)
    where
      same_told : (explanations : List Explanation) → Explained o d told ≡ Explained module_name name explanations → told ≡ explanations
      same_told explanations e = cc

  -- what is answered is true
  answer_is_true : (question : Question) (reply : Reply) → IsAnswer devices rules texts verdicts question reply
      → IsTrueAnswer devices rules texts verdicts question reply
  answer_is_true CheckModules reply is = tt
  answer_is_true (ShowSignature name) reply is = tt
  answer_is_true (ShowDerivation module_name name) (Derived o d lines) is = λ it stands. derived module_name name o d lines it stands is
  answer_is_true (ShowDerivation module_name name) reply is = tt
  answer_is_true (RunDefinition module_name name fuel) reply is = safe_run module_name name fuel
  answer_is_true (RunTasks fuel schedule tasks) reply is = safe_tasks fuel schedule tasks
  answer_is_true (AuditDefinition module_name name) (Audited o d told) is =
      (audit_says devices (holding_under rules texts) named.apart sorted verdicts are module_name name (Audited o d told)
      (started_in texts verdicts module_name name) refl is).1.decided
  answer_is_true (AuditDefinition module_name name) reply is = tt
  answer_is_true (GuardDefinition module_name name fuel) (Guarded o d authority events ending steps) is =
      λ entry has. guarded module_name name fuel entry has
      (guard_allowed (are_allowed (device_names devices) rules entry.module_name entry.authority) module_name name entry.authority (declared_run devices fuel entry) o d authority events ending steps
      (told_of module_name name (guard_told devices rules module_name name fuel) (GuardRefused module_name name) _ is entry has))
  answer_is_true (GuardDefinition module_name name fuel) (GuardRefused o d E37) is =
      λ entry has permitted.
      clash (are_allowed (device_names devices) rules entry.module_name entry.authority)
      (guard_denied (are_allowed (device_names devices) rules entry.module_name entry.authority) module_name name entry.authority (declared_run devices fuel entry) o d
      (told_of module_name name (guard_told devices rules module_name name fuel) (GuardRefused module_name name) _ is entry has))
      ((permission_is_tested (device_names devices) rules entry.module_name entry.authority).1 permitted)
  answer_is_true (GuardDefinition module_name name fuel) reply is = tt
  answer_is_true (ExplainDefinition module_name name) (Explained o d told) is = λ it stands. explained module_name name o d told it stands is
  answer_is_true (ExplainDefinition module_name name) reply is = tt
  answer_is_true (ReplayDefinition module_name name fuel text) (Replayed o d Agrees) is =
      λ entry has. trace_kept devices texts named.apart sorted verdicts are module_name name has.0 has.1 entry has.2 fuel text
      (sym (same_outcome o d module_name name Agrees _
      (told_of module_name name (replay_told (device_names devices) module_name name fuel text) (ReplayRefused module_name name) _ is entry has)))
  answer_is_true (ReplayDefinition module_name name fuel text) (Replayed o d (Differs line)) is =
      λ entry has. (replays_differ_first (device_names devices) fuel (program_start (program_entry entry)) (lines_of text) line).0
      (sym (same_outcome o d module_name name (Differs line) _
      (told_of module_name name (replay_told (device_names devices) module_name name fuel text) (ReplayRefused module_name name) _ is entry has)))
  answer_is_true (ReplayDefinition module_name name fuel text) reply is = tt

pub replies_are_true : RepliesAreTrue
replies_are_true bytes job is before others question parts verdicts are reply answer =
    let state = after_all no_module before in
    answer_is_true job.devices state.rules state.texts (job_devices_named bytes job is) (stay_present no_module before none_present) verdicts are
    question reply answer
