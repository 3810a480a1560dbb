-- Runs that are told to a host keep to the rules.
use Rattle.std.proofs.Common.{◌≡◌, ◌⊎◌, inl, inr, ℕ, suc, Bool, true, false, List, ◌++◌, length, Option, Some, None, Result, Ok, Err, refl, sym, ap, subst, ◌∙◌, arith}
use Rattle.std.specs.Prelude.{if◌then◌else◌}
use Rattle.std.specs.List.{AllByRecursion}
use Rattle.cc_base.specs.declared.code.Code.{Code}
use Rattle.cc_base.specs.declared.code.Code.TheVariants.{E37}
use Rattle.cc_base.specs.declared.device.DeviceDecl.{DeviceDecl}
use Rattle.cc_binding.proofs.FirstBeyond.{first_beyond_is_first}
use Rattle.cc_binding.proofs.OperatedDevices.{bound_devices_are_allowed}
use Rattle.cc_binding.specs.Binding.{BindsAll, first_beyond, unused_rules}
use Rattle.cc_device.specs.Events.{Operated, literal_shown}
use Rattle.cc_entry_laws.proofs.AcceptedEntries.{present_entries}
use Rattle.cc_entry_laws.specs.PresentEntries.{CheckedEntry, program_entry, started_in, IsEntryOf}
use Rattle.cc_hosting.specs.HostedLaws.{AsksAsAllowed, KeepsToRules, HostedRunsKeepToRules}
use Rattle.cc_hosting.specs.HostedRuns.{refused_course, refusal_text, beyond_text, beginning_text, course_behind, unless_beyond, hosted, IsHostedAs, IsHosted}
use Rattle.cc_live.proofs.AnsweredLives.{live_runs_are_answered}
use Rattle.cc_live.proofs.SafeLives.{some_answer, one_more, live_runs_are_safe}
use Rattle.cc_live.specs.LiveRuns.{Course, behind_text, live}
use Rattle.cc_mnf.specs.ElaboratedModules.{device_names}
use Rattle.cc_policy.specs.declared.policy.Rule.{Rule}
use Rattle.cc_replay.specs.AnsweredRuns.{AnsweredRun}
use Rattle.cc_replay.specs.AnsweredRuns as answered
use Rattle.cc_replies.proofs.PolicyLaws.{permission_is_tested}
use Rattle.cc_replies.specs.PolicyReplies.{IsPermitted, are_allowed}
use Rattle.cc_replies.specs.Requests.{JobState}
use Rattle.cc_runs.specs.Links.{program_start}
use Rattle.cc_verdicts.specs.ModuleLaws.{NamesOfDevicesDiffer}
use Rattle.cc_verdicts.specs.ModuleVerdicts.{CheckedDefinition, ModuleVerdict}
use Rattle.cc_verdicts.specs.PresentTexts.{ArePresent, AreVerdicts}
use Rattle.cc_words.specs.Lines.{Line}

module _ (devices : List DeviceDecl) (state : JobState) (owner definition : List ℕ) (fuel : ℕ) (differ : NamesOfDevicesDiffer devices)
    (sorted : ArePresent state.texts) (verdicts : List ℕ → ModuleVerdict) (are : AreVerdicts devices state.texts verdicts) where
  module _ (started : CheckedDefinition) (starts : started_in state.texts verdicts owner definition ≡ Ok started) (entry : CheckedEntry)
      (is : IsEntryOf devices state.texts verdicts owner definition started entry) where
    abbrev its_names : List (List ℕ)
    its_names = device_names devices

    -- what is asked would be operated
    as_allowed : BindsAll its_names state.rules entry → AsksAsAllowed devices state entry
    as_allowed binds moment count before went n op a resume asks =
        let start = program_start (program_entry entry) in
        let answer = some_answer op in
        let more = one_more went (answered.by_answer answer.0 asks answer.1) in
        let run : AnsweredRun (suc count) start =
        record { events = more.events; steps = suc count; last = resume answer.0; went = more.went; within = omega arith; ended = inl refl } in
        bound_devices_are_allowed its_names state.rules entry
        (present_entries devices state.texts verdicts differ sorted are owner definition started starts entry is) binds (suc count) run n op
        (literal_shown a answer.0) more.among

    keeps : are_allowed its_names state.rules entry.module_name entry.authority ≡ true
        → first_beyond its_names state.rules (length entry.devices) entry.modules ≡ None → (front : List ℕ) (lines : List Line)
        → KeepsToRules devices state owner definition fuel lines (course_behind its_names fuel front entry lines)
    keeps allowed none front lines =
        let start = program_start (program_entry entry) in
        let answered = live_runs_are_answered its_names fuel start lines in record {
          verdicts = verdicts;
          are = are;
          started = started;
          starts = starts;
          entry = entry;
          is = is;
          permitted = (permission_is_tested its_names state.rules entry.module_name entry.authority).0 allowed;
          front = front;
          text = refl;
          standing = refl;
          answered = answered;
          safe = live_runs_are_safe (program_entry entry) (present_entries devices state.texts verdicts differ sorted are owner definition started starts entry is)
              its_names fuel lines answered;
          asks = as_allowed ((first_beyond_is_first its_names state.rules entry).0.0 none);
        }

    by_found : are_allowed its_names state.rules entry.module_name entry.authority ≡ true → (o : Option (List ℕ × ℕ))
        → first_beyond its_names state.rules (length entry.devices) entry.modules ≡ o → (front : List ℕ) (lines : List Line)
        → ((text : List ℕ) × (unless_beyond its_names owner definition o (course_behind its_names fuel front entry) ≡ refused_course text))
        ⊎ KeepsToRules devices state owner definition fuel lines (unless_beyond its_names owner definition o (course_behind its_names fuel front entry) lines)
    by_found allowed (Some found) e front lines = inl (beyond_text its_names owner definition found, refl)
    by_found allowed None e front lines = inr (keeps allowed e front lines)

    by_test : (b : Bool) → are_allowed its_names state.rules entry.module_name entry.authority ≡ b → (permitted : Course) (lines : List Line)
        → (are_allowed its_names state.rules entry.module_name entry.authority ≡ true
        → ((text : List ℕ) × (permitted ≡ refused_course text)) ⊎ KeepsToRules devices state owner definition fuel lines (permitted lines))
        → ((text : List ℕ) × ((if b then permitted else refused_course (refusal_text owner definition E37)) ≡ refused_course text))
        ⊎ KeepsToRules devices state owner definition fuel lines ((if b then permitted else refused_course (refusal_text owner definition E37)) lines)
    by_test true e permitted lines it = it e
    by_test false e permitted lines it = inl (refusal_text owner definition E37, refl)

    hosted_keeps : (lines : List Line)
        → ((text : List ℕ) × (hosted its_names state.rules state.texts owner definition fuel entry ≡ refused_course text))
        ⊎ KeepsToRules devices state owner definition fuel lines (hosted its_names state.rules state.texts owner definition fuel entry lines)
    hosted_keeps lines =
        let front = beginning_text its_names owner definition entry.authority (unused_rules state.texts its_names state.rules) in
        by_test (are_allowed its_names state.rules entry.module_name entry.authority) refl
        (unless_beyond its_names owner definition (first_beyond its_names state.rules (length entry.devices) entry.modules) (course_behind its_names fuel front entry)) lines
        (λ allowed. by_found allowed (first_beyond its_names state.rules (length entry.devices) entry.modules) refl front lines)

  by_started : (r : Result CheckedDefinition Code) → started_in state.texts verdicts owner definition ≡ r → (course : Course)
      → IsHostedAs devices state.rules state.texts verdicts owner definition fuel r course → (lines : List Line)
      → ((text : List ℕ) × (course ≡ refused_course text)) ⊎ KeepsToRules devices state owner definition fuel lines (course lines)
  by_started (Ok started) e course (entry, is, same) lines =
      subst (λ (c : Course). ((text : List ℕ) × (c ≡ refused_course text)) ⊎ KeepsToRules devices state owner definition fuel lines (c lines)) (sym same)
      (hosted_keeps started e entry is lines)
  by_started (Err code) e course same lines = inl (refusal_text owner definition code, same)

pub hosted_runs_keep_to_rules : HostedRunsKeepToRules
hosted_runs_keep_to_rules devices state owner definition fuel course differ sorted (verdicts, are, answer) lines =
    by_started devices state owner definition fuel differ sorted verdicts are (started_in state.texts verdicts owner definition) refl course answer lines
