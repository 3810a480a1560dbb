-- What agrees is a safe trace, what differs does so first, and the lines of shown runs agree.
use Rattle.std.proofs.Common.{◌≡◌, ℕ, ◌<◌, ◌^◌, Bool, true, false, ◌||◌, List, [], ◌∷◌, ◌++◌, length, map, reverse, Result, Ok, Err, refl, sym, ap, ◌∙◌, subst, append_assoc, arith}
use Rattle.std.specs.Prelude.{pos, negsuc, IsTrue}
use Rattle.std.specs.List.{AllByRecursion}
use Rattle.std.specs.Str.{bytes_eq}
use Rattle.std.proofs.lemmas.Bool.Decides.{nat_tests}
use Rattle.std.proofs.lemmas.Slice.Eq.{bytes_eq-Decides}
use Rattle.cc_base.specs.Literals.{Literal, UnitLiteral, TruthLiteral, NumberLiteral, TextLiteral}
use Rattle.cc_base.specs.declared.code.Code.{Code}
use Rattle.cc_base.specs.declared.device.DeviceDecl.{DeviceDecl}
use Rattle.cc_base.specs.declared.device.Kind.{Kind}
use Rattle.cc_base.specs.declared.device.Kind.TheVariants as kinds
use Rattle.cc_base.specs.declared.literal.Base.{Base}
use Rattle.cc_certificate_text.specs.Certificates.{IsWrittenLiteral}
use Rattle.cc_core.specs.Programs.{Definition, Module, is_listed, IsEntry}
use Rattle.cc_core.specs.Terms.{Term, VariableTerm, LiteralTerm, FunctionTerm, TypeFunctionTerm, BoxTerm, Application, TypeApplication, Unboxing, Let, Primitive, Conditional, Repetition, Operation, Boundary, Leave}
use Rattle.cc_device.specs.Declarations.{declared_state, declared_devices}
use Rattle.cc_device.specs.Events.{Event}
use Rattle.cc_job.specs.Jobs.{Item, Declares, Commands, IsKind, AreItems, IsJob}
use Rattle.cc_job.specs.declared.job.Job.{Job}
use Rattle.cc_certificate_laws.specs.DefinitionLaws.{HasWrittenLiterals}
use Rattle.cc_entry_laws.proofs.AcceptedEntries.{present_entries, reached_test}
use Rattle.cc_entry_laws.proofs.AcceptedModules.{reach_accepted}
use Rattle.cc_entry_laws.proofs.EntryModules.{IsModule, accepted_module, all_turned, all_over}
use Rattle.cc_entry_laws.proofs.StartedDefinitions.{starting_module}
use Rattle.cc_entry_laws.specs.LinkOrders.{is_accepted_module}
use Rattle.cc_entry_laws.specs.PresentEntries.{CheckedModule, CheckedEntry, definitions_of, present_module, program_module, program_entry, started_in, IsEntryOf}
use Rattle.cc_entry_laws.proofs.SoundFiles.{present_files_are_sound}
use Rattle.cc_certificate_laws.proofs.CertifiedModules.{literals_of_definitions_written}
use Rattle.cc_certificate_laws.proofs.JobDevices.{job_devices_named}
use Rattle.cc_certificate_laws.proofs.LineFeeds.{names_of_one_line, literals_of_one_line}
use Rattle.cc_certificate_laws.specs.ModuleCertificates.{AreNamed}
use Rattle.cc_verdicts.specs.ModuleLaws.{NamesOfDevicesDiffer}
use Rattle.cc_verdicts.specs.ModuleVerdicts.{CheckedDefinition, ModuleVerdict, IsAccepted, in_program}
use Rattle.cc_verdicts.specs.PresentTexts.{Texts, ArePresent, graph_of, findings_for, AreVerdicts}
use Rattle.cc_runs.proofs.LinkedPrograms.{program_starts}
use Rattle.cc_runs.specs.Interleavings.{state_of}
use Rattle.cc_runs.specs.Links.{linked_cell, linked_position, device_cells, linked_store, program_start}
use Rattle.cc_runs.specs.Runs.{Ending}
use Rattle.cc_runs.specs.SoundRuns.{IsSoundState}
use Rattle.cc_mnf.specs.ElaboratedModules.{device_names}
use Rattle.cc_replay.proofs.FirstDifferences.{replays_differ_first}
use Rattle.cc_replay.proofs.LineSteps.{acted_literals}
use Rattle.cc_replay.proofs.SafeTraces.{agreeing_traces_are_safe, agreeing_traces_keep_the_authority}
use Rattle.cc_replay.proofs.WrittenRuns.{written_runs_are_replayed}
use Rattle.cc_replay.specs.AnsweredRuns.{trace_lines}
use Rattle.cc_replay.specs.LineLiterals.{StandsInLine, HasLineLiterals, IsLineCell, IsLineDevice, IsLineState}
use Rattle.cc_replay.specs.ReplayLaws.{written_lines}
use Rattle.cc_replay.specs.Replays.{replay}
use Rattle.cc_replay.specs.declared.replaying.Replayed.TheVariants.{Agrees, Differs}
use Rattle.cc_replies.proofs.ReplyLaws.{replies_are_unique}
use Rattle.cc_replies.specs.ReplayReplies.{IsReplayAnswer}
use Rattle.cc_replies.specs.ReplyTexts.{Reply, Ran, Replayed}
use Rattle.cc_replies.specs.Replies.{Replies}
use Rattle.cc_replies.specs.Requests.{JobState, ReplayDefinition, Ask}
use Rattle.cc_replies.specs.RunReplies.{declared_run, HasEntry, IsRunAnswer}
use Rattle.cc_words.specs.Lines.{Line, lines_of}
use Rattle.cc_words.specs.Words.{has_64_bits}
use Rattle.cc_program.specs.ReplayedRuns.{IsSafeTraceOf, DiffersFirst, ShownRunsAreReplayed}
use Rattle.cc_program.specs.TrueReplies.{IsSafeTrace}

-- the program of an entry of present texts starts soundly
module _ (devices : List DeviceDecl) (texts : Texts) (differ : NamesOfDevicesDiffer devices) (sorted : ArePresent texts)
    (verdicts : List ℕ → ModuleVerdict) (are : AreVerdicts devices texts verdicts) (module_name name : List ℕ) (started : CheckedDefinition)
    (starts : started_in texts verdicts module_name name ≡ Ok started) (entry : CheckedEntry)
    (entered : IsEntryOf devices texts verdicts module_name name started entry) where
  is_entry : IsEntry (program_entry entry)
  is_entry = present_entries devices texts verdicts differ sorted are module_name name started starts entry entered

  starts_soundly : IsSoundState (state_of (declared_devices devices) (program_start (program_entry entry)))
  starts_soundly =
      (program_starts (program_entry entry) is_entry (declared_devices devices)
      ((present_files_are_sound devices texts differ sorted).declared ∙ sym entered.shapes)).sound

  -- lines that agree are the trace of a safe run
  pub trace_kept : (fuel : ℕ) (text : List ℕ)
      → replay (device_names devices) fuel (program_start (program_entry entry)) (lines_of text) ≡ Agrees
      → IsSafeTrace devices entry fuel (lines_of text)
  trace_kept fuel text agrees =
      let kept = agreeing_traces_keep_the_authority (program_entry entry) is_entry (device_names devices) fuel (lines_of text) agrees in
      let (it, is_trace, authority, scopes, not_stopped) = kept in
      let safe = (agreeing_traces_are_safe (device_names devices) fuel (program_start (program_entry entry)) (lines_of text)
      starts_soundly.configuration agrees).2 in
      record {
        it = it;
        is_trace = is_trace;
        operates = authority;
        scoped = scopes;
        never_stuck = safe.never_stuck;
        not_stopped = not_stopped;
      }

  pub safe_trace : (fuel : ℕ) (text : List ℕ)
      → replay (device_names devices) fuel (program_start (program_entry entry)) (lines_of text) ≡ Agrees
      → IsSafeTraceOf devices texts module_name name fuel text
  safe_trace fuel text agrees =
      let kept = trace_kept fuel text agrees in
      record {
        verdicts = verdicts;
        are = are;
        entry = entry;
        of_definition = (started, starts, entered);
        it = kept.it;
        is_trace = kept.is_trace;
        authority = kept.operates;
        scopes = kept.scoped;
        never_stuck = kept.never_stuck;
        not_stopped = kept.not_stopped;
      }

-- what differs first
pub first_difference : (devices : List DeviceDecl) (texts : Texts) (verdicts : List ℕ → ModuleVerdict) → AreVerdicts devices texts verdicts
    → (module_name name : List ℕ) (entry : CheckedEntry) → HasEntry devices texts verdicts (module_name, name) entry
    → (fuel : ℕ) (text : List ℕ) (line : ℕ)
    → replay (device_names devices) fuel (program_start (program_entry entry)) (lines_of text) ≡ Differs line
    → DiffersFirst devices texts module_name name fuel text line
first_difference devices texts verdicts are module_name name entry has fuel text line differs = record {
  verdicts = verdicts;
  are = are;
  entry = entry;
  of_definition = has;
  first = (replays_differ_first (device_names devices) fuel (program_start (program_entry entry)) (lines_of text) line).0 differs;
}

-- LITERALS OF PROGRAMS

-- what may be written as a literal can stand in a line
number_fits : (n : ℕ) → n < 2 ^ 63 → IsTrue (has_64_bits (pos n))
number_fits n low = grind (arith, nat_tests)

line_literal : (literal : Literal) → IsWrittenLiteral literal → StandsInLine literal
line_literal UnitLiteral h = tt
line_literal (TruthLiteral truth) h = tt
line_literal (NumberLiteral (pos n)) h = number_fits n h
line_literal (NumberLiteral (negsuc n)) h = absurd h
line_literal (TextLiteral text) h = literals_of_one_line (LiteralTerm (TextLiteral text)) h

line_literals : (t : Term) → HasWrittenLiterals t → HasLineLiterals t
line_literals (VariableTerm variable) h = tt
line_literals (LiteralTerm literal) h = line_literal literal h
line_literals (FunctionTerm takes c body) h = line_literals body h
line_literals (TypeFunctionTerm bound body) h = line_literals body h
line_literals (BoxTerm content) h = tt
line_literals (Application function argument) h = tt
line_literals (TypeApplication function argument) h = tt
line_literals (Unboxing set box) h = tt
line_literals (Let note right body) h = (line_literals right h.0, line_literals body h.1)
line_literals (Primitive operator left right) h = tt
line_literals (Conditional note test positive negative) h = (line_literals positive h.0, line_literals negative h.1)
line_literals (Repetition count function) h = tt
line_literals (Operation operation receiver argument) h = tt
line_literals (Boundary gives body) h = line_literals body h
line_literals (Leave gives c exit value) h = tt

-- so are those of a linked store
abbrev HasLineValues : Module → Type 0
HasLineValues current = AllByRecursion (λ definition. HasLineLiterals definition.value) (reverse current.definitions)

joined : {A : Type 0} (P : A → Type 0) (xs ys : List A) → AllByRecursion P xs → AllByRecursion P ys → AllByRecursion P (xs ++ ys)
joined P [] ys all also = also
joined P (x ∷ xs) ys all also = (all.0, joined P xs ys all.1 also)

cells_of_devices : (bases : List Base) → AllByRecursion IsLineCell (device_cells bases)
cells_of_devices [] = tt
cells_of_devices (newest ∷ older) = (tt, cells_of_devices older)

linked_cells : (to : ℕ → ℕ) (definitions : List Definition) → AllByRecursion (λ definition. HasLineLiterals definition.value) definitions
    → AllByRecursion IsLineCell (map (linked_cell to) definitions)
linked_cells to [] all = tt
linked_cells to (first ∷ rest) all = (acted_literals _ 0 first.value all.0, linked_cells to rest all.1)

linked_stores : (bases : List Base) (modules : List Module) → AllByRecursion HasLineValues modules
    → AllByRecursion IsLineCell (linked_store bases modules)
linked_stores bases [] all = cells_of_devices (reverse bases)
linked_stores bases (newest ∷ older) all =
    joined IsLineCell (map (linked_cell (linked_position (length bases) older (reverse newest.imports))) (reverse newest.definitions))
    (linked_store bases older)
    (linked_cells (linked_position (length bases) older (reverse newest.imports)) (reverse newest.definitions) all.0)
    (linked_stores bases older all.1)

-- those of the definitions of a module
module _ (devices : List DeviceDecl) (texts : Texts) (named : AreNamed devices) (sorted : ArePresent texts)
    (verdicts : List ℕ → ModuleVerdict) (are : AreVerdicts devices texts verdicts) where
  literals_behind : (name : List ℕ) (it : IsModule devices texts verdicts name) (before rest : List CheckedDefinition)
      → it.definitions ≡ before ++ rest → AllByRecursion (λ one. HasLineLiterals one.accepted.filled) rest
  literals_behind name it before [] parts = tt
  literals_behind name it before (one ∷ rest) parts = (
    line_literals one.accepted.filled
        (literals_of_definitions_written devices texts verdicts it.imports (findings_for texts verdicts name it.text) before one named sorted are
        (record { name = name; text = it.text; present = it.is_text; imports_are = it.reads; findings_are = refl; after = rest; accepted = it.accepted ∙ ap IsAccepted parts })),
    literals_behind name it (before ++ one ∷ []) rest (parts ∙ sym (append_assoc before (one ∷ []) rest)),
  )

  module_literals : (current : CheckedModule) → current ≡ present_module texts verdicts current.name
      → is_accepted_module texts verdicts current.name ≡ true → HasLineValues (program_module current)
  module_literals current is accepted =
      let it = accepted_module devices texts verdicts named.apart sorted are current.name accepted in
      let definitions : current.definitions ≡ it.definitions = ap (λ m. m.definitions) is ∙ ap definitions_of it.accepted in
      let L : CheckedDefinition → Type 0 = λ one. HasLineLiterals one.accepted.filled in
      let all : AllByRecursion L current.definitions = subst (AllByRecursion L) (sym definitions) (literals_behind current.name it [] it.definitions refl) in
      all_turned (λ (d : Definition). HasLineLiterals d.value) (map in_program current.definitions)
      (all_over (λ (d : Definition). HasLineLiterals d.value) in_program current.definitions all)

  modules_literals : (modules : List CheckedModule)
      → AllByRecursion (λ current. current ≡ present_module texts verdicts current.name) modules
      → AllByRecursion (λ current. is_accepted_module texts verdicts current.name ≡ true) modules
      → AllByRecursion HasLineValues (map program_module modules)
  modules_literals [] present accepted = tt
  modules_literals (first ∷ rest) present accepted =
      (module_literals first present.0 accepted.0, modules_literals rest present.1 accepted.1)

or_first : (a b : Bool) → a ≡ true → (a || b) ≡ true
or_first true b h = refl
or_first false b h = cc

or_second : (a b : Bool) → b ≡ true → (a || b) ≡ true
or_second true b h = refl
or_second false b h = h

-- what holds of each listed name holds of that of each module
each_name : (P : List ℕ → Type 0) (modules : List CheckedModule)
    → ((name : List ℕ) → is_listed (map program_module modules) name ≡ true → P name) → AllByRecursion (λ current. P current.name) modules
each_name P [] all = tt
each_name P (first ∷ rest) all = (
  all first.name (or_first (bytes_eq first.name first.name) (is_listed (map program_module rest) first.name) ((bytes_eq-Decides first.name first.name).1 refl)),
  each_name P rest (λ name listed. all name (or_second (bytes_eq first.name name) (is_listed (map program_module rest) name) listed)),
)

-- DEVICES OF JOBS
kind_fits : (kind : Kind) → IsKind kind → IsLineDevice (declared_state kind)
kind_fits kinds.Console h = tt
kind_fits (kinds.File numbers) h = h
kind_fits kinds.Counter h = tt

devices_fit : (lines : List Line) (devices : List DeviceDecl) (rest : List Item) → AreItems lines (map Declares devices ++ rest)
    → AllByRecursion IsLineDevice (declared_devices devices)
devices_fit lines [] rest items = tt
devices_fit lines (device ∷ devices) rest items =
    (kind_fits device.kind items.1.1, devices_fit items.0 devices rest items.3)

-- RUNS THAT WERE SHOWN
module _ (bytes : List ℕ) (job : Job) (is_job : IsJob bytes job) (state : JobState) (sorted : ArePresent state.texts)
    (verdicts : List ℕ → ModuleVerdict) (are : AreVerdicts job.devices state.texts verdicts) where
  named : AreNamed job.devices
  named = job_devices_named bytes job is_job

  line_state : (module_name name : List ℕ) (started : CheckedDefinition) → started_in state.texts verdicts module_name name ≡ Ok started
      → (entry : CheckedEntry) → IsEntryOf job.devices state.texts verdicts module_name name started entry
      → IsLineState (state_of (declared_devices job.devices) (program_start (program_entry entry)))
  line_state module_name name started starts entry entered =
      let reached = reach_accepted job.devices state.texts verdicts are module_name
      (starting_module state.texts verdicts module_name name started starts) in
      let accepted = each_name (λ n. is_accepted_module state.texts verdicts n ≡ true) entry.modules
      (λ n listed. reached.0 n (reached_test (graph_of state.texts) module_name n ((entered.reached n).0 listed))) in
      let modules = modules_literals job.devices state.texts named sorted verdicts are entry.modules entered.present accepted in
      record {
        configuration = record {
          store = (
            tt,
            linked_stores entry.devices (reverse (map program_module entry.modules))
                (all_turned HasLineValues (map program_module entry.modules) modules),
          );
          stack = tt;
          term = tt;
        };
        devices = devices_fit is_job.behind job.devices (map Commands job.commands) is_job.items;
      }

  replayed_at : (module_name name owner definition : List ℕ) (fuel : ℕ) (authority : List ℕ) (events : List Event) (ending : Ending) (steps : ℕ)
      (r : Result CheckedDefinition Code) → started_in state.texts verdicts module_name name ≡ r
      → IsRunAnswer job.devices state.texts verdicts module_name name fuel r (Ran owner definition authority events ending steps)
      → (other : JobState) → other.texts ≡ state.texts → (reply : Reply)
      → Replies job.devices other
      (Ask (ReplayDefinition module_name name fuel (written_lines (trace_lines (device_names job.devices) events ending steps)))) reply
      → reply ≡ Replayed module_name name Agrees
  replayed_at module_name name owner definition fuel authority events ending steps (Ok started) starts (entry, entered, same) other alike reply replies =
      let names = device_names job.devices in
      let told = declared_run job.devices fuel entry in
      let start = program_start (program_entry entry) in
      let text = written_lines (trace_lines names events ending steps) in
      let outcome = replay names fuel start (lines_of text) in
      let agrees = written_runs_are_replayed names fuel (state_of (declared_devices job.devices) start)
      (starts_soundly job.devices state.texts named.apart sorted verdicts are module_name name started starts entry entered)
      (line_state module_name name started starts entry entered) (names_of_one_line names named.named) in
      let here : Replies job.devices state (Ask (ReplayDefinition module_name name fuel text)) (Replayed module_name name outcome) = (
        verdicts,
        are,
        subst (λ r. IsReplayAnswer job.devices state.texts verdicts module_name name fuel text r (Replayed module_name name outcome)) (sym starts)
            (entry, entered, refl),
      ) in
      let T : Texts → Type 0 = λ texts. (all : List ℕ → ModuleVerdict) × AreVerdicts job.devices texts all
      × IsReplayAnswer job.devices texts all module_name name fuel text (started_in texts all module_name name) (Replayed module_name name outcome) in
      let there : Replies job.devices other (Ask (ReplayDefinition module_name name fuel text)) (Replayed module_name name outcome) = subst T (sym alike) here in
      let one = replies_are_unique job.devices other (Ask (ReplayDefinition module_name name fuel text)) reply (Replayed module_name name outcome)
      (subst ArePresent (sym alike) sorted) replies there in
      let lines : trace_lines names events ending steps ≡ trace_lines names told.events told.ending told.steps = ap (lines_told names) same in
      one ∙ ap (λ ls. Replayed module_name name (replay names fuel start (lines_of (written_lines ls)))) lines
      ∙ ap (λ o. Replayed module_name name o) agrees
    where
      lines_told : List (List ℕ) → Reply → List (List ℕ)
      lines_told names (Ran o d a es e s) = trace_lines names es e s
      lines_told names reply = []
  replayed_at module_name name owner definition fuel authority events ending steps (Err code) starts same other alike reply replies = cc

pub shown_runs_are_replayed : ShownRunsAreReplayed
shown_runs_are_replayed bytes job is_job state other sorted alike module_name name owner definition fuel authority events ending steps (verdicts, are, is) reply replies =
    replayed_at bytes job is_job state sorted verdicts are module_name name owner definition fuel authority events ending steps
    (started_in state.texts verdicts module_name name) refl is other alike reply replies
