-- Replies to runs, tasks, audits, guards and replays where the present texts are given, by computation.
use Rattle.std.proofs.Common.{◌≡◌, ◌∙◌, ℕ, Bool, List, [], ◌∷◌, length, map, Option, Some, None, Ok, Err, refl, sym, ap, subst, if◌then◌else◌}
use Rattle.std.specs.Prelude.{Result}
use Rattle.std.specs.Fmt.{digits}
use Rattle.std.specs.Int.{int_wrap}
use Rattle.std.specs.List.{AllByRecursion, IsDistinct, filter, flat_map}
use Rattle.std.specs.List.Sorted.{IsStrictlySortedBy}
use Rattle.std.specs.Option.{unwrap_or, is_some}
use Rattle.cc_base.specs.declared.code.Code.{Code}
use Rattle.cc_base.specs.declared.code.Code.TheVariants.{E01}
use Rattle.cc_base.specs.declared.device.DeviceDecl.{DeviceDecl}
use Rattle.cc_core.specs.Stores.{authority}
use Rattle.cc_device.specs.Declarations.{declared_bases}
use Rattle.cc_grammar.specs.Syntax.{ImportSyntax}
use Rattle.cc_graph.specs.Graph.{ImportMap, does_import, reaches, is_ready, IsOrder}
use Rattle.cc_lex.specs.Lexical.{start}
use Rattle.cc_entry_laws.specs.LinkOrders.{is_reached}
use Rattle.cc_entry_laws.specs.PresentEntries.{CheckedModule, CheckedEntry, definitions_of, present_module, started_in, IsEntryOf}
use Rattle.cc_entry_laws.proofs.MadeEntries.{made_entry}
use Rattle.cc_verdicts.specs.ModuleLaws.{NamesOfDevicesDiffer}
use Rattle.cc_verdicts.specs.ModuleVerdicts.{CheckedDefinition, Finding, NoModule, InCycle, ModuleVerdict, IsRefused, HasModuleVerdict}
use Rattle.cc_verdicts.specs.PresentTexts.{Texts, ArePresent, text_of, with_module, graph_of, finding_in, finding_for, findings_for, AreVerdicts}
use Rattle.cc_verdicts.specs.Readings.{imports_in, imports_of}
use Rattle.cc_mnf.specs.ElaboratedModules.{device_names}
use Rattle.cc_words.specs.Words.{number_of, signed_of}
use Rattle.cc_worked_texts.proofs.ComputedModules.{text_computing, text_verdict_in, text_verdict_in_steps}
use Rattle.cc_worked_texts.proofs.QuickTokens.{quick_reading, same_reading}
use Rattle.cc_policy.specs.declared.policy.Rule.{Rule}
use Rattle.cc_replies.specs.PolicyReplies.{audit_told, guard_told}
use Rattle.cc_replies.specs.ReplayReplies.{replay_told}
use Rattle.cc_replies.specs.ReplyTexts.{Reply, RunRefused, TasksRefused, AuditRefused, GuardRefused, ReplayRefused, line, reply_text, is_refusal}
use Rattle.cc_replies.specs.Requests.{RunDefinition, RunTasks, AuditDefinition, GuardDefinition, ReplayDefinition}
use Rattle.cc_replies.specs.RunReplies.{declared_run, run_told, IsEntryAnswer, Unstarted, unstarted_or, first_unstarted, HaveEntries, tasks_told, IsTasksAnswer}
use Rattle.cc_worked_replies.specs.TextReplies.{RepliesUnder, RepliesWith}
use Rattle.cc_replies.proofs.WorkedTexts.{HasItsVerdict, are_verdicts}

-- TEXTS

-- the verdict, if one was found
abbrev pub found_verdict : Option ModuleVerdict → ModuleVerdict
found_verdict found = unwrap_or found (IsRefused E01 start)

-- the verdicts of texts, if for their imports this is found
abbrev pub verdicts_by : List DeviceDecl → Texts → (List ℕ → List Finding) → List ℕ → ModuleVerdict
verdicts_by devices texts findings name =
    found_verdict (text_verdict_in devices 12 (findings name) (unwrap_or (text_of texts name) []))

-- the imports of a text, with less computation
abbrev pub quick_imports : List ℕ → Option (List ImportSyntax)
quick_imports text = imports_in (quick_reading text)

pub same_imports : (text : List ℕ) → imports_of text ≡ quick_imports text
same_imports text = ap imports_in (same_reading text)

-- the import graph, with less computation
unfoldable pub quick_graph : Texts → ImportMap
quick_graph [] = []
quick_graph (first ∷ rest) = with_module first.0 (quick_imports first.1) (quick_graph rest)

same_graph : (texts : Texts) → graph_of texts ≡ quick_graph texts
unfolding graph_of quick_graph
same_graph [] = refl
same_graph (first ∷ rest) = λ i. with_module first.0 (same_imports first.1 i) (same_graph rest i)

-- what is found for an import where this is the import graph
abbrev pub finding_by : ImportMap → Texts → (List ℕ → ModuleVerdict) → List ℕ → ImportSyntax → Finding
finding_by graph texts verdicts name one =
    if is_some (text_of texts one.source)
    then (if reaches graph one.source name then InCycle else finding_in (verdicts one.source) one.name)
    else NoModule

abbrev pub findings_by : ImportMap → Texts → (List ℕ → ModuleVerdict) → List ℕ → List ℕ → List Finding
findings_by graph texts verdicts name text =
    map (finding_by graph texts verdicts name) (unwrap_or (quick_imports text) [])

pub same_findings : (texts : Texts) (graph : ImportMap) → graph_of texts ≡ graph → (verdicts : List ℕ → ModuleVerdict)
    → (name text : List ℕ) → findings_for texts verdicts name text ≡ findings_by graph texts verdicts name text
unfolding finding_for
same_findings texts graph is verdicts name text =
    λ i. map (finding_by (is i) texts verdicts name) (unwrap_or (same_imports text i) [])

-- what is found in so many steps is the verdict that the function gives
abbrev IsFound : List DeviceDecl → ℕ → Texts → ImportMap → (List ℕ → ModuleVerdict) → List ℕ → List ℕ → Type 0
IsFound devices n texts graph verdicts name text =
    text_verdict_in devices n (findings_by graph texts verdicts name text) text ≡ Some (verdicts name)

has_found : (devices : List DeviceDecl) (n : ℕ) (texts : Texts) (graph : ImportMap) (verdicts : List ℕ → ModuleVerdict)
    → graph_of texts ≡ graph → (name text : List ℕ) → IsFound devices n texts graph verdicts name text
    → HasItsVerdict devices texts verdicts name text
has_found devices n texts graph verdicts is name text found =
    subst (λ fs. HasModuleVerdict devices text fs (verdicts name)) (sym (same_findings texts graph is verdicts name text))
    (text_verdict_in_steps devices n (findings_by graph texts verdicts name text) text (verdicts name) found)

all_have : {A : Type 0} (P Q : A → Type 0) → ((x : A) → P x → Q x) → (xs : List A) → AllByRecursion P xs
    → AllByRecursion Q xs
all_have P Q to [] all = tt
all_have P Q to (x ∷ xs) all = (to x all.0, all_have P Q to xs all.1)

-- Present texts beside devices with their verdicts, their import graph, and its order.
pub record AreJudged (devices : List DeviceDecl) (texts : Texts) (verdicts : List ℕ → ModuleVerdict) (graph : ImportMap)
    (names : List (List ℕ)) : Type 0 where
  pub differ : NamesOfDevicesDiffer devices
  pub sorted : ArePresent texts
  pub are : AreVerdicts devices texts verdicts
  pub is_graph : graph_of texts ≡ graph
  pub order : IsOrder graph names

pub are_judged : (devices : List DeviceDecl) (n : ℕ) (texts : Texts) (verdicts : List ℕ → ModuleVerdict)
    (graph : ImportMap) (names : List (List ℕ)) → NamesOfDevicesDiffer devices → ArePresent texts
    → quick_graph texts ≡ graph → AllByRecursion (λ one. IsFound devices n texts graph verdicts one.0 one.1) texts
    → IsOrder graph names → AreJudged devices texts verdicts graph names
are_judged devices n texts verdicts graph names differ sorted is found order =
    let is_graph : graph_of texts ≡ graph = same_graph texts ∙ is in
    record {
      differ = differ;
      sorted = sorted;
      are = are_verdicts devices texts verdicts
          (all_have (λ one. IsFound devices n texts graph verdicts one.0 one.1)
          (λ one. HasItsVerdict devices texts verdicts one.0 one.1)
          (λ one. has_found devices n texts graph verdicts is_graph one.0 one.1) texts found);
      is_graph = is_graph;
      order = order;
    }

-- RUNS
module _ (devices : List DeviceDecl) (texts : Texts) (verdicts : List ℕ → ModuleVerdict) (graph : ImportMap)
    (names : List (List ℕ)) where
  -- the present module of the name, with less computation
  abbrev quick_module : List ℕ → CheckedModule
  quick_module name = record {
    name = name;
    imports = unwrap_or (quick_imports (unwrap_or (text_of texts name) [])) [];
    definitions = definitions_of (verdicts name);
  }

  same_module : (name : List ℕ) → quick_module name ≡ present_module texts verdicts name
  same_module name = λ i. record {
    name = name;
    imports = unwrap_or (sym (same_imports (unwrap_or (text_of texts name) [])) i) [];
    definitions = definitions_of (verdicts name);
  }

  -- the entry of the definition that is started
  abbrev pub entry_by : List ℕ → List ℕ → CheckedDefinition → CheckedEntry
  entry_by module_name name started = record {
    devices = declared_bases devices;
    modules = map quick_module (filter (is_reached graph module_name) names);
    module_name = module_name;
    definition_name = name;
    authority = authority (length devices) started.accepted.signature.set;
  }

  -- what is told of the entry of the definition that is started, or of the reason why there is none
  abbrev pub answer_by : List ℕ → List ℕ → (CheckedEntry → Reply) → (Code → Reply) → Result CheckedDefinition Code → Reply
  answer_by module_name name told refused (Ok started) = told (entry_by module_name name started)
  answer_by module_name name told refused (Err code) = refused code

  -- the reply to a run
  abbrev pub run_by : List ℕ → List ℕ → ℕ → Result CheckedDefinition Code → Reply
  run_by module_name name fuel =
      answer_by module_name name (λ entry. run_told module_name name entry.authority (declared_run devices fuel entry))
      (RunRefused module_name name)

  -- that to an audit, and to a run that is guarded
  abbrev pub audit_by : List Rule → List ℕ → List ℕ → Result CheckedDefinition Code → Reply
  audit_by rules module_name name =
      answer_by module_name name (audit_told devices rules module_name name) (AuditRefused module_name name)

  abbrev pub guard_by : List Rule → List ℕ → List ℕ → ℕ → Result CheckedDefinition Code → Reply
  guard_by rules module_name name fuel =
      answer_by module_name name (guard_told devices rules module_name name fuel) (GuardRefused module_name name)

  -- that to a replay
  abbrev pub replay_by : List ℕ → List ℕ → ℕ → List ℕ → Result CheckedDefinition Code → Reply
  replay_by module_name name fuel text =
      answer_by module_name name (replay_told (device_names devices) module_name name fuel text) (ReplayRefused module_name name)

  -- the entry before others, if there is a definition that is started
  abbrev with_entry : List ℕ → List ℕ → Result CheckedDefinition Code → List CheckedEntry → List CheckedEntry
  with_entry module_name name (Ok started) others = entry_by module_name name started ∷ others
  with_entry module_name name (Err code) others = others

  abbrev entries_by : List (List ℕ × List ℕ) → List CheckedEntry
  entries_by [] = []
  entries_by (first ∷ others) =
      with_entry first.0 first.1 (started_in texts verdicts first.0 first.1) (entries_by others)

  -- the reply to tasks, by the first that is not to be run
  abbrev pub tasks_by : ℕ → List ℕ → List (List ℕ × List ℕ) → Option Unstarted → Reply
  tasks_by fuel schedule tasks (Some first) = TasksRefused first.code first.module_name first.name
  tasks_by fuel schedule tasks None = tasks_told devices fuel schedule (entries_by tasks)

  module _ (judged : AreJudged devices texts verdicts graph names) where
    entry_is : (module_name name : List ℕ) (started : CheckedDefinition)
        → started_in texts verdicts module_name name ≡ Ok started
        → IsEntryOf devices texts verdicts module_name name started (entry_by module_name name started)
    entry_is module_name name started starts =
        let O : ImportMap → Type 0 = λ g. IsOrder g names in
        made_entry devices texts verdicts judged.differ judged.sorted judged.are module_name name started starts names
        (subst O (sym judged.is_graph) judged.order) (entry_by module_name name started) refl
        (λ i. map (λ n. same_module n i) (filter (is_reached (sym judged.is_graph i) module_name) names)) refl refl refl

    answer_is : (module_name name : List ℕ) (told : CheckedEntry → Reply) (refused : Code → Reply)
        (found : Result CheckedDefinition Code) → started_in texts verdicts module_name name ≡ found
        → IsEntryAnswer devices texts verdicts module_name name told refused found
        (answer_by module_name name told refused found)
    answer_is module_name name told refused (Ok started) is =
        (entry_by module_name name started, entry_is module_name name started is, refl)
    answer_is module_name name told refused (Err code) is = refl

    -- the reply to a run has the lines that are found
    pub run_replies : (module_name name : List ℕ) (fuel : ℕ) (lines : List (List ℕ)) (refused : Bool)
        → reply_text (device_names devices) (run_by module_name name fuel (started_in texts verdicts module_name name))
        ≡ flat_map line lines
        → is_refusal (run_by module_name name fuel (started_in texts verdicts module_name name)) ≡ refused
        → RepliesWith devices texts (RunDefinition module_name name fuel) lines refused
    run_replies module_name name fuel lines refused text tells = (
      run_by module_name name fuel (started_in texts verdicts module_name name),
      (
        verdicts,
        judged.are,
        answer_is module_name name (λ entry. run_told module_name name entry.authority (declared_run devices fuel entry))
            (RunRefused module_name name) (started_in texts verdicts module_name name) refl,
      ),
      text,
      tells,
    )

    -- so does the reply to an audit
    pub audit_replies : (rules : List Rule) (module_name name : List ℕ) (lines : List (List ℕ)) (refused : Bool)
        → reply_text (device_names devices) (audit_by rules module_name name (started_in texts verdicts module_name name))
        ≡ flat_map line lines
        → is_refusal (audit_by rules module_name name (started_in texts verdicts module_name name)) ≡ refused
        → RepliesUnder rules devices texts (AuditDefinition module_name name) lines refused
    audit_replies rules module_name name lines refused text tells = (
      audit_by rules module_name name (started_in texts verdicts module_name name),
      (
        verdicts,
        judged.are,
        answer_is module_name name (audit_told devices rules module_name name) (AuditRefused module_name name)
            (started_in texts verdicts module_name name) refl,
      ),
      text,
      tells,
    )

    -- and that to a run that is guarded
    pub guard_replies : (rules : List Rule) (module_name name : List ℕ) (fuel : ℕ) (lines : List (List ℕ)) (refused : Bool)
        → reply_text (device_names devices)
        (guard_by rules module_name name fuel (started_in texts verdicts module_name name)) ≡ flat_map line lines
        → is_refusal (guard_by rules module_name name fuel (started_in texts verdicts module_name name)) ≡ refused
        → RepliesUnder rules devices texts (GuardDefinition module_name name fuel) lines refused
    guard_replies rules module_name name fuel lines refused text tells = (
      guard_by rules module_name name fuel (started_in texts verdicts module_name name),
      (
        verdicts,
        judged.are,
        answer_is module_name name (guard_told devices rules module_name name fuel) (GuardRefused module_name name)
            (started_in texts verdicts module_name name) refl,
      ),
      text,
      tells,
    )

    -- and that to a replay
    pub replay_replies : (module_name name : List ℕ) (fuel : ℕ) (text : List ℕ) (lines : List (List ℕ)) (refused : Bool)
        → reply_text (device_names devices)
        (replay_by module_name name fuel text (started_in texts verdicts module_name name)) ≡ flat_map line lines
        → is_refusal (replay_by module_name name fuel text (started_in texts verdicts module_name name)) ≡ refused
        → RepliesWith devices texts (ReplayDefinition module_name name fuel text) lines refused
    replay_replies module_name name fuel text lines refused told tells = (
      replay_by module_name name fuel text (started_in texts verdicts module_name name),
      (
        verdicts,
        judged.are,
        answer_is module_name name (replay_told (device_names devices) module_name name fuel text) (ReplayRefused module_name name)
            (started_in texts verdicts module_name name) refl,
      ),
      told,
      tells,
    )

    have_first : (module_name name : List ℕ) (others : List (List ℕ × List ℕ)) (found : Result CheckedDefinition Code)
        → started_in texts verdicts module_name name ≡ found
        → unstarted_or module_name name found (first_unstarted texts verdicts others) ≡ None
        → (first_unstarted texts verdicts others ≡ None
        → HaveEntries devices texts verdicts others (entries_by others))
        → HaveEntries devices texts verdicts ((module_name, name) ∷ others)
        (with_entry module_name name found (entries_by others))
    have_first module_name name others (Ok started) is none behind = (
      entry_by module_name name started,
      entries_by others,
      (started, is, entry_is module_name name started is),
      behind none,
      refl,
    )
    have_first module_name name others (Err code) is none behind = cc

    have_entries : (tasks : List (List ℕ × List ℕ)) → first_unstarted texts verdicts tasks ≡ None
        → HaveEntries devices texts verdicts tasks (entries_by tasks)
    have_entries [] none = refl
    have_entries (first ∷ others) none =
        have_first first.0 first.1 others (started_in texts verdicts first.0 first.1) refl none (have_entries others)

    tasks_are : (fuel : ℕ) (schedule : List ℕ) (tasks : List (List ℕ × List ℕ)) (found : Option Unstarted)
        → first_unstarted texts verdicts tasks ≡ found
        → IsTasksAnswer devices texts verdicts fuel schedule tasks found (tasks_by fuel schedule tasks found)
    tasks_are fuel schedule tasks (Some first) is = refl
    tasks_are fuel schedule tasks None is = (entries_by tasks, have_entries tasks is, refl)

    -- the reply to tasks has the lines that are found
    pub tasks_reply : (fuel : ℕ) (schedule : List ℕ) (tasks : List (List ℕ × List ℕ)) (lines : List (List ℕ))
        (refused : Bool)
        → reply_text (device_names devices) (tasks_by fuel schedule tasks (first_unstarted texts verdicts tasks))
        ≡ flat_map line lines
        → is_refusal (tasks_by fuel schedule tasks (first_unstarted texts verdicts tasks)) ≡ refused
        → RepliesWith devices texts (RunTasks fuel schedule tasks) lines refused
    tasks_reply fuel schedule tasks lines refused text tells = (
      tasks_by fuel schedule tasks (first_unstarted texts verdicts tasks),
      (verdicts, judged.are, tasks_are fuel schedule tasks (first_unstarted texts verdicts tasks) refl),
      text,
      tells,
    )

-- `unfolding reply_computing` lets `refl` compute the reply
unfoldable pub reply_computing : Unit {0}
unfolding text_computing quick_graph does_import reaches is_ready IsDistinct IsStrictlySortedBy int_wrap digits signed_of number_of
reply_computing = tt
