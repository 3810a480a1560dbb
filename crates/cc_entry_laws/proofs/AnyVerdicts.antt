-- The definition that is run, and its entry, by any two functions that give the verdicts of the present modules.
use Rattle.std.proofs.Common.{◌≡◌, ℕ, true, List, [], ◌∷◌, map, Result, Ok, Err, if◌then◌else◌}
use Rattle.std.proofs.Common.{refl, sym, ap, ◌∙◌, subst, inl, inr}
use Rattle.std.proofs.lemmas.Bool.{cases_Bool, and_parts, or_left, or_right}
use Rattle.std.specs.List.{AllByRecursion}
use Rattle.std.specs.Option.{unwrap_or, is_some}
use Rattle.cc_base.specs.declared.code.Code.{Code}
use Rattle.cc_base.specs.declared.code.Code.TheVariants.{E32}
use Rattle.cc_core.specs.Programs.{is_listed}
use Rattle.cc_graph.proofs.NameLemmas.{is_same_name}
use Rattle.cc_verdicts.specs.ModuleVerdicts.{CheckedDefinition, ModuleVerdict}
use Rattle.cc_verdicts.specs.PresentTexts.{Texts, text_of, graph_of}
use Rattle.cc_verdicts.specs.Readings.{imports_of}
use Rattle.cc_verdicts.proofs.Asking.{some_of}
use Rattle.cc_verdicts.proofs.PresentLaws.{present_verdicts_are_unique}
use Rattle.cc_entry_laws.specs.EntryLaws.{StartedDefinitionsAreOne, EntriesAreOfAnyVerdicts, EntriesAreOne}
use Rattle.cc_entry_laws.specs.LinkOrders.{is_accepted}
use Rattle.cc_entry_laws.specs.PresentEntries.{started_by, CheckedModule, program_module, definitions_of}
use Rattle.cc_entry_laws.specs.PresentEntries.{present_module, IsEntryOf}
use Rattle.cc_entry_laws.proofs.AcceptedEntries.{reached_test}
use Rattle.cc_entry_laws.proofs.AcceptedModules.{reach_accepted}
use Rattle.cc_entry_laws.proofs.OneEntry.{one_entry}
use Rattle.cc_entry_laws.proofs.StartedDefinitions.{starting_module}

pub started_definitions_are_one : StartedDefinitionsAreOne
started_definitions_are_one devices texts first second module_name name sorted are also =
    elim (cases_Bool (is_some (text_of texts module_name))) [
      | inl there ↦
          (let (text, is_text) = some_of (text_of texts module_name) there in
          ap (λ v. if is_some (text_of texts module_name) then started_by v name else Err E32)
          (present_verdicts_are_unique devices texts first second sorted are also module_name text is_text))
      | inr absent ↦ rw absent refl
    ]

-- what holds of each listed name holds of that of each module
each_name : (P : List ℕ → Type 0) (modules : List CheckedModule)
    → ((name : List ℕ) → is_listed (map program_module modules) name ≡ true → P name)
    → AllByRecursion (λ current. P current.name) modules
each_name P [] all = tt
each_name P (first ∷ rest) all = (
  all first.name (or_left _ _ (is_same_name first.name first.name refl)),
  each_name P rest (λ name listed. all name (or_right _ _ listed)),
)

-- a module of one function's verdicts is that of the other's, where the two are one
module_by_other : (texts : Texts) (first second : List ℕ → ModuleVerdict) (name : List ℕ) → first name ≡ second name
    → present_module texts first name ≡ present_module texts second name
module_by_other texts first second name same =
    ap (λ v. record {
      name = name;
      imports = unwrap_or (imports_of (unwrap_or (text_of texts name) [])) [];
      definitions = definitions_of v;
    }) same

modules_by_other : (texts : Texts) (first second : List ℕ → ModuleVerdict) (modules : List CheckedModule)
    → AllByRecursion (λ current. first current.name ≡ second current.name) modules
    → AllByRecursion (λ current. current ≡ present_module texts first current.name) modules
    → AllByRecursion (λ current. current ≡ present_module texts second current.name) modules
modules_by_other texts first second [] same present = tt
modules_by_other texts first second (newest ∷ rest) same present = (
  present.0 ∙ module_by_other texts first second newest.name same.0,
  modules_by_other texts first second rest same.1 present.1,
)

pub entries_are_of_any : EntriesAreOfAnyVerdicts
entries_are_of_any devices texts first second module_name name started entry sorted are also starting is =
    let reached = reach_accepted devices texts first are module_name
    (starting_module texts first module_name name started starting) in
    let P : List ℕ → Type 0 = λ n. first n ≡ second n in
    let same = each_name P entry.modules
    (λ n listed.
    let accepted = reached.0 n (reached_test (graph_of texts) module_name n ((is.reached n).0 listed)) in
    let (text, is_text) = some_of (text_of texts n)
    (and_parts (is_some (text_of texts n)) (is_accepted (first n)) accepted).0 in
    present_verdicts_are_unique devices texts first second sorted are also n text is_text) in
    record {
      shapes = is.shapes;
      present = modules_by_other texts first second entry.modules same is.present;
      reached = is.reached;
      order = is.order;
      of_module = is.of_module;
      of_definition = is.of_definition;
      permits = is.permits;
    }

same_definition : (one other : CheckedDefinition) → ◌≡◌ {A = Result CheckedDefinition Code} (Ok one) (Ok other)
    → one ≡ other
same_definition one other same = cc

pub entries_are_one : EntriesAreOne
entries_are_one devices texts first second module_name name one other entry again sorted are also starting starts is has =
    let same = same_definition one other
    (sym starting ∙ started_definitions_are_one devices texts first second module_name name sorted are also ∙ starts) in
    let E : CheckedDefinition → Type 0 = λ d. IsEntryOf devices texts second module_name name d again in
    one_entry devices texts second module_name name one entry again
    (entries_are_of_any devices texts first second module_name name one entry sorted are also starting is)
    (subst E (sym same) has)
