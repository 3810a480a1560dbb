-- Present texts are sound, and their verdicts and entries are by types.
use Rattle.std.proofs.Common.{◌≡◌, ℕ, true, List, [], ◌∷◌, map, reverse, length, Some, None, Ok, sym, ap, ◌∙◌, subst}
use Rattle.std.specs.Prelude.{IsTrue}
use Rattle.std.specs.List.{AllByRecursion, IsDistinct}
use Rattle.std.specs.Option.{is_some}
use Rattle.std.specs.Str.{bytes_eq}
use Rattle.std.proofs.lemmas.Bool.{and_from}
use Rattle.std.proofs.lemmas.Simd.{map-map}
use Rattle.cc_base.specs.declared.code.Code.{Code}
use Rattle.cc_base.specs.declared.device.DeviceDecl.{DeviceDecl}
use Rattle.cc_base.specs.declared.device.Kind.{Kind}
use Rattle.cc_base.specs.declared.literal.Base.{Base}
use Rattle.cc_base.specs.declared.place.Place.{Place}
use Rattle.cc_core.specs.Programs.{Import, Module, Entry, imported}
use Rattle.cc_core.specs.Stores.{authority}
use Rattle.cc_device.specs.Declarations.{declared_base, declared_bases}
use Rattle.cc_device.specs.Devices.{Devices}
use Rattle.cc_graph.proofs.OrderExistence.{orders_exist}
use Rattle.cc_graph.proofs.Paths.{IsAmong}
use Rattle.cc_graph.specs.Graph.{IsOrder}
use Rattle.cc_grammar.specs.Syntax.{ImportSyntax, ModuleSyntax}
use Rattle.cc_mnf.specs.ElaboratedModules.{device_names}
use Rattle.cc_mnf.proofs.RefusalCodes.{refusals_have_codes}
use Rattle.cc_runs.specs.SafeRuns.{HaveShapes}
use Rattle.cc_runs.specs.TaskLaws.{AreEntries}
use Rattle.cc_verdicts.specs.ModuleLaws.{NamesOfDevicesDiffer}
use Rattle.cc_verdicts.specs.ModuleVerdicts.{Finding, CheckedDefinition, ModuleVerdict, IsRefused, HasModuleVerdict, is_no_module, import_is_missing, is_not_elaborated, is_judged, first_missing}
use Rattle.cc_verdicts.specs.PresentTexts.{Texts, ArePresent, text_of, graph_of, finding_for, findings_for, AreVerdicts}
use Rattle.cc_verdicts.proofs.Asking.{all_mapped}
use Rattle.cc_verdicts.proofs.PresentLaws.{present_verdicts_exist}
use Rattle.cc_verdicts.proofs.Schedules.{graph_sorted}
use Rattle.cc_entry_laws.specs.LinkOrders.{is_accepted, is_accepted_module}
use Rattle.cc_entry_laws.specs.PresentEntries.{CheckedEntry, import_of, program_entry, started_in, IsEntryOf}
use Rattle.cc_entry_laws.specs.PresentFiles.{IsCodeOfDefinition}
use Rattle.cc_entry_laws.proofs.AcceptedEntries.{reached_test, present_entries}
use Rattle.cc_entry_laws.proofs.AcceptedModules.{reach_accepted}
use Rattle.cc_entry_laws.proofs.EntryModules.{all_turned, found_by_import}
use Rattle.cc_entry_laws.proofs.EntryNames.{ordered_distinct}
use Rattle.cc_entry_laws.proofs.MadeEntries.{entries_exist}
use Rattle.cc_entry_laws.proofs.OtherCodes.{no_module_other, missing_other, elaboration_other}
use Rattle.cc_entry_laws.proofs.PlainEntries.{present_module, plain_entry}
use Rattle.cc_entry_laws.proofs.StartedDefinitions.{starting_module}
use Rattle.cc_sound_laws.specs.AcceptedModules.{IsReadBehind}
use Rattle.cc_sound_laws.specs.AcceptedEntries.{IsAcceptedEntry}
use Rattle.cc_sound_laws.specs.EntriesByTypes.{PresentEntriesAreAccepted, StartedDefinitionsHaveEntries, AcceptedEntriesAreEntries}
use Rattle.cc_sound_laws.specs.SoundTexts.{AreSoundTexts, PresentTextsAreSound}
use Rattle.cc_sound_laws.specs.VerdictsByTypes.{IsRefusedForItsTypes, AreByTypes, VerdictsAreByTypes}
use Rattle.cc_sound_laws.proofs.AcceptedEntries.{accepted_entry_is}
use Rattle.cc_sound_laws.proofs.JudgedModules.{JudgedTree, each_found, findings_are, import_there, distinct_turned, judged_modules}
use Rattle.cc_sound_laws.proofs.ListedModules as listing
use Rattle.cc_sound_laws.proofs.ReadTexts.{read_is_module}
use Rattle.cc_sound_laws.proofs.Running.{programs_run_together}

-- ---- what is refused with a code for definitions is judged by its definitions
refused_tree : (devices : List DeviceDecl) (text : List ℕ) (findings : List Finding) (code : Code) (at : Place)
    (verdict : ModuleVerdict) → IsCodeOfDefinition code → HasModuleVerdict devices text findings verdict
    → verdict ≡ IsRefused code at → JudgedTree devices text findings verdict
refused_tree devices text findings code at verdict is (is_no_module {code = other} {at = place} reading) same =
    let codes : other ≡ code = cc in
    absurd (no_module_other text other place reading (subst IsCodeOfDefinition (sym codes) is))
refused_tree devices text findings code at verdict is (import_is_missing {tree = tree} {missing = missing} reading first) same =
    let codes : missing.code ≡ code = cc in
    absurd (missing_other tree.imports findings missing first (subst IsCodeOfDefinition (sym codes) is))
refused_tree devices text findings code at verdict is (is_not_elaborated {tree = tree} {code = other} {at = place} reading found refused) same =
    let codes : other ≡ code = cc in
    absurd
    (elaboration_other other (refusals_have_codes (device_names devices) tree other place refused)
    (subst IsCodeOfDefinition (sym codes) is))
refused_tree devices text findings code at verdict is (is_judged {tree = tree} {core = core} reading none elaborated judged) same =
    record { tree = tree; reading = reading; none = none; core = core; elaborated = elaborated; judged = judged }

module _ (devices : List DeviceDecl) (texts : Texts) (all : List ℕ → ModuleVerdict) (differ : NamesOfDevicesDiffer devices)
    (sorted : ArePresent texts) (are : AreVerdicts devices texts all) where
  module _ (names : List (List ℕ)) (order : IsOrder (graph_of texts) names) where
    abbrev table : List Module
    table = listing.table devices texts all differ sorted are names order

    table_imports : (name text : List ℕ) (tree : ModuleSyntax)
        → first_missing tree.imports (map (finding_for texts all name) tree.imports) ≡ None
        → (one : ImportSyntax) → IsAmong one tree.imports → is_some (imported table (import_of one)) ≡ true
    table_imports name text tree none one among =
        let found = each_found (finding_for texts all name) tree.imports none one among in
        let parts = found_by_import texts all name one found.0 found.1 in
        let accepted : is_accepted_module texts all one.source ≡ true =
        and_from _ _ parts.0 (ap is_accepted parts.1.accepted) in
        ap (λ o. is_some o)
        (import_there devices texts all differ sorted are table name
        (listing.table_present devices texts all differ sorted are names order) one
        (listing.is_in_table devices texts all differ sorted are names order one.source accepted) found).there

    refused_for_types : (name text : List ℕ) (code : Code) (at : Place) → text_of texts name ≡ Some text
        → all name ≡ IsRefused code at → IsCodeOfDefinition code → IsRefusedForItsTypes devices table text
    refused_for_types name text code at is_text e is =
        let t = refused_tree devices text (findings_for texts all name text) code at (all name) is (are name text is_text) e in
        let none : first_missing t.tree.imports (map (finding_for texts all name) t.tree.imports) ≡ None =
        ap (λ fs. first_missing t.tree.imports fs) (sym (findings_are devices texts all differ sorted are name text t.tree t.reading)) ∙ t.none in
        let reads : IsReadBehind (device_names devices) table text t.tree t.core =
        record {
          is_module = read_is_module text t.tree t.reading;
          found = all_mapped (λ (one : Import). IsTrue (is_some (imported table one))) import_of t.tree.imports
              (table_imports name text t.tree none);
          elaborated = t.elaborated;
        } in
        (t.tree, t.core, reads, listing.refused_has_no_type devices texts all differ sorted are names order name text is_text t.tree t.core reads code at e)

    table_by_types : AreByTypes devices texts all table
    table_by_types = record {
      are_accepted = listing.table_accepted devices texts all differ sorted are names order;
      others = listing.others_have_none devices texts all differ sorted are names order;
      exactly = λ name. (
        listing.listed_is devices texts all differ sorted are names order name,
        listing.is_in_table devices texts all differ sorted are names order name,
      );
      as_judged = listing.table_present devices texts all differ sorted are names order;
      for_types = refused_for_types;
    }

  by_types : (accepted : List Module) × AreByTypes devices texts all accepted
  by_types =
      let (names, order) = orders_exist (graph_of texts) (graph_sorted texts sorted) in
      (table names order, table_by_types names order)

  -- ---- entries
  entry_accepted : (module_name name : List ℕ) (started : CheckedDefinition)
      → started_in texts all module_name name ≡ Ok started → (entry : CheckedEntry)
      → IsEntryOf devices texts all module_name name started entry
      → IsAcceptedEntry (device_names devices) (declared_bases devices) texts (program_entry entry)
  entry_accepted module_name name started starts entry of =
      let plain = plain_entry devices texts all module_name name started entry of in
      let is = present_entries devices texts all differ sorted are module_name name started starts entry of in
      let modules = (program_entry entry).modules in
      let P : Module → Type 0 = λ current. current ≡ present_module texts all current.name in
      let A : Module → Type 0 = λ current. is_accepted_module texts all current.name ≡ true in
      let present = all_turned P modules plain.present in
      let accepted = all_turned A modules
      (listing.each_listed (λ n. is_accepted_module texts all n ≡ true) modules
      (λ n listed.
      (reach_accepted devices texts all are module_name (starting_module texts all module_name name started starts)).0 n
      (reached_test (graph_of texts) module_name n ((plain.reached n).0 listed)))) in
      record {
        same_shapes = of.shapes;
        accepted =
            judged_modules devices texts all differ sorted are (reverse modules) present accepted plain.order
            (distinct_turned modules (ordered_distinct texts all modules present plain.order));
        started = is.started;
        found = is.found;
        takes_unit = (is.takes_set, is.gives, is.gives_set, is.takes_unit);
        permits = is.authority ∙ ap (λ (bs : List Base). authority (length bs) is.started.signature.set) of.shapes;
      }

pub verdicts_are_by_types : VerdictsAreByTypes
verdicts_are_by_types devices texts verdicts differ sorted are = by_types devices texts verdicts differ sorted are

pub present_entries_are_accepted : PresentEntriesAreAccepted
present_entries_are_accepted devices texts verdicts differ sorted are module_name name started starts entry of =
    entry_accepted devices texts verdicts differ sorted are module_name name started starts entry of

pub started_definitions_have_entries : StartedDefinitionsHaveEntries
started_definitions_have_entries devices texts verdicts differ sorted are module_name name started starts =
    let (entry, of) = entries_exist devices texts verdicts differ sorted are module_name name started starts in
    (entry, of, entry_accepted devices texts verdicts differ sorted are module_name name started starts entry of)

pub accepted_entries_are_entries : AcceptedEntriesAreEntries
accepted_entries_are_entries devices texts entry differ is = accepted_entry_is devices differ texts entry is

-- ---- the whole
module _ (devices : List DeviceDecl) (texts : Texts) (differ : NamesOfDevicesDiffer devices) (sorted : ArePresent texts) where
  entries_are : (entries : List Entry)
      → AllByRecursion (IsAcceptedEntry (device_names devices) (declared_bases devices) texts) entries
      → (states : Devices) → HaveShapes states (declared_bases devices) → AreEntries entries states
  entries_are [] all states shapes = tt
  entries_are (first ∷ rest) all states shapes = (
    (accepted_entry_is devices differ texts first all.0, shapes ∙ sym all.0.same_shapes),
    entries_are rest all.1 states shapes,
  )

  declared_sound : AreSoundTexts (device_names devices) (declared_bases devices) texts
  declared_sound =
      let (verdicts, are) = present_verdicts_exist devices texts differ sorted in
      let (accepted, by) = by_types devices texts verdicts differ sorted are in
      record {
        accepted = accepted;
        are_accepted = by.are_accepted;
        others = by.others;
        run_together = λ entries all states shapes. programs_run_together entries states (entries_are entries all states shapes);
      }

-- a name and a kind as a device that is declared so
abbrev as_declared : List ℕ × Kind → DeviceDecl
as_declared one = record { name = one.0; kind = one.1 }

pub present_texts_are_sound : PresentTextsAreSound
present_texts_are_sound devices texts differ sorted =
    let declared = map as_declared devices in
    let names : device_names declared ≡ map (λ one. one.0) devices = map-map (λ (device : DeviceDecl). device.name) as_declared devices in
    let bases : declared_bases declared ≡ map (λ one. declared_base one.1) devices = map-map (λ (device : DeviceDecl). declared_base device.kind) as_declared devices in
    let N : List (List ℕ) → Type 0 = λ ns. IsDistinct bytes_eq ns in
    subst (λ (ns : List (List ℕ)). AreSoundTexts ns (map (λ one. declared_base one.1) devices) texts) names
    (subst (λ (bs : List Base). AreSoundTexts (device_names declared) bs texts) bases
    (declared_sound declared texts (subst N (sym names) differ) sorted))
