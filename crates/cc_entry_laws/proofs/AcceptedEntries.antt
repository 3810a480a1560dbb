-- The entry of a definition of a present module has all that an entry has.
use Rattle.std.proofs.Common.{◌≡◌, ℕ, true, List, [], ◌∷◌, reverse, length, map, Some}
use Rattle.std.proofs.Common.{refl, sym, ap, ◌∙◌, subst, inl, inr, Ok}
use Rattle.std.proofs.lemmas.Bool.{or_left, or_right}
use Rattle.std.proofs.lemmas.List.Sorted.{list_any-IsPermutation, IsPermutation-reverse}
use Rattle.std.proofs.lemmas.List.{length-map}
use Rattle.std.specs.List.{AllByRecursion, IsDistinct, list_all}
use Rattle.std.specs.Option.{option_map}
use Rattle.std.specs.Str.{bytes_eq}
use Rattle.cc_base.specs.declared.device.DeviceDecl.{DeviceDecl}
use Rattle.cc_base.specs.declared.device.Kind.{Kind}
use Rattle.cc_base.specs.declared.device.Kind.TheVariants as kinds
use Rattle.cc_base.specs.declared.literal.Base.{Base}
use Rattle.cc_core.specs.Programs.{Module, Entry, definition_named, definition_in, is_listed, IsEntry}
use Rattle.cc_core.specs.Programs.{OfEachModule, AreDefinable, NamesDiffer, SignaturesNameDevices, ImportsAreThere}
use Rattle.cc_core.specs.Programs.{IsTypedModule, is_ready}
use Rattle.cc_core.specs.Stores.{is_device_base, authority}
use Rattle.cc_device.specs.Declarations.{declared_base, declared_bases}
use Rattle.cc_entry_laws.specs.PresentEntries.{program_entry, started_in, IsReached}
use Rattle.cc_graph.specs.Graph.{ImportMap}
use Rattle.cc_graph.proofs.NameLemmas.{is_same_name}
use Rattle.cc_graph.proofs.Paths.{path-reaches}
use Rattle.cc_verdicts.specs.ModuleLaws.{NamesOfDevicesDiffer}
use Rattle.cc_verdicts.specs.ModuleVerdicts.{CheckedDefinition, ModuleVerdict, IsAccepted, in_program}
use Rattle.cc_verdicts.specs.PresentTexts.{Texts, ArePresent, graph_of, AreVerdicts}
use Rattle.cc_entry_laws.specs.EntryLaws.{EntriesOfTextsAreEntries}
use Rattle.cc_entry_laws.specs.LinkOrders.{is_reached, is_accepted_module}
use Rattle.cc_entry_laws.proofs.AcceptedModules.{reach_accepted}
use Rattle.cc_entry_laws.proofs.EntryLinks.{AllPresent, definition_there, are_definable, names_differ}
use Rattle.cc_entry_laws.proofs.EntryLinks.{signatures_name_devices, imports_are_there, is_typed, of_each}
use Rattle.cc_entry_laws.proofs.EntryModules.{all_turned, IsModule, accepted_module, named_alike}
use Rattle.cc_entry_laws.proofs.EntryNames.{ordered_distinct}
use Rattle.cc_entry_laws.proofs.PlainEntries.{definitions_of, present_module, IsPlainEntryOf, plain_entry}
use Rattle.cc_entry_laws.proofs.StartedDefinitions.{unit_taken, starts, starting_module}

device_base : (kind : Kind) → is_device_base (declared_base kind) ≡ true
device_base kinds.Console = refl
device_base (kinds.File numbers) = refl
device_base kinds.Counter = refl

device_bases : (devices : List DeviceDecl) → list_all is_device_base (declared_bases devices) ≡ true
device_bases [] = refl
device_bases (first ∷ rest) = rw (device_base first.kind) (device_bases rest)

-- the test of what is reached says yes
pub reached_test : (imports : ImportMap) (from name : List ℕ) → IsReached imports from name
    → is_reached imports from name ≡ true
reached_test imports from name (inl same) = rw (is_same_name from name (sym same)) refl
reached_test imports from name (inr path) = or_right _ _ (path-reaches imports from name path)

-- what holds of each listed name holds of that of each module
each_listed : (P : List ℕ → Type 0) (modules : List Module) → ((name : List ℕ) → is_listed modules name ≡ true → P name)
    → AllByRecursion (λ current. P current.name) modules
each_listed P [] all = tt
each_listed P (first ∷ rest) all = (
  all first.name (or_left _ _ (is_same_name first.name first.name refl)),
  each_listed P rest (λ name listed. all name (or_right _ _ listed)),
)

module _ (devices : List DeviceDecl) (texts : Texts) (all : List ℕ → ModuleVerdict) (differ : NamesOfDevicesDiffer devices)
    (sorted : ArePresent texts) (are : AreVerdicts devices texts all) (module_name name : List ℕ)
    (started : CheckedDefinition) (starting : started_in texts all module_name name ≡ Ok started) (entry : Entry)
    (is : IsPlainEntryOf devices texts all module_name name started entry) where
  is_present : AllPresent texts all (reverse entry.modules)
  is_present =
      let P : Module → Type 0 = λ current. current ≡ present_module texts all current.name in
      all_turned P entry.modules is.present

  is_accepted : AllByRecursion (λ current. is_accepted_module texts all current.name ≡ true) (reverse entry.modules)
  is_accepted =
      let P : Module → Type 0 = λ current. is_accepted_module texts all current.name ≡ true in
      let reached = reach_accepted devices texts all are module_name
      (starting_module texts all module_name name started starting) in
      all_turned P entry.modules
      (each_listed (λ n. is_accepted_module texts all n ≡ true) entry.modules
      (λ n listed. reached.0 n (reached_test (graph_of texts) module_name n ((is.reached n).0 listed))))

  each_module : (P : List Module → Module → Type 0)
      → ((older : List Module) (current : List ℕ) → IsModule devices texts all current → AllPresent texts all older
      → is_ready older (present_module texts all current) ≡ true → P older (present_module texts all current))
      → OfEachModule P (reverse entry.modules)
  each_module P each =
      of_each devices texts all differ sorted are P each [] (reverse entry.modules) is_present is_accepted is.order

  over_bases : (holds : List Base → Type 0) → holds (declared_bases devices) → holds entry.devices
  over_bases holds it = subst holds (sym is.shapes) it

  starts_here : definition_in entry.module_name entry.definition_name (reverse entry.modules) ≡ Some (in_program started)
  starts_here =
      let start = starts texts all module_name name started starting in
      let it = accepted_module devices texts all differ sorted are module_name
      (starting_module texts all module_name name started starting) in
      let same : it.definitions ≡ start.definitions = (
      let both : IsAccepted it.definitions ≡ IsAccepted start.definitions = sym it.accepted ∙ start.accepted in
      cc
      ) in
      let D : List CheckedDefinition → Type 0 = λ ds. IsDistinct bytes_eq (map (λ d. d.name) ds) in
      let listed : is_listed (reverse entry.modules) module_name ≡ true =
      sym (list_any-IsPermutation (λ (current : Module). bytes_eq current.name module_name) entry.modules
      (reverse entry.modules) (IsPermutation-reverse entry.modules))
      ∙ (is.reached module_name).1 (inl refl) in
      ap (λ n. definition_in n entry.definition_name (reverse entry.modules)) is.of_module
      ∙ ap (λ n. definition_in module_name n (reverse entry.modules)) is.of_definition
      ∙ definition_there texts all (reverse entry.modules) module_name name is_present listed
      ∙ ap (λ v. definition_named name (reverse (definitions_of v))) start.accepted
      ∙ named_alike name start.definitions (subst D same it.sound.names)
      ∙ ap (option_map in_program) start.named

  has_all : IsEntry entry
  has_all =
      let bases = declared_bases devices in
      let turned = reverse entry.modules in
      let unit = unit_taken started.accepted.signature.shape
      (starts texts all module_name name started starting).unit in
      record {
        devices = over_bases (λ bs. list_all is_device_base bs ≡ true) (device_bases devices);
        values =
            each_module AreDefinable
            (λ older current it present ready. are_definable devices texts all differ sorted are older current it);
        module_names = ordered_distinct texts all entry.modules is_present is.order;
        names =
            each_module NamesDiffer
            (λ older current it present ready. names_differ devices texts all differ sorted are older current it);
        signatures =
            over_bases (λ bs. OfEachModule (SignaturesNameDevices bs) turned)
            (each_module (SignaturesNameDevices bases)
            (λ older current it present ready.
            signatures_name_devices devices texts all differ sorted are older current it));
        imports =
            each_module ImportsAreThere
            (λ older current it present ready.
            imports_are_there devices texts all differ sorted are older current it present ready);
        typed =
            over_bases (λ bs. OfEachModule (IsTypedModule bs) turned)
            (each_module (IsTypedModule bases)
            (λ older current it present ready.
            is_typed devices texts all differ sorted are older current it present ready));
        started = in_program started;
        found = starts_here;
        takes_set = unit.takes_set;
        gives = unit.gives;
        gives_set = unit.gives_set;
        takes_unit = unit.is;
        authority =
            is.permits
            ∙ ap (λ n. authority n started.accepted.signature.set)
            (sym (ap length is.shapes ∙ length-map devices (λ (device : DeviceDecl). declared_base device.kind)));
      }

pub present_entries : EntriesOfTextsAreEntries
present_entries devices texts all differ sorted are module_name name started starting entry is =
    has_all devices texts all differ sorted are module_name name started starting (program_entry entry)
    (plain_entry devices texts all module_name name started entry is)
