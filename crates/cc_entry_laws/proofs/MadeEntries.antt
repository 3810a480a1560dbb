-- The entry that is made of the order of the graph.
use Rattle.std.proofs.Common.{◌≡◌, ℕ, Bool, true, List, [], ◌∷◌, reverse, length, map}
use Rattle.std.proofs.Common.{Ok, refl, sym, ap, ◌∙◌, subst, inl, inr}
use Rattle.std.proofs.lemmas.Bool.{cases_Bool, or_left, or_right}
use Rattle.std.proofs.lemmas.Simd.{map-map}
use Rattle.std.specs.List.{AllByRecursion, filter}
use Rattle.std.specs.Option.{unwrap_or, is_some}
use mathlib.Core.List.{reverse_aux}
use Rattle.std.specs.Str.{bytes_eq}
use Rattle.cc_base.specs.declared.device.DeviceDecl.{DeviceDecl}
use Rattle.cc_core.specs.Programs.{Import, Module, is_listed, AreInOrder}
use Rattle.cc_core.specs.Stores.{authority}
use Rattle.cc_device.specs.Declarations.{declared_bases}
use Rattle.cc_entry_laws.specs.PresentEntries as checked
use Rattle.cc_entry_laws.specs.PresentEntries.{CheckedModule, CheckedEntry, import_of, program_module, started_in, IsReached, IsEntryOf}
use Rattle.cc_graph.specs.Graph.{ImportMap, imported, is_present, IsOrder}
use Rattle.cc_graph.proofs.NameLemmas.{same_name, is_same_name}
use Rattle.cc_graph.proofs.OrderExistence.{orders_exist}
use Rattle.cc_graph.proofs.OrderLaws.{orders_list_present_modules}
use Rattle.cc_graph.proofs.OrderLemmas.{among_listed}
use Rattle.cc_graph.proofs.Paths.{IsAmong, reaches-path}
use Rattle.cc_verdicts.proofs.Asking.{map-reverse}
use Rattle.cc_verdicts.specs.ModuleLaws.{NamesOfDevicesDiffer}
use Rattle.cc_verdicts.specs.ModuleVerdicts.{CheckedDefinition, ModuleVerdict}
use Rattle.cc_verdicts.specs.PresentTexts.{Texts, ArePresent, graph_of, AreVerdicts}
use Rattle.cc_verdicts.proofs.Schedules.{lookup_graph, graph_sorted}
use Rattle.cc_entry_laws.specs.EntryLaws.{EntriesOfTextsExist}
use Rattle.cc_entry_laws.specs.LinkOrders.{are_linked_in_order, is_reached, is_accepted_module}
use Rattle.cc_entry_laws.specs.LinkedModules.{AreModulesOf}
use Rattle.cc_entry_laws.proofs.AcceptedEntries.{reached_test}
use Rattle.cc_entry_laws.proofs.AcceptedModules.{reach_accepted, linked_orders}
use Rattle.cc_entry_laws.proofs.EntryModules.{all_turned, IsModule, accepted_module, its_imports}
use Rattle.cc_entry_laws.proofs.LinkedModules.{linked_modules}
use Rattle.cc_entry_laws.proofs.PlainEntries.{present_module}
use Rattle.cc_entry_laws.proofs.StartedDefinitions.{starting_module}

-- ---- lists
filter_onto : {A : Type 0} (p : A → Bool) (xs ys : List A)
    → filter p (reverse_aux xs ys) ≡ reverse_aux (filter p xs) (filter p ys)
filter_onto p [] ys = refl
filter_onto p (x ∷ xs) ys =
    elim (cases_Bool (p x)) [
      | inl kept ↦ filter_onto p xs (x ∷ ys) ∙ rw kept refl
      | inr gone ↦ filter_onto p xs (x ∷ ys) ∙ rw gone refl
    ]

filter-reverse : {A : Type 0} (p : A → Bool) (xs : List A) → filter p (reverse xs) ≡ reverse (filter p xs)
filter-reverse p xs = filter_onto p xs []

kept_among : (p : List ℕ → Bool) (xs : List (List ℕ)) (x : List ℕ) → IsAmong x xs → p x ≡ true → IsAmong x (filter p xs)
kept_among p [] x among is = absurd among
kept_among p (y ∷ ys) x (inl same) is = rw (ap p same ∙ is) (inl same)
kept_among p (y ∷ ys) x (inr among) is =
    elim (cases_Bool (p y)) [
      | inl kept ↦ rw kept (inr (kept_among p ys x among is))
      | inr gone ↦ rw gone (kept_among p ys x among is)
    ]

all_kept : (p : List ℕ → Bool) (xs : List (List ℕ)) → AllByRecursion (λ x. p x ≡ true) (filter p xs)
all_kept p [] = tt
all_kept p (x ∷ xs) =
    elim (cases_Bool (p x)) [
      | inl kept ↦ rw kept (kept, all_kept p xs)
      | inr gone ↦ rw gone (all_kept p xs)
    ]

all_among : {A : Type 0} (P : A → Type 0) (xs : List A) (x : A) → IsAmong x xs → AllByRecursion P xs → P x
all_among P [] x among all = absurd among
all_among P (y ∷ xs) x (inl same) all = subst P same all.0
all_among P (y ∷ xs) x (inr among) all = all_among P xs x among all.1

map_itself : {A : Type 0} (xs : List A) → map (λ x. x) xs ≡ xs
map_itself [] = refl
map_itself (x ∷ xs) = ap (λ ys. x ∷ ys) (map_itself xs)

-- ---- modules by their names
module _ (texts : Texts) (all : List ℕ → ModuleVerdict) where
  all_present : (names : List (List ℕ))
      → AllByRecursion (λ current. current ≡ checked.present_module texts all current.name)
      (map (checked.present_module texts all) names)
  all_present [] = tt
  all_present (first ∷ rest) = (refl, all_present rest)

  listed_names : (names : List (List ℕ)) (other : List ℕ) → is_listed (map (present_module texts all) names) other ≡ true
      → IsAmong other names
  listed_names [] other listed = cc
  listed_names (first ∷ rest) other listed =
      elim (cases_Bool (bytes_eq first other)) [
        | inl same ↦ inl (same_name first other same)
        | inr apart ↦ inr (listed_names rest other (rw apart at listed))
      ]

  names_listed : (names : List (List ℕ)) (other : List ℕ) → IsAmong other names
      → is_listed (map (present_module texts all) names) other ≡ true
  names_listed [] other among = absurd among
  names_listed (first ∷ rest) other (inl same) = or_left _ _ (is_same_name first other same)
  names_listed (first ∷ rest) other (inr among) = or_right _ _ (names_listed rest other among)

-- what the test of what is reached says
reached_by : (imports : ImportMap) (from name : List ℕ) → is_reached imports from name ≡ true
    → IsReached imports from name
reached_by imports from name is =
    elim (cases_Bool (bytes_eq from name)) [
      | inl same ↦ inl (sym (same_name from name same))
      | inr other ↦ inr (reaches-path imports from name (rw other at is))
    ]

module _ (devices : List DeviceDecl) (texts : Texts) (all : List ℕ → ModuleVerdict) (differ : NamesOfDevicesDiffer devices)
    (sorted : ArePresent texts) (are : AreVerdicts devices texts all) where
  in_graph : (name : List ℕ) (it : IsModule devices texts all name) → is_present (graph_of texts) name ≡ true
  in_graph name it = ap (λ o. is_some o) (lookup_graph texts name it.text it.imports it.is_text it.reads)

  -- an accepted module imports from those from which it does by the graph
  imports_by_graph : (name : List ℕ) (it : IsModule devices texts all name)
      → map (λ names. names.module_name) (present_module texts all name).imports ≡ imported (graph_of texts) name
  imports_by_graph name it =
      ap (map (λ (names : Import). names.module_name)) (its_imports devices texts all name it)
      ∙ map-map (λ (names : Import). names.module_name) import_of it.imports
      ∙ sym (ap (λ o. unwrap_or o []) (lookup_graph texts name it.text it.imports it.is_text it.reads))

  all_by_graph : (names : List (List ℕ)) → AllByRecursion (λ name. is_accepted_module texts all name ≡ true) names
      → AreModulesOf (graph_of texts) (map (present_module texts all) names)
  all_by_graph [] accepted = tt
  all_by_graph (first ∷ rest) accepted = (
    imports_by_graph first (accepted_module devices texts all differ sorted are first accepted.0),
    all_by_graph rest accepted.1,
  )

  module _ (module_name : List ℕ) (starting : is_accepted_module texts all module_name ≡ true) (names : List (List ℕ))
      (order : IsOrder (graph_of texts) names) where
    -- the names of the modules of the entry, in order
    abbrev chosen : List (List ℕ)
    chosen = filter (is_reached (graph_of texts) module_name) names

    accepted_names : (xs : List (List ℕ)) → AllByRecursion (λ x. is_reached (graph_of texts) module_name x ≡ true) xs
        → AllByRecursion (λ x. is_accepted_module texts all x ≡ true) xs
    accepted_names [] reached = tt
    accepted_names (x ∷ xs) reached = (
      (reach_accepted devices texts all are module_name starting).0 x reached.0,
      accepted_names xs reached.1,
    )

    chosen_reached : (other : List ℕ) → is_listed (map (present_module texts all) chosen) other ≡ true
        → IsReached (graph_of texts) module_name other
    chosen_reached other listed =
        let P : List ℕ → Type 0 = λ x. is_reached (graph_of texts) module_name x ≡ true in
        reached_by (graph_of texts) module_name other
        (all_among P chosen other (listed_names texts all chosen other listed)
        (all_kept (is_reached (graph_of texts) module_name) names))

    reached_chosen : (other : List ℕ) → IsReached (graph_of texts) module_name other
        → is_listed (map (present_module texts all) chosen) other ≡ true
    reached_chosen other reached =
        let test = reached_test (graph_of texts) module_name other reached in
        let accepted = (reach_accepted devices texts all are module_name starting).0 other test in
        let there = in_graph other (accepted_module devices texts all differ sorted are other accepted) in
        names_listed texts all chosen other
        (kept_among (is_reached (graph_of texts) module_name) names other
        (among_listed names other ((orders_list_present_modules (graph_of texts) names order).1 other ∙ there)) test)

    chosen_order : AreInOrder (map (present_module texts all) chosen)
    chosen_order =
        let modules = map (present_module texts all) chosen in
        let P : Module → Type 0 = λ current. map (λ names. names.module_name) current.imports
        ≡ imported (graph_of texts) current.name in
        let L : List (List ℕ) → Type 0 = λ ns. are_linked_in_order (graph_of texts) [] ns ≡ true in
        linked_modules (graph_of texts) modules
        (all_turned P modules (all_by_graph chosen (accepted_names chosen
        (all_kept (is_reached (graph_of texts) module_name) names))))
        (subst L
        (filter-reverse (is_reached (graph_of texts) module_name) names
        ∙ sym (map-reverse (λ (current : Module). current.name) modules
        ∙ ap reverse (map-map (λ (current : Module). current.name) (present_module texts all) chosen ∙ map_itself chosen)))
        (linked_orders devices texts all are module_name starting names order))

-- the entry with these parts is that of the definition
pub made_entry : (devices : List DeviceDecl) (texts : Texts) (all : List ℕ → ModuleVerdict)
    → NamesOfDevicesDiffer devices → ArePresent texts → AreVerdicts devices texts all
    → (module_name name : List ℕ) (started : CheckedDefinition) → started_in texts all module_name name ≡ Ok started
    → (names : List (List ℕ)) → IsOrder (graph_of texts) names → (entry : CheckedEntry)
    → entry.devices ≡ declared_bases devices
    → entry.modules ≡ map (checked.present_module texts all) (filter (is_reached (graph_of texts) module_name) names)
    → entry.module_name ≡ module_name → entry.definition_name ≡ name
    → entry.authority ≡ authority (length devices) started.accepted.signature.set
    → IsEntryOf devices texts all module_name name started entry
made_entry devices texts all differ sorted are module_name name started starts names order entry shapes modules of_module
    of_definition permits =
    let from = starting_module texts all module_name name started starts in
    let chosen = filter (is_reached (graph_of texts) module_name) names in
    let A : List CheckedModule → Type 0 = λ ms. AllByRecursion
    (λ current. current ≡ checked.present_module texts all current.name) ms in
    let O : List Module → Type 0 = λ ms. AreInOrder ms in
    let plain : map program_module entry.modules ≡ map (present_module texts all) chosen =
    ap (map program_module) modules ∙ map-map program_module (checked.present_module texts all) chosen in
    record {
      shapes = shapes;
      present = subst A (sym modules) (all_present texts all chosen);
      reached = λ other. (
        λ listed.
            chosen_reached devices texts all differ sorted are module_name from names order other
            (sym (ap (λ ms. is_listed ms other) plain) ∙ listed),
        λ reached.
            ap (λ ms. is_listed ms other) plain
            ∙ reached_chosen devices texts all differ sorted are module_name from names order other reached,
      );
      order = subst O (sym plain)
          (chosen_order devices texts all differ sorted are module_name from names order);
      of_module = of_module;
      of_definition = of_definition;
      permits = permits;
    }

pub entries_exist : EntriesOfTextsExist
entries_exist devices texts all differ sorted are module_name name started starts =
    let (names, order) = orders_exist (graph_of texts) (graph_sorted texts sorted) in
    let entry : CheckedEntry = record {
      devices = declared_bases devices;
      modules = map (checked.present_module texts all) (filter (is_reached (graph_of texts) module_name) names);
      module_name = module_name;
      definition_name = name;
      authority = authority (length devices) started.accepted.signature.set;
    } in (
      entry,
      made_entry devices texts all differ sorted are module_name name started starts names order entry refl refl refl refl
          refl,
    )
