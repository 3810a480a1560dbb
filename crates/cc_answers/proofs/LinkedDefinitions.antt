-- The links of the modules that are linked for a definition are what present definitions link to by their names, numbered.
use Rattle.std.proofs.Common.{◌≡◌, ◌⊎◌, ℕ, zero, suc, ◌+◌, ◌<◌, ◌≤◌, Bool, true, false, List, [], ◌∷◌, ◌++◌, length, map, slice_get, Option, Some, None, Result, Ok, Err, inl, inr, refl, sym, ap, subst, ◌∙◌, append_assoc, arith, if◌then◌else◌}
use Rattle.std.specs.Prelude.{reverse, IsTrue}
use Rattle.std.specs.List.{AllByRecursion, Contains, IsDistinct, filter, filter_map, cons_option}
use Rattle.std.specs.Option.{unwrap_or, is_some}
use Rattle.std.specs.Str.{bytes_eq}
use Rattle.std.proofs.lemmas.Bool.{cases_Bool}
use Rattle.std.proofs.lemmas.List.{append-nil, reverse-append, reverse-reverse}
use Rattle.std.proofs.lemmas.Simd.{map-map}
use Rattle.cc_base.specs.declared.device.DeviceDecl.{DeviceDecl}
use Rattle.cc_capture.proofs.Membership.{Member-list}
use Rattle.cc_capture.specs.declared.var.Var.TheVariants.{Bound, Free}
use Rattle.cc_capture.specs.declared.var.Elem.{Elem}
use Rattle.cc_capture.specs.declared.var.Elem.TheVariants.{Var as Variable, Cap, Hole}
use Rattle.cc_core.proofs.Lookups.{lookup-other, lookup-cases}
use Rattle.cc_core.specs.Contexts.{lookup}
use Rattle.cc_core.specs.Programs.{Import, Definition, Module, imported, OfEachModule, ImportsAreThere, AreInOrder}
use Rattle.cc_explain.specs.Entries.{targets_of}
use Rattle.cc_explain.specs.declared.target.Target.{Target as NumberedTarget}
use Rattle.cc_explain.specs.declared.target.Target.TheVariants as numbers
use Rattle.cc_graph.specs.Graph.{IsOrder, imported as imported_from}
use Rattle.cc_grammar.specs.Syntax.{ImportSyntax}
use Rattle.cc_entry_laws.proofs.AcceptedModules.{reach_accepted, linked_orders}
use Rattle.cc_entry_laws.proofs.EntryLinks.{AllPresent, imports_are_there, of_each}
use Rattle.cc_entry_laws.proofs.EntryModules.{IsModule, accepted_module, all_turned, its_imports}
use Rattle.cc_entry_laws.proofs.EntryNames.{ordered_distinct}
use Rattle.cc_entry_laws.proofs.LinkedModules.{linked_modules}
use Rattle.cc_entry_laws.proofs.PlainEntries.{present_module as plain_module}
use Rattle.cc_entry_laws.specs.LinkOrders.{is_reached, is_accepted_module, are_linked_in_order}
use Rattle.cc_entry_laws.specs.PresentEntries.{CheckedModule, import_of, program_module, definitions_of, present_module}
use Rattle.cc_entry_laws.proofs.Positions.{from_given}
use Rattle.cc_entry_laws.proofs.Reached.{StandsIn, found_in}
use Rattle.cc_entry_laws.specs.PresentLinks.{Target, DefinitionOf, DeviceAt, Universal, device_targets, with_imports, with_names, earlier_targets, standing_targets, target_of, standing_entry, entry_or_none, entry_in}
use Rattle.cc_verdicts.proofs.Asking.{map-reverse}
use Rattle.cc_verdicts.proofs.Schedules.{lookup_graph}
use Rattle.cc_verdicts.specs.ModuleLaws.{NamesOfDevicesDiffer}
use Rattle.cc_verdicts.specs.ModuleVerdicts.{CheckedDefinition, ModuleVerdict, IsAccepted}
use Rattle.cc_verdicts.specs.PresentTexts.{Texts, ArePresent, text_of, graph_of, findings_for, AreVerdicts}
use Rattle.cc_verdicts.specs.Readings.{imports_of}
use Rattle.cc_verdicts.specs.StandingDefinitions.{Standing, standing_in}
use Rattle.cc_runs.proofs.Links.{definition_found}
use Rattle.cc_runs.specs.Links.{count_definitions, position_in}
use Rattle.cc_link.proofs.NumberedEntries.{entries_are_numbered}
use Rattle.cc_link.specs.ModuleLinkLaws.{numbered, AreNumbered, modules_turned}
use Rattle.cc_link.specs.ModuleLinks.{links_in}
use Rattle.cc_answers.proofs.DefinitionNumbers.{PlacedAmong, PlacedIn, found_in_modules, HaveDifferentNames, placed_is_found, before_numbered}
use Rattle.cc_answers.proofs.RecursiveTypes.{own_set_is_over_devices}

-- LISTS
filter_onto : {A : Type 0} (p : A → Bool) (xs ys : List A) → filter p (reverse xs ++ ys) ≡ reverse (filter p xs) ++ filter p ys
filter_onto p [] ys = refl
filter_onto p (x ∷ xs) ys =
    ap (λ zs. filter p (zs ++ ys)) (reverse-append (x ∷ []) xs) ∙ ap (filter p) (append_assoc (reverse xs) (x ∷ []) ys)
    ∙ filter_onto p xs (x ∷ ys) ∙ by_test (p x) refl
  where
    by_test : (b : Bool) → p x ≡ b → (reverse (filter p xs) ++ filter p (x ∷ ys)) ≡ reverse (filter p (x ∷ xs)) ++ filter p ys
    by_test true kept =
        rw kept (sym (ap (λ zs. zs ++ filter p ys) (reverse-append (x ∷ []) (filter p xs)) ∙ append_assoc (reverse (filter p xs)) (x ∷ []) (filter p ys)))
    by_test false gone = rw gone refl

filter-reverse : {A : Type 0} (p : A → Bool) (xs : List A) → filter p (reverse xs) ≡ reverse (filter p xs)
filter-reverse p xs =
    ap (filter p) (sym (append-nil (reverse xs))) ∙ filter_onto p xs [] ∙ append-nil (reverse (filter p xs))

all_kept : {A : Type 0} (p : A → Bool) (xs : List A) → AllByRecursion (λ x. p x ≡ true) (filter p xs)
all_kept p [] = tt
all_kept p (x ∷ xs) =
    elim (cases_Bool (p x)) [
      | inl kept ↦ rw kept (kept, all_kept p xs)
      | inr gone ↦ rw gone (all_kept p xs)
    ]

weaker : {A : Type 0} (P Q : A → Type 0) → ((x : A) → P x → Q x) → (xs : List A) → AllByRecursion P xs → AllByRecursion Q xs
weaker P Q to [] all = tt
weaker P Q to (x ∷ xs) all = (to x all.0, weaker P Q to xs all.1)

all_of_map : {A B : Type 0} (P : B → Type 0) (f : A → B) → ((x : A) → P (f x)) → (xs : List A) → AllByRecursion P (map f xs)
all_of_map P f each [] = tt
all_of_map P f each (x ∷ xs) = (each x, all_of_map P f each xs)

all_mapped : {A B : Type 0} (P : A → Type 0) (Q : B → Type 0) (f : A → B) → ((x : A) → P x → Q (f x)) → (xs : List A) → AllByRecursion P xs
    → AllByRecursion Q (map f xs)
all_mapped P Q f each [] all = tt
all_mapped P Q f each (x ∷ xs) all = (each x all.0, all_mapped P Q f each xs all.1)

all_unmapped : {A B : Type 0} (Q : B → Type 0) (f : A → B) (xs : List A) → AllByRecursion Q (map f xs) → AllByRecursion (λ x. Q (f x)) xs
all_unmapped Q f [] all = tt
all_unmapped Q f (x ∷ xs) all = (all.0, all_unmapped Q f xs all.1)

one_of : {A : Type 0} (P : A → Type 0) (xs : List A) (x : A) (ys : List A) → AllByRecursion P (xs ++ x ∷ ys) → P x
one_of P [] x ys all = all.0
one_of P (z ∷ xs) x ys all = one_of P xs x ys all.1

map_itself : {A : Type 0} (xs : List A) → map (λ x. x) xs ≡ xs
map_itself [] = refl
map_itself (x ∷ xs) = ap (λ ys. x ∷ ys) (map_itself xs)

some_there : {A : Type 0} (o : Option A) → is_some o ≡ true → (x : A) × (o ≡ Some x)
some_there (Some x) h = (x, refl)
some_there None h = cc

no_target : {B : Type 0} (target : Target) → None ≡ Some target → B
no_target target h = cc

in_behind : {A : Type 0} (x : A) (xs : List A) (y : A) → Contains xs y → Contains (x ∷ xs) y
in_behind x xs y (k, below, is) = (suc k, omega arith, is)

same_filtered : {A B : Type 0} (f g : A → Option B) (xs : List A) → ((x : A) → Contains xs x → f x ≡ g x) → filter_map f xs ≡ filter_map g xs
same_filtered f g [] same = refl
same_filtered f g (x ∷ xs) same =
    λ i. cons_option (same x (0, omega arith, refl) i) (same_filtered f g xs (λ y among. same y (in_behind x xs y among)) i)

-- modules, turned round
turned_onto : (front : List Module) (ms : List CheckedModule) → reverse (map program_module ms) ++ front ≡ modules_turned front ms
turned_onto front [] = refl
turned_onto front (m ∷ ms) =
    ap (λ xs. xs ++ front) (reverse-append (program_module m ∷ []) (map program_module ms))
    ∙ append_assoc (reverse (map program_module ms)) (program_module m ∷ []) front
    ∙ turned_onto (program_module m ∷ front) ms

turned_is : (ms : List CheckedModule) → reverse (map program_module ms) ≡ modules_turned [] ms
turned_is ms = sym (append-nil (reverse (map program_module ms))) ∙ turned_onto [] ms

-- what holds of each module holds of one behind the earlier
of_front : (P : List Module → Module → Type 0) (front : List Module) (ms : List CheckedModule) → OfEachModule P (modules_turned front ms) → OfEachModule P front
of_front P front [] each = each
of_front P front (m ∷ ms) each = (of_front P (program_module m ∷ front) ms each).1

of_one : (P : List Module → Module → Type 0) (front : List Module) (earlier : List CheckedModule) (current : CheckedModule) (later : List CheckedModule)
    → OfEachModule P (modules_turned front (earlier ++ current ∷ later)) → P (modules_turned front earlier) (program_module current)
of_one P front [] current later each = (of_front P (program_module current ∷ front) later each).0
of_one P front (m ∷ earlier) current later each = of_one P (program_module m ∷ front) earlier current later each

-- TARGETS THAT POSITIONS STAND FOR
device_count : (n : ℕ) → length (device_targets n) ≡ n
device_count zero = refl
device_count (suc n) = ap suc (device_count n)

imports_grow : (targets : List Target) (imports : List ImportSyntax) → length targets ≤ length (with_imports targets imports)
imports_grow targets [] = omega arith
imports_grow targets (one ∷ rest) = let more = imports_grow (DefinitionOf one.source one.name ∷ targets) rest in omega arith

names_grow : (module_name : List ℕ) (targets : List Target) (before : List CheckedDefinition) → length targets ≤ length (with_names module_name targets before)
names_grow module_name targets [] = omega arith
names_grow module_name targets (one ∷ rest) = let more = names_grow module_name (DefinitionOf module_name one.name ∷ targets) rest in omega arith

earlier_long : (devices : List DeviceDecl) (module_name : List ℕ) (it : Standing) → length devices ≤ length (earlier_targets devices module_name it)
earlier_long devices module_name it =
    let a = device_count (length devices) in
    let b = imports_grow (device_targets (length devices)) it.imports in
    let c = names_grow module_name (with_imports (device_targets (length devices)) it.imports) it.before in
    omega arith

-- all that positions stand for
devices_all : (P : Target → Type 0) → ((n : ℕ) → P (DeviceAt n)) → (n : ℕ) → AllByRecursion P (device_targets n)
devices_all P each zero = tt
devices_all P each (suc n) = (each n, devices_all P each n)

imports_all : (P : Target → Type 0) (imports : List ImportSyntax) → AllByRecursion (λ one. P (DefinitionOf one.source one.name)) imports
    → (targets : List Target) → AllByRecursion P targets → AllByRecursion P (with_imports targets imports)
imports_all P [] each targets all = all
imports_all P (one ∷ rest) each targets all = imports_all P rest each.1 (DefinitionOf one.source one.name ∷ targets) (each.0, all)

names_all : (P : Target → Type 0) (module_name : List ℕ) (before : List CheckedDefinition) → AllByRecursion (λ one. P (DefinitionOf module_name one.name)) before
    → (targets : List Target) → AllByRecursion P targets → AllByRecursion P (with_names module_name targets before)
names_all P module_name [] each targets all = all
names_all P module_name (one ∷ rest) each targets all = names_all P module_name rest each.1 (DefinitionOf module_name one.name ∷ targets) (each.0, all)

looked_up : (P : Target → Type 0) (targets : List Target) (position : ℕ) (target : Target) → AllByRecursion P targets → lookup targets position ≡ Some target → P target
looked_up P [] position target all is = no_target target is
looked_up P (first ∷ targets) position target all is =
    elim (lookup-cases first targets position target is) [
      | inl (at, same) ↦ subst P same all.0
      | inr there ↦ looked_up P targets position target all.1 there
    ]

element_known : (P : Target → Type 0) → P Universal → (targets : List Target) → AllByRecursion P targets → (e : Elem) (target : Target)
    → target_of targets e ≡ Some target → P target
element_known P all targets each (Variable (Free position)) target is = looked_up P targets position target each is
element_known P all targets each (Variable (Bound index)) target is = no_target target is
element_known P all targets each Cap target is = subst P (some_same Universal target is) all
  where
    some_same : (a b : Target) → Some a ≡ Some b → a ≡ b
    some_same a b h = cc
element_known P all targets each (Hole number) target is = no_target target is

-- a definition does not link to itself, so its own position may be left out
without_own : (devices : List DeviceDecl) (module_name : List ℕ) (it : Standing) (b : Bool)
    → (b ≡ true → (position : ℕ) → Contains it.definition.accepted.type.set.list (Variable (Free position)) → position < length devices)
    → (e : Elem) → Contains it.definition.accepted.type.set.list e
    → target_of (if b then DefinitionOf module_name it.definition.name ∷ earlier_targets devices module_name it else earlier_targets devices module_name it) e
    ≡ target_of (earlier_targets devices module_name it) e
without_own devices module_name it false below e among = refl
without_own devices module_name it true below (Variable (Free position)) among =
    let low = below refl position among in
    let long = earlier_long devices module_name it in
    lookup-other (DefinitionOf module_name it.definition.name) (earlier_targets devices module_name it) position (λ same. omega arith)
without_own devices module_name it true below (Variable (Bound index)) among = refl
without_own devices module_name it true below Cap among = refl
without_own devices module_name it true below (Hole number) among = refl

-- THE MODULES THAT ARE LINKED FOR A DEFINITION
module _ (devices : List DeviceDecl) (texts : Texts) (verdicts : List ℕ → ModuleVerdict) (differ : NamesOfDevicesDiffer devices)
    (sorted : ArePresent texts) (are : AreVerdicts devices texts verdicts) (from : List ℕ) (starting : is_accepted_module texts verdicts from ≡ true)
    (names : List (List ℕ)) (order : IsOrder (graph_of texts) names) where
  abbrev chosen : List (List ℕ)
  chosen = filter (is_reached (graph_of texts) from) names

  abbrev pub linked : List CheckedModule
  linked = map (present_module texts verdicts) chosen

  abbrev turned : List Module
  turned = modules_turned [] linked

  chosen_accepted : AllByRecursion (λ n. is_accepted_module texts verdicts n ≡ true) chosen
  chosen_accepted =
      weaker (λ n. is_reached (graph_of texts) from n ≡ true) (λ n. is_accepted_module texts verdicts n ≡ true)
      (reach_accepted devices texts verdicts are from starting).0 chosen (all_kept (is_reached (graph_of texts) from) names)

  it_is : (name : List ℕ) → is_accepted_module texts verdicts name ≡ true → IsModule devices texts verdicts name
  it_is name accepted = accepted_module devices texts verdicts differ sorted are name accepted

  plain_is : map program_module linked ≡ map (plain_module texts verdicts) chosen
  plain_is = map-map program_module (present_module texts verdicts) chosen

  imports_by_graph : (name : List ℕ) → is_accepted_module texts verdicts name ≡ true
      → map (λ names. names.module_name) (plain_module texts verdicts name).imports ≡ imported_from (graph_of texts) name
  imports_by_graph name accepted =
      let it = it_is name accepted in
      ap (map (λ (names : Import). names.module_name)) (its_imports devices texts verdicts name it)
      ∙ map-map (λ (names : Import). names.module_name) import_of it.imports
      ∙ sym (ap (λ o. unwrap_or o []) (lookup_graph texts name it.text it.imports it.is_text it.reads))

  in_order : AreInOrder (map (plain_module texts verdicts) chosen)
  in_order =
      let modules = map (plain_module texts verdicts) chosen in
      let P : Module → Type 0 = λ current. map (λ names. names.module_name) current.imports ≡ imported_from (graph_of texts) current.name in
      let L : List (List ℕ) → Type 0 = λ ns. are_linked_in_order (graph_of texts) [] ns ≡ true in
      linked_modules (graph_of texts) modules
      (all_turned P modules (all_mapped (λ n. is_accepted_module texts verdicts n ≡ true) P (plain_module texts verdicts) imports_by_graph chosen chosen_accepted))
      (subst L
      (filter-reverse (is_reached (graph_of texts) from) names
      ∙ sym (map-reverse (λ (current : Module). current.name) modules
      ∙ ap reverse (map-map (λ (current : Module). current.name) (plain_module texts verdicts) chosen ∙ map_itself chosen)))
      (linked_orders devices texts verdicts are from starting names order))

  plain_present : AllPresent texts verdicts (reverse (map (plain_module texts verdicts) chosen))
  plain_present =
      let P : Module → Type 0 = λ current. current ≡ plain_module texts verdicts current.name in
      all_turned P (map (plain_module texts verdicts) chosen) (all_of_map P (plain_module texts verdicts) (λ n. refl) chosen)

  plain_accepted : AllByRecursion (λ current. is_accepted_module texts verdicts current.name ≡ true) (reverse (map (plain_module texts verdicts) chosen))
  plain_accepted =
      let P : Module → Type 0 = λ current. is_accepted_module texts verdicts current.name ≡ true in
      all_turned P (map (plain_module texts verdicts) chosen)
      (all_mapped (λ n. is_accepted_module texts verdicts n ≡ true) P (plain_module texts verdicts) (λ n h. h) chosen chosen_accepted)

  imports_there : OfEachModule ImportsAreThere turned
  imports_there =
      subst (OfEachModule ImportsAreThere) (ap reverse (sym plain_is) ∙ turned_is linked)
      (of_each devices texts verdicts differ sorted are ImportsAreThere
      (λ older name it present ready. imports_are_there devices texts verdicts differ sorted are older name it present ready) []
      (reverse (map (plain_module texts verdicts) chosen)) plain_present plain_accepted in_order)

  linked_accepted : AllByRecursion (λ m. is_accepted_module texts verdicts m.name ≡ true) linked
  linked_accepted =
      all_mapped (λ n. is_accepted_module texts verdicts n ≡ true) (λ (m : CheckedModule). is_accepted_module texts verdicts m.name ≡ true)
      (present_module texts verdicts) (λ n h. h) chosen chosen_accepted

  linked_present : AllByRecursion (λ m. m ≡ present_module texts verdicts m.name) linked
  linked_present = all_of_map (λ (m : CheckedModule). m ≡ present_module texts verdicts m.name) (present_module texts verdicts) (λ n. refl) chosen

  its_names : (name : List ℕ) → is_accepted_module texts verdicts name ≡ true
      → IsDistinct bytes_eq (map (λ one. one.name) (present_module texts verdicts name).definitions)
  its_names name accepted =
      let it = it_is name accepted in
      subst (λ ds. IsDistinct bytes_eq (map (λ (one : CheckedDefinition). one.name) ds)) (sym (ap definitions_of it.accepted)) it.sound.names

  different : HaveDifferentNames linked
  different = record {
    modules =
        subst (IsDistinct bytes_eq)
        (map-map (λ (m : Module). m.name) (plain_module texts verdicts) chosen ∙ sym (map-map (λ (m : CheckedModule). m.name) (present_module texts verdicts) chosen))
        (ordered_distinct texts verdicts (map (plain_module texts verdicts) chosen) plain_present in_order);
    definitions =
        all_mapped (λ n. is_accepted_module texts verdicts n ≡ true) (λ (m : CheckedModule). IsDistinct bytes_eq (map (λ one. one.name) m.definitions))
        (present_module texts verdicts) its_names chosen chosen_accepted;
  }

  -- the number of a definition
  pub number : List ℕ → List ℕ → ℕ
  number module_name name = unwrap_or (position_in 0 module_name name turned) 0

  -- what is linked
  abbrev pub Known : Target → Type 0
  Known (DefinitionOf module_name name) = (k : ℕ) × (position_in 0 module_name name turned ≡ Some k)
  Known (DeviceAt device) = Unit {0}
  Known Universal = Unit {0}

  no_number : {B : Type 0} (k : ℕ) → None ≡ Some k → B
  no_number k h = cc

  number_is : (module_name name : List ℕ) (k : ℕ) → position_in 0 module_name name turned ≡ Some k → number module_name name ≡ k
  unfolding number
  number_is module_name name k is = ap (λ o. unwrap_or o 0) is

  pub placed : (module_name name : List ℕ) → Known (DefinitionOf module_name name) → PlacedIn [] linked module_name name (number module_name name)
  placed module_name name (k, is) =
      elim (found_in_modules [] linked module_name name k is) [
        | inl nowhere ↦ no_number k nowhere
        | inr it ↦ subst (PlacedIn [] linked module_name name) (sym (number_is module_name name k is)) it
      ]

  pub known : (module_name name : List ℕ) (k : ℕ) → PlacedIn [] linked module_name name k → Known (DefinitionOf module_name name)
  known module_name name k it = (k, placed_is_found linked different module_name name k it)

  pub numbered_so : (module_name name : List ℕ) (k : ℕ) → PlacedIn [] linked module_name name k → number module_name name ≡ k
  numbered_so module_name name k it = number_is module_name name k (placed_is_found linked different module_name name k it)

  -- one of the linked modules, with what stands before one of its definitions
  module _ (module_name name : List ℕ) (k : ℕ) (it : PlacedIn [] linked module_name name k) where
    abbrev current : CheckedModule
    current = it.current

    abbrev its : PlacedAmong it.current.definitions name it.place
    its = it.among

    its_present : it.current ≡ present_module texts verdicts it.current.name
    its_present =
        one_of (λ (m : CheckedModule). m ≡ present_module texts verdicts m.name) it.earlier it.current it.later
        (subst (AllByRecursion (λ (m : CheckedModule). m ≡ present_module texts verdicts m.name)) it.modules linked_present)

    its_accepted : is_accepted_module texts verdicts it.current.name ≡ true
    its_accepted =
        one_of (λ (m : CheckedModule). is_accepted_module texts verdicts m.name ≡ true) it.earlier it.current it.later
        (subst (AllByRecursion (λ (m : CheckedModule). is_accepted_module texts verdicts m.name ≡ true)) it.modules linked_accepted)

    abbrev is_module : IsModule devices texts verdicts it.current.name
    is_module = it_is it.current.name its_accepted

    -- it stands in the present module
    standing : Standing
    standing = record {
      imports = it.current.imports;
      findings = findings_for texts verdicts it.current.name is_module.text;
      before = its.before;
      definition = its.one;
    }

    stands : StandsIn texts verdicts it.current.name standing
    unfolding standing
    stands = record {
      text = is_module.text;
      is_text = is_module.is_text;
      imports_are =
          is_module.reads
          ∙ ap (λ o. Some o) (sym (ap (λ (m : CheckedModule). m.imports) its_present
          ∙ ap (λ o. unwrap_or (imports_of (unwrap_or o [])) []) is_module.is_text ∙ ap (λ o. unwrap_or o []) is_module.reads));
      findings_are = refl;
      after = its.after;
      accepted =
          is_module.accepted
          ∙ ap IsAccepted (sym (ap (λ (m : CheckedModule). m.definitions) its_present ∙ ap definitions_of is_module.accepted) ∙ its.parts);
    }

    -- its entry, by names
    entry_named : entry_in devices texts verdicts (DefinitionOf it.current.name its.one.name)
        ≡ filter_map (target_of (earlier_targets devices it.current.name standing)) its.one.accepted.type.set.list
    unfolding standing
    entry_named =
        ap (entry_or_none devices it.current.name) (found_in devices texts verdicts differ sorted are it.current.name standing stands)
        ∙ same_filtered (target_of (standing_targets devices it.current.name standing)) (target_of (earlier_targets devices it.current.name standing))
        its.one.accepted.type.set.list
        (without_own devices it.current.name standing its.one.recursive
        (λ recursive position among.
        own_set_is_over_devices devices texts verdicts differ sorted are it.current.name standing stands recursive position
        ((Member-list (Variable (Free position)) its.one.accepted.type.set).1 among)))

    -- what it imports has a number among the earlier modules, which is its number
    import_known : (one : ImportSyntax) → is_some (imported (modules_turned [] it.earlier) (import_of one)) ≡ true
        → position_in 0 one.source one.name (modules_turned [] it.earlier) ≡ Some (number one.source one.name)
    import_known one there =
        let (d, found) = some_there (imported (modules_turned [] it.earlier) (import_of one)) there in
        let (q, at, rest) = definition_found [] (modules_turned [] it.earlier) one.source one.name d found in
        elim (found_in_modules [] it.earlier one.source one.name q at) [
          | inl nowhere ↦ no_number q nowhere
          | inr placed_there ↦
              let here : PlacedIn [] linked one.source one.name q = record {
                earlier = placed_there.earlier;
                current = placed_there.current;
                later = placed_there.later ++ it.current ∷ it.later;
                modules =
                    it.modules ∙ ap (λ ms. ms ++ it.current ∷ it.later) placed_there.modules
                    ∙ append_assoc placed_there.earlier (placed_there.current ∷ placed_there.later) (it.current ∷ it.later);
                of_module = placed_there.of_module;
                place = placed_there.place;
                among = placed_there.among;
                at = placed_there.at;
              } in
              at ∙ ap (λ n. Some n) (sym (numbered_so one.source one.name q here))
        ]

    imports_known : AllByRecursion (λ one. position_in 0 one.source one.name (modules_turned [] it.earlier) ≡ Some (number one.source one.name)) it.current.imports
    imports_known =
        let Q : Import → Type 0 = λ names. is_some (imported (modules_turned [] it.earlier) names) ≡ true in
        let there = of_one ImportsAreThere [] it.earlier it.current it.later
        (subst (λ ms. OfEachModule ImportsAreThere (modules_turned [] ms)) it.modules imports_there) in
        let all : AllByRecursion Q (map import_of it.current.imports) =
        subst (AllByRecursion Q) (reverse-reverse (map import_of it.current.imports)) (all_turned Q (reverse (map import_of it.current.imports)) there) in
        weaker (λ one. Q (import_of one)) (λ one. position_in 0 one.source one.name (modules_turned [] it.earlier) ≡ Some (number one.source one.name))
        import_known it.current.imports (all_unmapped Q import_of it.current.imports all)

    -- so have the definitions before it
    before_placed : (front : List CheckedDefinition) (one : CheckedDefinition) (rest : List CheckedDefinition) → its.before ≡ front ++ one ∷ rest
        → PlacedIn [] linked it.current.name one.name (count_definitions (modules_turned [] it.earlier) + length front)
    before_placed front one rest parts = record {
      earlier = it.earlier;
      current = it.current;
      later = it.later;
      modules = it.modules;
      of_module = refl;
      place = length front;
      among = record {
        before = front;
        one = one;
        after = rest ++ its.one ∷ its.after;
        parts = its.parts ∙ ap (λ xs. xs ++ its.one ∷ its.after) parts ∙ append_assoc front (one ∷ rest) (its.one ∷ its.after);
        named = refl;
        at = refl;
      };
      at = refl;
    }

    before_is_numbered : AreNumbered number it.current.name (count_definitions (modules_turned [] it.earlier)) its.before
    before_is_numbered =
        before_numbered number it.current.name (count_definitions (modules_turned [] it.earlier)) its.before
        (λ front one rest parts.
        numbered_so it.current.name one.name (count_definitions (modules_turned [] it.earlier) + length front) (before_placed front one rest parts))

    -- its entry, by numbers
    entry_numbered : targets_of (links_in (length devices) linked) (numbers.Definition k)
        ≡ map (numbered number) (entry_in devices texts verdicts (DefinitionOf it.current.name its.one.name))
    unfolding standing
    entry_numbered =
        ap (λ n. targets_of (links_in (length devices) linked) (numbers.Definition n)) (it.at ∙ ap (λ p. count_definitions (modules_turned [] it.earlier) + p) its.at)
        ∙ ap (λ ms. targets_of (links_in (length devices) ms) (numbers.Definition (count_definitions (modules_turned [] it.earlier) + length its.before))) it.modules
        ∙ entries_are_numbered devices it.earlier it.current it.later standing.findings its.before its.one its.after number its.parts imports_known before_is_numbered
        ∙ ap (map (numbered number)) (sym entry_named)

    -- all that it links to is linked
    front_known : (front rest : List CheckedDefinition) → its.before ≡ front ++ rest
        → AllByRecursion (λ one. Known (DefinitionOf it.current.name one.name)) rest
    front_known front [] parts = tt
    front_known front (one ∷ rest) parts = (
      known it.current.name one.name (count_definitions (modules_turned [] it.earlier) + length front) (before_placed front one rest parts),
      front_known (front ++ one ∷ []) rest (parts ∙ sym (append_assoc front (one ∷ []) rest)),
    )

    import_linked : (one : ImportSyntax) → position_in 0 one.source one.name (modules_turned [] it.earlier) ≡ Some (number one.source one.name)
        → Known (DefinitionOf one.source one.name)
    import_linked one at =
        elim (found_in_modules [] it.earlier one.source one.name (number one.source one.name) at) [
          | inl nowhere ↦ no_number (number one.source one.name) nowhere
          | inr placed_there ↦
              known one.source one.name (number one.source one.name) (record {
                earlier = placed_there.earlier;
                current = placed_there.current;
                later = placed_there.later ++ it.current ∷ it.later;
                modules =
                    it.modules ∙ ap (λ ms. ms ++ it.current ∷ it.later) placed_there.modules
                    ∙ append_assoc placed_there.earlier (placed_there.current ∷ placed_there.later) (it.current ∷ it.later);
                of_module = placed_there.of_module;
                place = placed_there.place;
                among = placed_there.among;
                at = placed_there.at;
              })
        ]

    all_known : AllByRecursion Known (earlier_targets devices it.current.name standing)
    unfolding standing
    all_known =
        names_all Known it.current.name its.before (front_known [] its.before refl) (with_imports (device_targets (length devices)) it.current.imports)
        (imports_all Known it.current.imports
        (weaker (λ one. position_in 0 one.source one.name (modules_turned [] it.earlier) ≡ Some (number one.source one.name))
        (λ one. Known (DefinitionOf one.source one.name)) import_linked it.current.imports imports_known)
        (device_targets (length devices)) (devices_all Known (λ n. tt) (length devices)))

    links_known : (target : Target) → Contains (entry_in devices texts verdicts (DefinitionOf it.current.name its.one.name)) target → Known target
    links_known target among =
        let (e, listed, is) =
        from_given (target_of (earlier_targets devices it.current.name standing)) its.one.accepted.type.set.list target
        (subst (λ entry. Contains entry target) entry_named among) in
        element_known Known tt (earlier_targets devices it.current.name standing) all_known e target is

  -- the three facts by which chains are carried over
  in_none : {B : Type 0} (target : Target) → Contains [] target → B
  in_none target (k, below, is) = absurd (omega arith)

  pub closed : (x y : Target) → Known x → Contains (entry_in devices texts verdicts x) y → Known y
  closed (DefinitionOf module_name name) y k among =
      let it = placed module_name name k in
      links_known module_name name (number module_name name) it y
      (subst (λ t. Contains (entry_in devices texts verdicts t) y) (λ i. DefinitionOf (it.of_module i) (it.among.named i)) among)
  closed (DeviceAt device) y k among = in_none y among
  closed Universal y k among = in_none y among

  pub carried : (x : Target) → Known x
      → targets_of (links_in (length devices) linked) (numbered number x) ≡ map (numbered number) (entry_in devices texts verdicts x)
  carried (DefinitionOf module_name name) k =
      let it = placed module_name name k in
      entry_numbered module_name name (number module_name name) it
      ∙ ap (λ t. map (numbered number) (entry_in devices texts verdicts t)) (λ i. DefinitionOf (sym it.of_module i) (sym it.among.named i))
  carried (DeviceAt device) k = refl
  carried Universal k = refl
