-- The programs of entries are typed and start soundly.
use Rattle.std.proofs.Common.{◌≡◌, ◌<◌, ◌+◌, arith, ℕ, zero, suc, Bool, true, false, cond, List, [], ◌∷◌, ◌++◌, map, length, Some, inl, inr, ◌⊎◌, refl, sym, ap, ◌∙◌, subst}
use Rattle.std.specs.Prelude.{reverse, slice_get}
use mathlib.Core.List.{reverse_aux}
use Rattle.std.specs.Option.{unwrap_or}
use Rattle.std.specs.List.{AllByRecursion, list_all}
use Rattle.std.specs.Str.{bytes_eq}
use Rattle.std.proofs.lemmas.List.{length-reverse}
use Rattle.std.proofs.lemmas.Bool.{cases_eq, and_parts}
use Rattle.cc_base.specs.declared.literal.Base.{Base}
use Rattle.cc_base.specs.declared.literal.Base.TheVariants as bases
use Rattle.cc_capture.specs.declared.var.Var.TheVariants.{Free}
use Rattle.cc_capture.specs.declared.var.Elem.TheVariants.{Var as Variable}
use Rattle.cc_capture.specs.Sets.{Set, empty}
use Rattle.cc_capture.proofs.Membership.{Member-empty}
use Rattle.cc_core.specs.Shapes.{BaseShape, FunctionShape, capturing}
use Rattle.cc_base.specs.Literals.{UnitLiteral}
use Rattle.cc_core.specs.Terms.{Term, LiteralTerm}
use Rattle.cc_core.specs.Contexts.{TermEntry, Context, entry_of, lookup}
use Rattle.cc_core.specs.Traversal.{act, act_set}
use Rattle.cc_core.specs.Substitution.{putting, renamed_term}
use Rattle.cc_core.specs.WellFormed.{IsWellFormedType}
use Rattle.cc_core.specs.Captured.{variable_set}
use Rattle.cc_core.specs.Subcapturing.{Subcaptures, variable, SubcapturesSet}
use Rattle.cc_core.specs.Subtyping.{reflexive}
use Rattle.cc_core.specs.Typing.{t-var, t-lit, t-app, t-sub, HasType}
use Rattle.cc_core.specs.Stores.{ValueCell, DeviceCell, Store, is_device_base, HasStoreTyping, value_stored}
use Rattle.cc_core.specs.Programs.{Definition, Module, Entry, definition_named, definition_in, IsEntry}
use Rattle.cc_core.proofs.Lookups.{lookup-newest, lookup-older, lookup-cases, lookup-more, slice_get-within}
use Rattle.cc_core.proofs.Moving.{Member-single}
use Rattle.cc_core.proofs.SubcapturingContexts.{IsKindedContext, entry_kinded, kind_of_entry}
use Rattle.cc_typing_laws.proofs.FormedContexts.{IsKindedContext-test}
use Rattle.cc_typing_laws.proofs.InternalConversions.{formed_type_from, internal_from, type_from}
use Rattle.cc_runs.specs.Links.{count_definitions, position_among, position_in, linked_position, linked_cell, device_cells, linked_store, linked_context, program_store, program_context, entry_position, program_start}
use Rattle.cc_runs.specs.LinkLaws.{LinkedStoresAreTyped, DefinitionsAreLinked}
use Rattle.cc_device.specs.Devices.{DeviceState, base_of_device, Devices}
use Rattle.cc_runs.specs.Soundness.{labels_in, IsSound}
use Rattle.cc_runs.specs.SoundRuns.{IsSoundStart}
use Rattle.cc_runs.proofs.StoreTyping.{store_typed_from, store_formed, store_length}
use Rattle.cc_runs.proofs.StoreTheorems.{values_have_their_types}
use Rattle.cc_runs.proofs.Links.{definition_found, names_devices, linked_store_typed}
use Rattle.cc_runs.proofs.RunTheorems.{typed_programs_start_soundly}

-- Lists that are turned round.
all_turned : {A : Type 0} (test : A → Bool) (xs acc : List A) → list_all test xs ≡ true → AllByRecursion (λ x. test x ≡ true) acc → AllByRecursion (λ x. test x ≡ true) (reverse_aux xs acc)
all_turned test [] acc e all = all
all_turned test (x ∷ xs) acc e all =
    let parts = and_parts (test x) (list_all test xs) e in
    all_turned test xs (x ∷ acc) parts.1 (parts.0, all)

pub all_reversed : {A : Type 0} (test : A → Bool) (xs : List A) → list_all test xs ≡ true → AllByRecursion (λ x. test x ≡ true) (reverse xs)
all_reversed test xs e = all_turned test xs [] e tt

lookup_turned : {A : Type 0} (xs acc : List A) (p : ℕ) (b : A) → lookup (reverse_aux xs acc) p ≡ Some b → (lookup acc p ≡ Some b) ⊎ ((i : ℕ) × (p ≡ length acc + i) × (slice_get xs i ≡ Some b))
lookup_turned [] acc p b e = inl e
lookup_turned (x ∷ xs) acc p b e =
    elim (lookup_turned xs (x ∷ acc) p b e) as (λ _. (lookup acc p ≡ Some b) ⊎ ((i : ℕ) × (p ≡ length acc + i) × (slice_get (x ∷ xs) i ≡ Some b))) [
      | inl front ↦ elim (lookup-cases x acc p b front) as (λ _. (lookup acc p ≡ Some b) ⊎ ((i : ℕ) × (p ≡ length acc + i) × (slice_get (x ∷ xs) i ≡ Some b))) [
        | inl new ↦ inr (0, (let same = new.0 in omega arith), ap (λ y. Some y) new.1)
        | inr old ↦ inl old
      ]
      | inr later ↦ inr (suc later.0, (let same = later.1 in omega arith), later.2)
    ]

-- the position of an item of a list that is turned round is its index
lookup_reversed : {A : Type 0} (xs : List A) (p : ℕ) (b : A) → lookup (reverse xs) p ≡ Some b → slice_get xs p ≡ Some b
lookup_reversed xs p b e =
    elim (lookup_turned xs [] p b e) as (λ _. slice_get xs p ≡ Some b) [
      | inl nothing ↦ cc
      | inr found ↦ ap (slice_get xs) (let same = found.1 in let is : p ≡ found.0 = omega arith in is) ∙ found.2
    ]

-- Devices stand at their numbers, and nowhere else.
device_cells_length : (bs : List Base) → length (device_cells bs) ≡ length bs
device_cells_length [] = refl
device_cells_length (b ∷ bs) = ap suc (device_cells_length bs)

device_at : (bs : List Base) (p n : ℕ) (b : Base) → lookup (device_cells bs) p ≡ Some (DeviceCell n b) → (p ≡ n) × (lookup bs n ≡ Some b)
device_at [] p n b e = cc
device_at (x ∷ bs) p n b e =
    elim (lookup-cases (DeviceCell (length bs) x) (device_cells bs) p (DeviceCell n b) e) as (λ _. (p ≡ n) × (lookup (x ∷ bs) n ≡ Some b)) [
      | inl new ↦
          let number : length bs ≡ n = number_of new.1 in
          let base : x ≡ b = base_of_cell new.1 in
          (new.0 ∙ device_cells_length bs ∙ number, ap (lookup (x ∷ bs)) (sym number) ∙ lookup-newest x bs ∙ ap (λ y. Some y) base)
      | inr old ↦ let rest = device_at bs p n b old in (rest.0, lookup-older x bs n b rest.1)
    ]
  where
    number_of : {m k : ℕ} {x y : Base} → DeviceCell m x ≡ DeviceCell k y → m ≡ k
    number_of q = cc

    base_of_cell : {m k : ℕ} {x y : Base} → DeviceCell m x ≡ DeviceCell k y → x ≡ y
    base_of_cell q = cc

device_there : (bs : List Base) (p : ℕ) → p < length bs → (b : Base) × (lookup (device_cells bs) p ≡ Some (DeviceCell p b))
device_there [] p below = absurd (omega arith)
device_there (x ∷ bs) p below =
    elim (cases_eq p (length bs)) as (λ _. (b : Base) × (lookup (device_cells (x ∷ bs)) p ≡ Some (DeviceCell p b))) [
      | inl same ↦
          (x, ap (lookup (device_cells (x ∷ bs))) (same ∙ sym (device_cells_length bs)) ∙ lookup-newest (DeviceCell (length bs) x) (device_cells bs) ∙ ap (λ n. Some (DeviceCell n x)) (sym same))
      | inr other ↦
          let rest = device_there bs p (omega arith) in
          (rest.0, lookup-older (DeviceCell (length bs) x) (device_cells bs) p (DeviceCell p rest.0) rest.1)
    ]

below_definitions : (to : ℕ → ℕ) (ds : List Definition) (st : Store) (p n : ℕ) (b : Base) → lookup (map (linked_cell to) ds ++ st) p ≡ Some (DeviceCell n b) → lookup st p ≡ Some (DeviceCell n b)
below_definitions to [] st p n b e = e
below_definitions to (d ∷ ds) st p n b e =
    elim (lookup-cases (linked_cell to d) (map (linked_cell to) ds ++ st) p (DeviceCell n b) e) as (λ _. lookup st p ≡ Some (DeviceCell n b)) [
      | inl new ↦ let clash : linked_cell to d ≡ DeviceCell n b = new.1 in absurd (no_device (renamed_term to d.value) clash)
      | inr old ↦ below_definitions to ds st p n b old
    ]
  where
    no_device : (t : Term) → ValueCell t ≡ DeviceCell n b → ⊥
    no_device t q = cc

pub linked_device : (devices : List Base) (ms : List Module) (p n : ℕ) (b : Base) → lookup (linked_store devices ms) p ≡ Some (DeviceCell n b) → (p ≡ n) × (slice_get devices n ≡ Some b)
linked_device devices [] p n b e = let at = device_at (reverse devices) p n b e in (at.0, lookup_reversed devices n b at.1)
linked_device devices (m ∷ ms) p n b e =
    linked_device devices ms p n b (below_definitions (linked_position (length devices) ms (reverse m.imports)) (reverse m.definitions) (linked_store devices ms) p n b e)

linked_device_there : (devices : List Base) (ms : List Module) (p : ℕ) → p < length devices → (b : Base) × (lookup (linked_store devices ms) p ≡ Some (DeviceCell p b))
linked_device_there devices [] p below = device_there (reverse devices) p (let same = length-reverse devices in omega arith)
linked_device_there devices (m ∷ ms) p below =
    let rest = linked_device_there devices ms p below in
    (rest.0, lookup-more (map (linked_cell (linked_position (length devices) ms (reverse m.imports))) (reverse m.definitions)) (linked_store devices ms) p (DeviceCell p rest.0) rest.1)

-- The cells of definitions.
cells_length : (to : ℕ → ℕ) (ds : List Definition) (st : Store) → length (map (linked_cell to) ds ++ st) ≡ length ds + length st
cells_length to [] st = omega arith
cells_length to (d ∷ ds) st = let rest = cells_length to ds st in omega arith

pub linked_store_length : (devices : List Base) (ms : List Module) → length (linked_store devices ms) ≡ length devices + count_definitions ms
linked_store_length devices [] = let start = device_cells_length (reverse devices) in let same = length-reverse devices in omega arith
linked_store_length devices (m ∷ ms) =
    let rest = linked_store_length devices ms in
    let more = cells_length (linked_position (length devices) ms (reverse m.imports)) (reverse m.definitions) (linked_store devices ms) in
    omega arith

some_is : {A : Type 0} (a b : A) → Some a ≡ Some b → a ≡ b
some_is a b e = cc

cell_among : (to : ℕ → ℕ) (st : Store) (before : ℕ) (name : List ℕ) (ds : List Definition) (d : Definition) (q : ℕ) → length st ≡ before → definition_named name ds ≡ Some d → position_among before name ds ≡ Some q
    → lookup (map (linked_cell to) ds ++ st) q ≡ Some (linked_cell to d)
cell_among to st before name [] d q len e at = cc
cell_among to st before name (x ∷ ds) d q len e at =
    elim (bytes_eq x.name name) as (λ b. cond b (Some x) (definition_named name ds) ≡ Some d → cond b (Some (before + length ds)) (position_among before name ds) ≡ Some q → lookup (map (linked_cell to) (x ∷ ds) ++ st) q ≡ Some (linked_cell to d)) [
      | true ↦ λ is at'.
          let here : q ≡ length (map (linked_cell to) ds ++ st) = (let long = cells_length to ds st in let same : before + length ds ≡ q = some_is (before + length ds) q at' in omega arith) in
          ap (lookup (map (linked_cell to) (x ∷ ds) ++ st)) here ∙ lookup-newest (linked_cell to x) (map (linked_cell to) ds ++ st) ∙ ap (λ (y : Definition). Some (linked_cell to y)) (some_is x d is)
      | false ↦ λ is at'. lookup-older (linked_cell to x) (map (linked_cell to) ds ++ st) q (linked_cell to d) (cell_among to st before name ds d q len is at')
    ] e at

cell_found : (devices : List Base) (ms : List Module) (module_name name : List ℕ) (d : Definition) (q : ℕ) → definition_in module_name name ms ≡ Some d → position_in (length devices) module_name name ms ≡ Some q
    → (to : ℕ → ℕ) × (lookup (linked_store devices ms) q ≡ Some (linked_cell to d))
cell_found devices [] module_name name d q e at = cc
cell_found devices (m ∷ ms) module_name name d q e at =
    let to : ℕ → ℕ = linked_position (length devices) ms (reverse m.imports) in
    elim (bytes_eq m.name module_name) as (λ b. cond b (definition_named name (reverse m.definitions)) (definition_in module_name name ms) ≡ Some d → cond b (position_among (length devices + count_definitions ms) name (reverse m.definitions)) (position_in (length devices) module_name name ms) ≡ Some q
    → (to' : ℕ → ℕ) × (lookup (linked_store devices (m ∷ ms)) q ≡ Some (linked_cell to' d))) [
      | true ↦ λ is at'. (to, cell_among to (linked_store devices ms) (length devices + count_definitions ms) name (reverse m.definitions) d q (linked_store_length devices ms) is at')
      | false ↦ λ is at'.
          let rest = cell_found devices ms module_name name d q is at' in
          (rest.0, lookup-more (map (linked_cell to) (reverse m.definitions)) (linked_store devices ms) q (linked_cell rest.0 d) rest.1)
    ] e at

-- There is no label yet.
no_label_in_devices : (bs : List Base) → labels_in (device_cells bs) ≡ []
no_label_in_devices [] = refl
no_label_in_devices (b ∷ bs) = no_label_in_devices bs

no_label_in_definitions : (to : ℕ → ℕ) (ds : List Definition) (st : Store) → labels_in st ≡ [] → labels_in (map (linked_cell to) ds ++ st) ≡ []
no_label_in_definitions to [] st e = e
no_label_in_definitions to (d ∷ ds) st e = no_label_in_definitions to ds st e

pub no_label_linked : (devices : List Base) (ms : List Module) → labels_in (linked_store devices ms) ≡ []
no_label_linked devices [] = no_label_in_devices (reverse devices)
no_label_linked devices (m ∷ ms) = no_label_in_definitions (linked_position (length devices) ms (reverse m.imports)) (reverse m.definitions) (linked_store devices ms) (no_label_linked devices ms)

-- Entries.
module _ (entry : Entry) (is : IsEntry entry) where
  abbrev modules : List Module
  modules = reverse entry.modules

  abbrev below : Store
  below = linked_store entry.devices modules

  abbrev inner : Context
  inner = linked_context entry.devices modules

  pub entry_stored : HasStoreTyping below inner
  entry_stored = linked_store_typed entry.devices modules (all_reversed is_device_base entry.devices is.devices) is.signatures is.values is.imports is.typed

  pub program_stored : HasStoreTyping (program_store entry) (program_context entry)
  program_stored = value_stored entry_stored refl (record { context_formed = IsKindedContext-test inner (store_formed (store_typed_from entry_stored)); term_formed = refl; type_formed = unit_formed; typing = t-lit })
    where
      unit_formed : IsWellFormedType inner (capturing (BaseShape bases.Unit) empty)
      unit_formed = formed_type_from inner (BaseShape bases.Unit) empty tt (λ x m. absurd (Member-empty x m))

  abbrev started_at : (q : ℕ) × (position_in (length entry.devices) entry.module_name entry.definition_name modules ≡ Some q) × (lookup inner q ≡ Some (entry_of is.started.signature))
  started_at = definition_found entry.devices modules entry.module_name entry.definition_name is.started is.found

  pub started_there : lookup inner (entry_position entry) ≡ Some (TermEntry (FunctionShape (BaseShape bases.Unit) is.takes_set is.gives is.gives_set) is.started.signature.set)
  started_there =
      ap (λ o. lookup inner (unwrap_or o 0)) started_at.1 ∙ started_at.2 ∙ ap (λ s. Some (TermEntry s is.started.signature.set)) is.takes_unit

  pub unit_there : lookup (program_context entry) (length below) ≡ Some (TermEntry (BaseShape bases.Unit) empty)
  unit_there = ap (lookup (program_context entry)) (store_length (store_typed_from entry_stored)) ∙ lookup-newest (TermEntry (BaseShape bases.Unit) empty) inner

  pub entry_there : lookup (program_context entry) (entry_position entry) ≡ Some (TermEntry (FunctionShape (BaseShape bases.Unit) is.takes_set is.gives is.gives_set) is.started.signature.set)
  entry_there = lookup-older (TermEntry (BaseShape bases.Unit) empty) inner (entry_position entry) (TermEntry (FunctionShape (BaseShape bases.Unit) is.takes_set is.gives is.gives_set) is.started.signature.set) started_there

  program_formed : IsKindedContext (program_context entry)
  program_formed = store_formed (store_typed_from program_stored)

  -- unit captures nothing, so it is below every set
  unit_below : (set : Set) → SubcapturesSet (program_context entry) (variable_set (Free (length below))) set
  unit_below set x m =
      subst (λ y. Subcaptures (program_context entry) y set) (sym (Member-single x (Variable (Free (length below))) m))
      (variable {shape = BaseShape bases.Unit} {declared = empty} unit_there (λ y m'. absurd (Member-empty y m')))

  pub program_typed : HasType (program_context entry) (program_start entry).term (capturing (act (putting (Free (length below))) 0 is.gives) (act_set (putting (Free (length below))) 0 is.gives_set))
  program_typed =
      let kinded = entry_kinded (program_context entry) (entry_position entry) (TermEntry (FunctionShape (BaseShape bases.Unit) is.takes_set is.gives is.gives_set) is.started.signature.set) program_formed entry_there in
      let function_kind = kind_of_entry (program_context entry) (entry_position entry) (TermEntry (FunctionShape (BaseShape bases.Unit) is.takes_set is.gives is.gives_set) is.started.signature.set) entry_there in
      let unit_kind = kind_of_entry (program_context entry) (length below) (TermEntry (BaseShape bases.Unit) empty) unit_there in
      type_from program_formed (function_kind, unit_kind)
      (internal_from
      (t-app (t-var entry_there) (t-sub (t-var unit_there) (unit_below is.takes_set) reflexive (formed_type_from (program_context entry) (BaseShape bases.Unit) is.takes_set tt kinded.0.1)))
      program_formed (function_kind, unit_kind))

  pub program_sound : IsSound (program_start entry)
  program_sound =
      typed_programs_start_soundly (program_store entry) (program_context entry) (program_start entry).term _ program_stored program_typed
      (no_label_linked entry.devices modules)

  program_device : (p n : ℕ) (b : Base) → lookup (program_store entry) p ≡ Some (DeviceCell n b) → (p ≡ n) × (slice_get entry.devices n ≡ Some b)
  program_device p n b e =
      elim (lookup-cases (ValueCell (LiteralTerm UnitLiteral)) below p (DeviceCell n b) e) as (λ _. (p ≡ n) × (slice_get entry.devices n ≡ Some b)) [
        | inl new ↦ absurd (no_literal_device n b new.1)
        | inr old ↦ linked_device entry.devices modules p n b old
      ]
    where
      no_literal_device : (n : ℕ) (b : Base) → ValueCell (LiteralTerm UnitLiteral) ≡ DeviceCell n b → ⊥
      no_literal_device n b q = cc

  -- The start on devices of the entry's shapes.
  pub program_starts : (devices : Devices) → map base_of_device devices ≡ entry.devices
      → IsSoundStart (program_store entry) (program_context entry) (entry_position entry) (length below) (length entry.devices) (FunctionShape (BaseShape bases.Unit) is.takes_set is.gives is.gives_set) is.started.signature.set devices
  program_starts devices shapes = record {
    sound = record {
      configuration = program_sound;
      devices = λ p n b e. of_map devices n b (ap (λ bs. slice_get bs n) shapes ∙ (program_device p n b e).1);
    };
    stored = program_stored;
    declared = entry_there;
    applied = lookup-newest (ValueCell (LiteralTerm UnitLiteral)) below;
    first = λ p n b e. let at = program_device p n b e in (at.0, slice_get-within entry.devices n b at.1);
    names = λ p m.
        let position = (names_devices entry.devices modules entry.module_name entry.definition_name is.started is.signatures is.found).1 (Variable (Free p)) m in
        let at = linked_device_there entry.devices modules p position in
        (p, at.0, lookup-older (ValueCell (LiteralTerm UnitLiteral)) below p (DeviceCell p at.0) at.1);
  }
    where
      of_map : (ds : Devices) (n : ℕ) (b : Base) → slice_get (map base_of_device ds) n ≡ Some b → (d : DeviceState) × (slice_get ds n ≡ Some d) × (base_of_device d ≡ b)
      of_map [] n b e = cc
      of_map (d ∷ ds) zero b e = (d, refl, cc)
      of_map (d ∷ ds) (suc n) b e = of_map ds n b e

pub linked_stores_are_typed : LinkedStoresAreTyped
linked_stores_are_typed entry is = entry_stored entry is

pub definitions_are_linked : DefinitionsAreLinked
definitions_are_linked entry is module_name name definition e =
    let at = definition_found entry.devices (reverse entry.modules) module_name name definition e in
    let cell = cell_found entry.devices (reverse entry.modules) module_name name definition at.0 e at.1 in
    let value : Term = renamed_term cell.0 definition.value in (
      at.0,
      value,
      at.1,
      at.2,
      cell.1,
      values_have_their_types (linked_store entry.devices (reverse entry.modules)) (linked_context entry.devices (reverse entry.modules)) at.0 value definition.signature.shape definition.signature.set (entry_stored entry is) cell.1 at.2,
    )
