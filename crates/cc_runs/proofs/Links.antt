-- Linked stores are typed.
use Rattle.std.proofs.Common.{◌≡◌, ◌<◌, ◌≤◌, ◌+◌, ◌-◌, arith, ℕ, suc, true, false, cond, List, [], ◌∷◌, ◌++◌, map, length, Option, Some, None, inl, inr, refl, sym, ap, ◌∙◌, subst}
use Rattle.std.specs.Prelude.{reverse, nat_eq, nat_lt, is_some, IsTrue}
use Rattle.std.specs.Option.{option_map, unwrap_or}
use Rattle.std.specs.List.{AllByRecursion}
use Rattle.std.specs.Str.{bytes_eq}
use Rattle.std.proofs.lemmas.List.{length-reverse}
use Rattle.std.proofs.lemmas.Bool.{cond-true, cond-false, and_parts, and_from, eq-eqb, ne_eqb, lt-ltb, le-ltb}
use Rattle.cc_base.specs.declared.literal.Base.{Base}
use Rattle.cc_capture.specs.declared.var.Var.{Var}
use Rattle.cc_capture.specs.declared.var.Var.TheVariants.{Bound, Free}
use Rattle.cc_capture.specs.declared.var.Elem.{Elem}
use Rattle.cc_capture.specs.declared.var.Elem.TheVariants.{Cap}
use Rattle.cc_core.specs.Terms.{Term, VariableTerm, LiteralTerm, FunctionTerm, TypeFunctionTerm, BoxTerm, Application, TypeApplication, Unboxing, Let, Primitive, Conditional, Repetition, Operation, Boundary, Leave}
use Rattle.cc_core.specs.Shapes.{TypeVariable, CapturingType, capturing}
use Rattle.cc_core.specs.Contexts.{Bind, TermEntry, TypeEntry, Context, entry_of, lookup}
use Rattle.cc_core.specs.Traversal.{Action, act_type, act_term}
use Rattle.cc_core.specs.Substitution.{renaming, renamed_variable, renamed_term}
use Rattle.cc_core.specs.Occurrences.{MeetsInType, IsAskedOf, IsPositionBelow, positions_below, on_variables}
use Rattle.cc_core.specs.WellFormed.{Kind, kind_of, kinds_of, is_well_formed_entry, is_well_formed_context, IsWellFormedType, IsWellFormedContext}
use Rattle.cc_core.specs.Captured.{is_value}
use Rattle.cc_core.specs.Typing.{HasType}
use Rattle.cc_core.specs.Stores.{Store, is_device_base, is_function, HasStoreTyping, none_stored, value_stored, recursive_stored, device_stored}
use Rattle.cc_core.specs.Programs.{Import, Definition, Module, definition_named, definition_in, imported, device_entry, device_context, with_signature, import_context, definition_context, NamesDevicesOnly, OfEachModule, AreTyped, is_definable, AreDefinable, SignaturesNameDevices, ImportsAreThere, IsTypedModule}
use Rattle.cc_core.proofs.Conditions.{gives_here, MeetsInType-here}
use Rattle.cc_core.proofs.Lookups.{lookup-newest, lookup-below, lookup-older, lookup-cases, lookup-more, lookup-map, length_map}
use Rattle.cc_core.proofs.Moving.{Member-single, moving-still}
use Rattle.cc_core.proofs.Sorts.{TypeSort}
use Rattle.cc_core.proofs.SubcapturingContexts.{kind_of_entry}
use Rattle.cc_core.proofs.Renaming.{renaming_as_free}
use Rattle.cc_core.proofs.CapturedActions.{is_value-act}
use Rattle.cc_core.proofs.WellFormedness.{renamed-well_formed}
use Rattle.cc_typing_laws.specs.ContextMaps.{mapped_entry}
use Rattle.cc_typing_laws.proofs.FormedContexts.{IsKindedContext-test}
use Rattle.cc_typing_laws.proofs.MappedTyping.{typing_renames}
use Rattle.cc_runs.proofs.StoreTyping.{store_typed_from, store_formed}
use Rattle.cc_runs.specs.Links.{count_definitions, position_among, position_in, import_position, linked_position, linked_cell, device_cells, linked_store, linked_context}

-- Types that name devices alone stay as they are where devices stay.
stays_at : (n : ℕ) (to : ℕ → ℕ) → ((p : ℕ) → p < n → to p ≡ p) → (v : Var) → IsPositionBelow n v → renamed_variable to v ≡ v
stays_at n to still (Bound i) below = refl
stays_at n to still (Free p) below = ap (λ q. Free q) (still p below)

kept_type : (n : ℕ) (to : ℕ → ℕ) → ((p : ℕ) → p < n → to p ≡ p) → (t : CapturingType) → MeetsInType (positions_below n) 0 t → act_type (renaming to) 0 t ≡ t
kept_type n to still t below =
    moving-still (λ d v. renamed_variable to v) TypeSort 0 t
    (MeetsInType-here (positions_below n) (on_variables (λ d v. renamed_variable to v ≡ v))
    (gives_here (λ d v. IsPositionBelow n v) (λ d v. renamed_variable to v ≡ v) (λ d v m. stays_at n to still v m)) 0 t below)

-- an entry whose type names devices alone
abbrev OfDevices : ℕ → Bind → Type 0
OfDevices n (TermEntry s c) = MeetsInType (positions_below n) 0 (capturing s c)
OfDevices n (TypeEntry b) = ⊥

kept_entry : (n : ℕ) (to : ℕ → ℕ) → ((p : ℕ) → p < n → to p ≡ p) → (b : Bind) → OfDevices n b → mapped_entry to (λ p. TypeVariable (Free (to p))) b ≡ b
kept_entry n to still (TermEntry s c) below =
    ap (λ a. entry_of (act_type a 0 (capturing s c))) (sym (renaming_as_free to)) ∙ ap entry_of (kept_type n to still (capturing s c) below)
kept_entry n to still (TypeEntry b) below = absurd below

some_is : {A : Type 0} (a b : A) → Some a ≡ Some b → a ≡ b
some_is a b e = cc

is_function-act : (f : Action) (d : ℕ) (t : Term) → is_function (act_term f d t) ≡ is_function t
is_function-act f d (VariableTerm v) = refl
is_function-act f d (LiteralTerm l) = refl
is_function-act f d (FunctionTerm s c t) = refl
is_function-act f d (TypeFunctionTerm s t) = refl
is_function-act f d (BoxTerm v) = refl
is_function-act f d (Application v w) = refl
is_function-act f d (TypeApplication v s) = refl
is_function-act f d (Unboxing o v) = refl
is_function-act f d (Let n s t) = refl
is_function-act f d (Primitive o v w) = refl
is_function-act f d (Conditional n v s t) = refl
is_function-act f d (Repetition v w) = refl
is_function-act f d (Operation o v w) = refl
is_function-act f d (Boundary s t) = refl
is_function-act f d (Leave s c v w) = refl

-- Lengths.
device_context_length : (devices : List Base) → length (device_context devices) ≡ length devices
device_context_length devices = length_map device_entry (reverse devices) ∙ length-reverse devices

definition_context_length : (g : Context) (ds : List Definition) → length (definition_context g ds) ≡ length ds + length g
definition_context_length g [] = omega arith
definition_context_length g (d ∷ ds) = let rest = definition_context_length g ds in omega arith

linked_context_length : (devices : List Base) (ms : List Module) → length (linked_context devices ms) ≡ length devices + count_definitions ms
linked_context_length devices [] = let start = device_context_length devices in omega arith
linked_context_length devices (m ∷ ms) =
    let rest = linked_context_length devices ms in
    let more = definition_context_length (linked_context devices ms) (reverse m.definitions) in
    omega arith

-- The devices stand first in each context.
devices_found : (devices : List Base) (ms : List Module) (p : ℕ) (b : Bind) → lookup (device_context devices) p ≡ Some b → lookup (linked_context devices ms) p ≡ Some b
devices_found devices [] p b e = e
devices_found devices (m ∷ ms) p b e =
    lookup-more (map (λ (d : Definition). entry_of d.signature) (reverse m.definitions)) (linked_context devices ms) p b (devices_found devices ms p b e)

device_entry_of_devices : (n : ℕ) (base : Base) → OfDevices n (device_entry base)
device_entry_of_devices n base = (tt, λ x m. subst (λ (y : Elem). IsAskedOf (IsPositionBelow n) y) (sym (Member-single x Cap m)) tt)

of_devices : (n : ℕ) (bs : List Base) (p : ℕ) (b : Bind) → lookup (map device_entry bs) p ≡ Some b → OfDevices n b
of_devices n [] p b e = cc
of_devices n (base ∷ bs) p b e =
    elim (lookup-cases (device_entry base) (map device_entry bs) p b e) as (λ _. OfDevices n b) [
      | inl new ↦ subst (OfDevices n) new.1 (device_entry_of_devices n base)
      | inr old ↦ of_devices n bs p b old
    ]

-- What names stand for.
among_found : (g : Context) (before : ℕ) (name : List ℕ) (ds : List Definition) (d : Definition) → length g ≡ before → definition_named name ds ≡ Some d
    → (q : ℕ) × (position_among before name ds ≡ Some q) × (lookup (definition_context g ds) q ≡ Some (entry_of d.signature))
among_found g before name [] d len e = cc
among_found g before name (x ∷ ds) d len e =
    elim (bytes_eq x.name name) as (λ b. cond b (Some x) (definition_named name ds) ≡ Some d → (q : ℕ) × (cond b (Some (before + length ds)) (position_among before name ds) ≡ Some q) × (lookup (definition_context g (x ∷ ds)) q ≡ Some (entry_of d.signature))) [
      | true ↦ λ is.
          let here : before + length ds ≡ length (definition_context g ds) = (let more = definition_context_length g ds in omega arith) in (
            before + length ds,
            refl,
            ap (lookup (definition_context g (x ∷ ds))) here ∙ lookup-newest (entry_of x.signature) (definition_context g ds) ∙ ap (λ (y : Definition). Some (entry_of y.signature)) (some_is x d is),
          )
      | false ↦ λ is.
          let rest = among_found g before name ds d len is in
          (rest.0, rest.1, lookup-older (entry_of x.signature) (definition_context g ds) rest.0 (entry_of d.signature) rest.2)
    ] e

pub definition_found : (devices : List Base) (ms : List Module) (module_name name : List ℕ) (d : Definition) → definition_in module_name name ms ≡ Some d
    → (q : ℕ) × (position_in (length devices) module_name name ms ≡ Some q) × (lookup (linked_context devices ms) q ≡ Some (entry_of d.signature))
definition_found devices [] module_name name d e = cc
definition_found devices (m ∷ ms) module_name name d e =
    elim (bytes_eq m.name module_name) as (λ b. cond b (definition_named name (reverse m.definitions)) (definition_in module_name name ms) ≡ Some d → (q : ℕ) × (cond b (position_among (length devices + count_definitions ms) name (reverse m.definitions)) (position_in (length devices) module_name name ms) ≡ Some q) × (lookup (linked_context devices (m ∷ ms)) q ≡ Some (entry_of d.signature))) [
      | true ↦ λ is. among_found (linked_context devices ms) (length devices + count_definitions ms) name (reverse m.definitions) d (linked_context_length devices ms) is
      | false ↦ λ is.
          let rest = definition_found devices ms module_name name d is in
          (rest.0, rest.1, lookup-more (map (λ (x : Definition). entry_of x.signature) (reverse m.definitions)) (linked_context devices ms) rest.0 (entry_of d.signature) rest.2)
    ] e

among_names_devices : (devices : List Base) (name : List ℕ) (ds : List Definition) (d : Definition) → AllByRecursion (λ x. NamesDevicesOnly devices x.signature) ds → definition_named name ds ≡ Some d → NamesDevicesOnly devices d.signature
among_names_devices devices name [] d all e = cc
among_names_devices devices name (x ∷ ds) d all e =
    elim (bytes_eq x.name name) as (λ b. cond b (Some x) (definition_named name ds) ≡ Some d → NamesDevicesOnly devices d.signature) [
      | true ↦ λ is. subst (λ (y : Definition). NamesDevicesOnly devices y.signature) (some_is x d is) all.0
      | false ↦ λ is. among_names_devices devices name ds d all.1 is
    ] e

pub names_devices : (devices : List Base) (ms : List Module) (module_name name : List ℕ) (d : Definition) → OfEachModule (SignaturesNameDevices devices) ms → definition_in module_name name ms ≡ Some d → NamesDevicesOnly devices d.signature
names_devices devices [] module_name name d all e = cc
names_devices devices (m ∷ ms) module_name name d all e =
    elim (bytes_eq m.name module_name) as (λ b. cond b (definition_named name (reverse m.definitions)) (definition_in module_name name ms) ≡ Some d → NamesDevicesOnly devices d.signature) [
      | true ↦ λ is. among_names_devices devices name (reverse m.definitions) d all.0 is
      | false ↦ λ is. names_devices devices ms module_name name d all.1 is
    ] e

-- The context of a module goes into that of the store.
is_there : (o : Option Definition) → IsTrue (is_some o) → (d : Definition) × (o ≡ Some d)
is_there None there = cc
is_there (Some d) there = (d, refl)

abbrev AreThere : List Module → List Import → Type 0
AreThere earlier is = AllByRecursion (λ i. IsTrue (is_some (imported earlier i))) is

import_context_length : (g : Context) (earlier : List Module) (is : List Import) → AreThere earlier is → length (import_context g earlier is) ≡ length is + length g
import_context_length g earlier [] there = omega arith
import_context_length g earlier (i ∷ is) there =
    let found = is_there (imported earlier i) there.0 in
    let rest = import_context_length g earlier is there.1 in
    ap (λ o. length (with_signature o (import_context g earlier is))) found.1 ∙ (let e : suc (length (import_context g earlier is)) ≡ suc (length is) + length g = omega arith in e)

module _ (devices : List Base) (earlier : List Module) (signatures : OfEachModule (SignaturesNameDevices devices) earlier) where
  imports_found : (is : List Import) → AreThere earlier is → (p : ℕ) (b : Bind) → lookup (import_context (device_context devices) earlier is) p ≡ Some b
      → (lookup (linked_context devices earlier) (import_position (length devices) earlier is p) ≡ Some b) × OfDevices (length devices) b
  imports_found [] there p b e = (devices_found devices earlier p b e, of_devices (length devices) (reverse devices) p b e)
  imports_found (i ∷ is) there p b e =
      let found = is_there (imported earlier i) there.0 in
      let rest : Context = import_context (device_context devices) earlier is in
      let long = import_context_length (device_context devices) earlier is there.1 in
      let start = device_context_length devices in
      let at = definition_found devices earlier i.module_name i.definition_name found.0 found.1 in
      let is_at : lookup (entry_of found.0.signature ∷ rest) p ≡ Some b = sym (ap (λ o. lookup (with_signature o rest) p) found.1) ∙ e in
      elim (lookup-cases (entry_of found.0.signature) rest p b is_at) as (λ _. (lookup (linked_context devices earlier) (import_position (length devices) earlier (i ∷ is) p) ≡ Some b) × OfDevices (length devices) b) [
        | inl new ↦
            let here : p ≡ length devices + length is = (let same = new.0 in omega arith) in
            let goes : import_position (length devices) earlier (i ∷ is) p ≡ at.0 =
            cond-true (nat_eq p (length devices + length is)) _ _ (eq-eqb p (length devices + length is) here) ∙ ap (λ o. unwrap_or o p) at.1 in (
              ap (lookup (linked_context devices earlier)) goes ∙ at.2 ∙ ap (λ x. Some x) new.1,
              subst (OfDevices (length devices)) new.1 (names_devices devices earlier i.module_name i.definition_name found.0 signatures found.1),
            )
        | inr old ↦
            let below : p < length rest = lookup-below rest p b old in
            let goes : import_position (length devices) earlier (i ∷ is) p ≡ import_position (length devices) earlier is p =
            cond-false (nat_eq p (length devices + length is)) _ _ (ne_eqb p (length devices + length is) (λ same. omega arith)) in
            let found_older = imports_found is there.1 p b old in
            (ap (lookup (linked_context devices earlier)) goes ∙ found_older.0, found_older.1)
      ]

  devices_stay : (is : List Import) (p : ℕ) → p < length devices → import_position (length devices) earlier is p ≡ p
  devices_stay [] p below = refl
  devices_stay (i ∷ is) p below =
      cond-false (nat_eq p (length devices + length is)) _ _ (ne_eqb p (length devices + length is) (λ same. omega arith)) ∙ devices_stay is p below

  module _ (is : List Import) (there : AreThere earlier is) where
    abbrev to : ℕ → ℕ
    to p = linked_position (length devices) earlier is p

    to_import : (p : ℕ) → p < length devices + length is → to p ≡ import_position (length devices) earlier is p
    to_import p below = cond-true (nat_lt p (length devices + length is)) _ _ (lt-ltb p (length devices + length is) below)

    to_own : (p : ℕ) → length devices + length is ≤ p → to p ≡ length devices + count_definitions earlier + (p - (length devices + length is))
    to_own p above = cond-false (nat_lt p (length devices + length is)) _ _ (le-ltb p (length devices + length is) above)

    still : (p : ℕ) → p < length devices → to p ≡ p
    still p below = to_import p (omega arith) ∙ devices_stay is p below

    abbrev own : Context
    own = import_context (device_context devices) earlier is

    own_length : length own ≡ length is + length devices
    own_length =
        let long = import_context_length (device_context devices) earlier is there in
        let start = device_context_length devices in
        omega arith

    found : (ds : List Definition) → AllByRecursion (λ d. NamesDevicesOnly devices d.signature) ds → (p : ℕ) (b : Bind) → lookup (definition_context own ds) p ≡ Some b
        → (lookup (definition_context (linked_context devices earlier) ds) (to p) ≡ Some b) × OfDevices (length devices) b
    found [] all p b e =
        let below : p < length own = lookup-below own p b e in
        let long = own_length in
        let at = imports_found is there p b e in
        (ap (lookup (linked_context devices earlier)) (to_import p (omega arith)) ∙ at.0, at.1)
    found (d ∷ ds) all p b e =
        let target : Context = definition_context (linked_context devices earlier) ds in
        elim (lookup-cases (entry_of d.signature) (definition_context own ds) p b e) as (λ _. (lookup (entry_of d.signature ∷ target) (to p) ≡ Some b) × OfDevices (length devices) b) [
          | inl new ↦
              let long = own_length in
              let long_source = definition_context_length own ds in
              let long_target = definition_context_length (linked_context devices earlier) ds in
              let long_linked = linked_context_length devices earlier in
              let same = new.0 in
              let here : to p ≡ length target = to_own p (omega arith) ∙ (let q : length devices + count_definitions earlier + (p - (length devices + length is)) ≡ length target = omega arith in q) in (
                ap (lookup (entry_of d.signature ∷ target)) here ∙ lookup-newest (entry_of d.signature) target ∙ ap (λ x. Some x) new.1,
                subst (OfDevices (length devices)) new.1 all.0,
              )
          | inr old ↦
              let rest = found ds all.1 p b old in
              (lookup-older (entry_of d.signature) target (to p) b rest.0, rest.1)
        ]

    -- so each value has its type where it is linked
    entries_kept : (ds : List Definition) → AllByRecursion (λ d. NamesDevicesOnly devices d.signature) ds → (p : ℕ) (b : Bind) → lookup (definition_context own ds) p ≡ Some b
        → lookup (definition_context (linked_context devices earlier) ds) (to p) ≡ Some (mapped_entry to (λ q. TypeVariable (Free (to q))) b)
    entries_kept ds all p b e =
        let at = found ds all p b e in
        at.0 ∙ ap (λ x. Some x) (sym (kept_entry (length devices) to still b at.1))

    linked_value : (ds : List Definition) → AllByRecursion (λ d. NamesDevicesOnly devices d.signature) ds → IsWellFormedContext (definition_context (linked_context devices earlier) ds)
        → (value : Term) (type : CapturingType) → NamesDevicesOnly devices type → HasType (definition_context own ds) value type
        → HasType (definition_context (linked_context devices earlier) ds) (renamed_term to value) type
    linked_value ds all formed value type names typed =
        subst (HasType (definition_context (linked_context devices earlier) ds) (renamed_term to value)) (kept_type (length devices) to still type names)
        (typing_renames (definition_context own ds) (definition_context (linked_context devices earlier) ds) to (entries_kept ds all) formed value type typed)

    signature_formed : (ds : List Definition) → AllByRecursion (λ d. NamesDevicesOnly devices d.signature) ds → (type : CapturingType) → NamesDevicesOnly devices type
        → IsWellFormedType (definition_context own ds) type → IsWellFormedType (definition_context (linked_context devices earlier) ds) type
    signature_formed ds all type names formed =
        subst (IsWellFormedType (definition_context (linked_context devices earlier) ds)) (kept_type (length devices) to still type names)
        (renamed-well_formed TypeSort (definition_context own ds) (definition_context (linked_context devices earlier) ds) to type kinds_kept formed)
      where
        kinds_kept : (p : ℕ) (k : Kind) → lookup (kinds_of (definition_context own ds)) p ≡ Some k → lookup (kinds_of (definition_context (linked_context devices earlier) ds)) (to p) ≡ Some k
        kinds_kept p k e = by_entry (lookup (definition_context own ds) p) refl (sym (lookup-map kind_of (definition_context own ds) p) ∙ e)
          where
            by_entry : (o : Option Bind) → lookup (definition_context own ds) p ≡ o → option_map kind_of o ≡ Some k → lookup (kinds_of (definition_context (linked_context devices earlier) ds)) (to p) ≡ Some k
            by_entry None is' h = cc
            by_entry (Some b) is' h = kind_of_entry (definition_context (linked_context devices earlier) ds) (to p) b (found ds all p b is').0 ∙ h

    stored : {st : Store} → HasStoreTyping st (linked_context devices earlier) → (ds : List Definition)
        → AllByRecursion (λ d. NamesDevicesOnly devices d.signature) ds → AllByRecursion (λ d. IsTrue (is_definable d)) ds → AreTyped own ds
        → HasStoreTyping (map (linked_cell to) ds ++ st) (definition_context (linked_context devices earlier) ds)
    stored below [] names values typed = below
    stored {st = st} below (d ∷ ds) names values typed =
        let rest = stored below ds names.1 values.1 typed.1 in
        let formed = IsKindedContext-test (definition_context (linked_context devices earlier) ds) (store_formed (store_typed_from rest)) in
        elim d.is_recursive as (λ r. IsTrue (cond r (is_function d.value) (is_value d.value)) → HasType (cond r (entry_of d.signature ∷ definition_context own ds) (definition_context own ds)) d.value d.signature
        → HasStoreTyping (linked_cell to d ∷ (map (linked_cell to) ds ++ st)) (entry_of d.signature ∷ definition_context (linked_context devices earlier) ds)) [
          | true ↦ λ is_f has.
              let parts = and_parts (is_well_formed_entry (kinds_of (definition_context own ds)) (entry_of d.signature)) (is_well_formed_context (definition_context own ds)) has.context_formed in
              let type_formed = signature_formed ds names.1 d.signature names.0 parts.0 in
              let context_formed = and_from (is_well_formed_entry (kinds_of (definition_context (linked_context devices earlier) ds)) (entry_of d.signature)) (is_well_formed_context (definition_context (linked_context devices earlier) ds)) type_formed formed in
              recursive_stored rest (is_function-act (renaming to) 0 d.value ∙ is_f) type_formed (linked_value (d ∷ ds) names context_formed d.value d.signature names.0 has)
          | false ↦ λ is_v has. value_stored rest (is_value-act (renaming to) 0 d.value ∙ is_v) (linked_value ds names.1 formed d.value d.signature names.0 has)
        ] values.0 typed.0

devices_stored : (bs : List Base) → AllByRecursion (λ b. IsTrue (is_device_base b)) bs → HasStoreTyping (device_cells bs) (map device_entry bs)
devices_stored [] all = none_stored
devices_stored (b ∷ bs) all = device_stored (devices_stored bs all.1) all.0

pub linked_store_typed : (devices : List Base) (ms : List Module) → AllByRecursion (λ b. IsTrue (is_device_base b)) (reverse devices) → OfEachModule (SignaturesNameDevices devices) ms
    → OfEachModule AreDefinable ms → OfEachModule ImportsAreThere ms → OfEachModule (IsTypedModule devices) ms → HasStoreTyping (linked_store devices ms) (linked_context devices ms)
linked_store_typed devices [] shapes names values there typed = devices_stored (reverse devices) shapes
linked_store_typed devices (m ∷ ms) shapes names values there typed =
    stored devices ms names.1 (reverse m.imports) there.0 (linked_store_typed devices ms shapes names.1 values.1 there.1 typed.1) (reverse m.definitions) names.0 values.0 typed.0
