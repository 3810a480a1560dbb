-- The definitions of an accepted module, applied at the last one, make a typed program.
use Rattle.std.proofs.Common.{◌≡◌, ◌<◌, ◌+◌, ℕ, suc, true, false, cond, List, [], ◌∷◌, ◌++◌, map, reverse, length, Some, refl, sym, ap, ◌∙◌, subst, arith, length-append}
use mathlib.Core.List.{reverse_aux}
use Rattle.std.specs.Prelude.{IsTrue, slice_get}
use Rattle.std.specs.List.{AllByRecursion, list_all}
use Rattle.std.proofs.lemmas.Bool.{and_parts}
use Rattle.std.proofs.lemmas.List.{length-reverse}
use Rattle.std.specs.Option.{option_map}
use Rattle.std.specs.Result.{IfOk, OkIff, result_ok}
use Rattle.std.specs.Prelude.{Option, None, Result, Ok, Err, min}
use Rattle.cc_device.specs.Devices.{Devices}
use Rattle.cc_machine.proofs.StandingLemmas.{fits_back}
use Rattle.cc_runs.specs.Alike.{erased_cell, erased_configuration}
use Rattle.cc_runs.specs.Machine.{Configuration}
use Rattle.cc_runs.specs.SoundRuns.{HasShapesOfCells}
use Rattle.cc_machine.proofs.Linking.{lookup-reverse}
use Rattle.std.proofs.lemmas.Option.{slice_get-map}
use Rattle.cc_base.specs.declared.device.DeviceDecl.{DeviceDecl}
use Rattle.cc_base.specs.declared.device.Kind.{Kind}
use Rattle.cc_base.specs.declared.device.Kind.TheVariants as kinds
use Rattle.cc_base.specs.declared.literal.Base.{Base}
use Rattle.cc_base.specs.declared.literal.Base.TheVariants as bases
use Rattle.cc_base.specs.Literals.{UnitLiteral}
use Rattle.cc_capture.specs.declared.var.Var.TheVariants.{Free}
use Rattle.cc_capture.specs.declared.var.Elem.TheVariants.{Var as Variable}
use Rattle.cc_capture.specs.Sets.{Set, empty}
use Rattle.cc_capture.proofs.Membership.{Member-empty}
use Rattle.cc_core.specs.declared.terms.Node.{Node}
use Rattle.cc_core.specs.Shapes.{Shape, BaseShape, AnyShape, TypeVariable, FunctionShape, TypeFunctionShape, BoxShape, ExitShape, capturing}
use Rattle.cc_core.specs.Terms.{Term, LiteralTerm, Application}
use Rattle.cc_core.specs.Contexts.{TermEntry, Context, entry_of, lookup}
use Rattle.cc_core.specs.Traversal.{act, act_set}
use Rattle.cc_core.specs.Substitution.{putting}
use Rattle.cc_core.specs.Captured.{is_value, variable_set}
use Rattle.cc_core.specs.Subcapturing.{Subcaptures, variable, SubcapturesSet}
use Rattle.cc_core.specs.Subtyping.{reflexive}
use Rattle.cc_core.specs.Typing.{t-var, t-lit, t-app, t-sub, HasType}
use Rattle.cc_core.specs.WellFormed.{is_well_formed_context, is_well_formed_entry, kinds_of}
use Rattle.cc_core.specs.Stores.{ValueCell, Store, is_device_base, is_function, HasStoreTyping, value_stored, recursive_stored}
use Rattle.cc_core.specs.Programs.{Definition, AreTyped, is_definable, device_context, device_entry, definition_context}
use Rattle.cc_core.specs.TermViews.{term_of, type_of}
use Rattle.cc_core.proofs.Lookups.{length_map, lookup-newest, lookup-older}
use Rattle.cc_core.proofs.Moving.{Member-single}
use Rattle.cc_core.proofs.SubcapturingContexts.{IsKindedContext, entry_kinded, kind_of_entry}
use Rattle.cc_device.specs.Declarations.{declared_base, declared_bases}
use Rattle.cc_typing_laws.proofs.FormedContexts.{IsKindedContext-test}
use Rattle.cc_typing_laws.proofs.InternalConversions.{formed_type_from, internal_from, type_from}
use Rattle.cc_verdicts.specs.ModuleVerdicts.{in_program}
use Rattle.cc_runs.specs.Links.{device_cells}
use Rattle.cc_runs.proofs.Links.{linked_store_typed}
use Rattle.cc_runs.proofs.LinkedPrograms.{all_reversed}
use Rattle.cc_runs.proofs.StoreTyping.{store_typed_from, store_formed}
use Rattle.cc_module.specs.declared.judgement.CheckedDef.{CheckedDef}
use Rattle.cc_module.specs.Judgements.{checked_definition_of}
use Rattle.cc_machine.specs.declared.values.TypedValue.{TypedValue}
use Rattle.cc_machine.specs.Starts.{value_cell, value_entry, value_store, value_context, program_store, IsTyped}
use Rattle.cc_machine.proofs.Starting.{program_counted}
use Rattle.cc_tests_calls.specs.Linked.{is_unit, takes_unit, AreCellsOf, AreTypedOver}

some_is : {A : Type 0} (a b : A) → Some a ≡ Some b → a ≡ b
some_is a b e = cc

none_some : {A : Type 0} (a : A) → None ≡ Some a → ⊥
none_some a e = cc

-- Lists that are turned round.
map_reverse : {A B : Type 0} (f : A → B) (xs : List A) → map f (reverse xs) ≡ reverse (map f xs)
map_reverse f xs = turned f xs []
  where
    turned : {A B : Type 0} (f : A → B) (xs acc : List A) → map f (reverse_aux xs acc) ≡ reverse_aux (map f xs) (map f acc)
    turned f [] acc = refl
    turned f (x ∷ xs) acc = turned f xs (x ∷ acc)

all_turned : {A : Type 0} (P : A → Type 0) (xs acc : List A) → AllByRecursion P xs → AllByRecursion P acc → AllByRecursion P (reverse_aux xs acc)
all_turned P [] acc all more = more
all_turned P (x ∷ xs) acc all more = all_turned P xs (x ∷ acc) all.1 (all.0, more)

first_is : {A : Type 0} (ys : List A) (i : ℕ) (x : A) → i + 1 ≡ length ys → lookup ys i ≡ Some x → (older : List A) × (ys ≡ x ∷ older)
first_is [] i x counted e = absurd (omega arith)
first_is (y ∷ ys) i x counted e =
    let here : length ys ≡ i = omega arith in
    let same : Some y ≡ Some x = sym (lookup-newest y ys) ∙ ap (lookup (y ∷ ys)) here ∙ e in
    (ys, ap (λ z. z ∷ ys) (some_is y x same))

-- The store of definitions after those of a typed store.
definitions_stored : {st : Store} {g : Context} → HasStoreTyping st g → (ds : List Definition)
    → AllByRecursion (λ d. IsTrue (is_definable d)) ds → AreTyped g ds
    → HasStoreTyping (map (λ d. ValueCell d.value) ds ++ st) (definition_context g ds)
definitions_stored below [] values typed = below
definitions_stored {st = st} {g = g} below (d ∷ ds) values typed =
    let rest = definitions_stored below ds values.1 typed.1 in
    elim d.is_recursive as (λ r. IsTrue (cond r (is_function d.value) (is_value d.value)) → HasType (cond r (entry_of d.signature ∷ definition_context g ds) (definition_context g ds)) d.value d.signature
    → HasStoreTyping (ValueCell d.value ∷ (map (λ x. ValueCell x.value) ds ++ st)) (entry_of d.signature ∷ definition_context g ds)) [
      | true ↦ λ is_f has. recursive_stored rest is_f (and_parts (is_well_formed_entry (kinds_of (definition_context g ds)) (entry_of d.signature)) (is_well_formed_context (definition_context g ds)) has.context_formed).0 has
      | false ↦ λ is_v has. value_stored rest is_v has
    ] values.0 typed.0

-- declared devices make a typed store
device_bases : (decls : List DeviceDecl) → list_all is_device_base (declared_bases decls) ≡ true
device_bases [] = refl
device_bases (d ∷ decls) = device_base d.kind (device_bases decls)
  where
    device_base : (k : Kind) → list_all is_device_base (declared_bases decls) ≡ true → list_all is_device_base (declared_base k ∷ declared_bases decls) ≡ true
    device_base kinds.Console e = e
    device_base (kinds.File numbers) e = e
    device_base kinds.Counter e = e

devices_stored : (devices : List Base) → list_all is_device_base devices ≡ true → HasStoreTyping (device_cells (reverse devices)) (device_context devices)
devices_stored devices are = linked_store_typed devices [] (all_reversed is_device_base devices are) tt tt tt tt

-- with a cell of unit
unit_stored : {store : Store} {context : Context} → HasStoreTyping store context → HasStoreTyping (ValueCell (LiteralTerm UnitLiteral) ∷ store) (TermEntry (BaseShape bases.Unit) empty ∷ context)
unit_stored {store} {context} stored =
    value_stored stored refl (record {
      context_formed = IsKindedContext-test context (store_formed (store_typed_from stored));
      term_formed = refl;
      type_formed = formed_type_from context (BaseShape bases.Unit) empty tt (λ x m. absurd (Member-empty x m));
      typing = t-lit;
    })

-- a function that takes unit, applied to that cell, has a type
unit_below : (inner : Context) (set : Set) → SubcapturesSet (TermEntry (BaseShape bases.Unit) empty ∷ inner) (variable_set (Free (length inner))) set
unit_below inner set x m =
    subst (λ y. Subcaptures (TermEntry (BaseShape bases.Unit) empty ∷ inner) y set) (sym (Member-single x (Variable (Free (length inner))) m))
    (variable {shape = BaseShape bases.Unit} {declared = empty} (lookup-newest (TermEntry (BaseShape bases.Unit) empty) inner) (λ y m'. absurd (Member-empty y m')))

applied : (inner : Context) (function : ℕ) (c : Set) (gives : Shape) (e d : Set) → IsKindedContext (TermEntry (BaseShape bases.Unit) empty ∷ inner)
    → lookup inner function ≡ Some (TermEntry (FunctionShape (BaseShape bases.Unit) c gives e) d)
    → HasType (TermEntry (BaseShape bases.Unit) empty ∷ inner) (Application (Free function) (Free (length inner)))
    (capturing (act (putting (Free (length inner))) 0 gives) (act_set (putting (Free (length inner))) 0 e))
applied inner function c gives e d formed there =
    let unit_entry = TermEntry (BaseShape bases.Unit) empty in
    let outer : Context = unit_entry ∷ inner in
    let entry = TermEntry (FunctionShape (BaseShape bases.Unit) c gives e) d in
    let found : lookup outer function ≡ Some entry = lookup-older unit_entry inner function entry there in
    let unit_there : lookup outer (length inner) ≡ Some unit_entry = lookup-newest unit_entry inner in
    let kinded = entry_kinded outer function entry formed found in
    let function_kind = kind_of_entry outer function entry found in
    let unit_kind = kind_of_entry outer (length inner) unit_entry unit_there in
    type_from formed (function_kind, unit_kind)
    (internal_from
    (t-app (t-var found) (t-sub (t-var unit_there) (unit_below inner c) reflexive (formed_type_from outer (BaseShape bases.Unit) c tt kinded.0.1)))
    formed (function_kind, unit_kind))

unit_shape : (s : Shape) → is_unit s ≡ true → s ≡ BaseShape bases.Unit
unit_shape (BaseShape bases.Unit) is = refl
unit_shape (BaseShape bases.Bool) is = cc
unit_shape (BaseShape bases.Int) is = cc
unit_shape (BaseShape bases.Str) is = cc
unit_shape (BaseShape bases.Console) is = cc
unit_shape (BaseShape bases.File) is = cc
unit_shape (BaseShape bases.Counter) is = cc
unit_shape AnyShape is = cc
unit_shape (TypeVariable v) is = cc
unit_shape (FunctionShape takes c gives e) is = cc
unit_shape (TypeFunctionShape bound gives e) is = cc
unit_shape (BoxShape content c) is = cc
unit_shape (ExitShape gives) is = cc

takes_unit_shape : (s : Shape) → takes_unit s ≡ true → (c : Set) × (gives : Shape) × (e : Set) × (s ≡ FunctionShape (BaseShape bases.Unit) c gives e)
takes_unit_shape (FunctionShape takes c gives e) is = (c, gives, e, ap (λ t. FunctionShape t c gives e) (unit_shape takes is))
takes_unit_shape (BaseShape b) is = cc
takes_unit_shape AnyShape is = cc
takes_unit_shape (TypeVariable v) is = cc
takes_unit_shape (TypeFunctionShape bound gives e) is = cc
takes_unit_shape (BoxShape content c) is = cc
takes_unit_shape (ExitShape gives) is = cc

-- The definitions, the newest first, and the values that are made of them.
abbrev newest_first : List CheckedDef → List Definition
newest_first defs = reverse (map in_program (map checked_definition_of defs))

all_map : {A B : Type 0} (P : B → Type 0) (f : A → B) (xs : List A) → AllByRecursion (λ x. P (f x)) xs → AllByRecursion P (map f xs)
all_map P f [] all = all
all_map P f (x ∷ xs) all = (all.0, all_map P f xs all.1)

cells_are : (defs : List CheckedDef) → map (λ d. ValueCell d.value) (map in_program (map checked_definition_of defs)) ≡ map (λ one. ValueCell (term_of one.checked.filled.value)) defs
cells_are [] = refl
cells_are (d ∷ defs) = ap (λ cs. ValueCell (term_of d.checked.filled.value) ∷ cs) (cells_are defs)

entries_are : (defs : List CheckedDef) → map (λ d. entry_of d.signature) (map in_program (map checked_definition_of defs)) ≡ map (λ one. entry_of (type_of one.checked.sig)) defs
entries_are [] = refl
entries_are (d ∷ defs) = ap (λ bs. entry_of (type_of d.checked.sig) ∷ bs) (entries_are defs)

store_is : (devices : List Base) (defs : List CheckedDef) (values : List TypedValue) → AreCellsOf defs values
    → map (λ d. ValueCell d.value) (newest_first defs) ++ device_cells (reverse devices) ≡ value_store devices values
store_is devices defs values are =
    ap (λ cs. cs ++ device_cells (reverse devices))
    (map_reverse (λ d. ValueCell d.value) (map in_program (map checked_definition_of defs))
    ∙ ap reverse (cells_are defs ∙ sym are.cells) ∙ sym (map_reverse value_cell values))

context_is : (devices : List Base) (defs : List CheckedDef) (values : List TypedValue) → AreCellsOf defs values
    → definition_context (device_context devices) (newest_first defs) ≡ value_context devices values
context_is devices defs values are =
    ap (λ bs. bs ++ device_context devices)
    (map_reverse (λ d. entry_of d.signature) (map in_program (map checked_definition_of defs))
    ∙ ap reverse (entries_are defs ∙ sym are.entries) ∙ sym (map_reverse value_entry values))

devices_counted : (decls : List DeviceDecl) → length (device_context (declared_bases decls)) ≡ length decls
devices_counted decls =
    length_map device_entry (reverse (declared_bases decls)) ∙ length-reverse (declared_bases decls) ∙ length_map (λ d. declared_base d.kind) decls

-- where the last definition stands, and how many cells there are before that of unit
last_there : (g : Context) (defs : List CheckedDef) (i : ℕ) (last : CheckedDef) → i + 1 ≡ length defs → slice_get defs i ≡ Some last
    → (lookup (definition_context g (newest_first defs)) (length g + i) ≡ Some (entry_of (type_of last.checked.sig)))
    × (length (definition_context g (newest_first defs)) ≡ length g + length defs)
last_there g defs i last counted at =
    let all : List Definition = map in_program (map checked_definition_of defs) in
    let long : length all ≡ length defs = length_map in_program (map checked_definition_of defs) ∙ length_map checked_definition_of defs in
    let turned : length (reverse all) ≡ length defs = length-reverse all ∙ long in
    let one : slice_get all i ≡ Some (in_program (checked_definition_of last)) =
    slice_get-map in_program (map checked_definition_of defs) i
    ∙ ap (option_map in_program) (slice_get-map checked_definition_of defs i ∙ ap (option_map checked_definition_of) at) in
    let first = first_is (reverse all) i (in_program (checked_definition_of last)) (omega arith) (lookup-reverse all i ∙ one) in
    let below : Context = map (λ d. entry_of d.signature) first.0 ++ g in
    let heads : length (reverse all) ≡ suc (length first.0) = ap length first.1 in
    let sizes : length first.0 + 1 ≡ length defs = omega (arith, heads, turned) in
    let counts : length below ≡ length g + i = length-append (map (λ d. entry_of d.signature) first.0) g ∙ ap (λ n. n + length g) (length_map (λ d. entry_of d.signature) first.0) ∙ omega arith in (
      ap (λ ds. lookup (definition_context g ds) (length g + i)) first.1
          ∙ ap (lookup (entry_of (type_of last.checked.sig) ∷ below)) (sym counts) ∙ lookup-newest (entry_of (type_of last.checked.sig)) below,
      length-append (map (λ d. entry_of d.signature) (reverse all)) g ∙ ap (λ n. n + length g) (length_map (λ d. entry_of d.signature) (reverse all) ∙ turned) ∙ omega arith,
    )

pub linked_program : (decls : List DeviceDecl) (defs : List CheckedDef) (values : List TypedValue) (i : ℕ) (last : CheckedDef) (term : Node)
    → AreTypedOver decls defs → AreCellsOf defs values → i + 1 ≡ length defs → slice_get defs i ≡ Some last
    → takes_unit (type_of last.checked.sig).shape ≡ true
    → term_of term ≡ Application (Free (length decls + i)) (Free (length decls + length defs))
    → IsTyped (declared_bases decls) values term
linked_program decls defs values i last term sound are counted at takes is =
    let devices : List Base = declared_bases decls in
    let g : Context = device_context devices in
    let ds : List Definition = newest_first defs in
    let inner : Context = definition_context g ds in
    let typed : AreTyped g ds = sound.typed in
    let values_are : AllByRecursion (λ d. IsTrue (is_definable d)) ds =
    all_turned (λ d. IsTrue (is_definable d)) (map in_program (map checked_definition_of defs)) []
    (all_map (λ d. IsTrue (is_definable d)) in_program (map checked_definition_of defs) sound.values) tt in
    let below : HasStoreTyping (map (λ d. ValueCell d.value) ds ++ device_cells (reverse devices)) inner =
    definitions_stored (devices_stored devices (device_bases decls)) ds values_are typed in
    let whole = unit_stored below in
    let there = last_there g defs i last counted at in
    let devices_are : length g ≡ length decls = devices_counted decls in
    let shape = takes_unit_shape (type_of last.checked.sig).shape takes in
    let set : Set = (type_of last.checked.sig).set in
    let found : lookup inner (length decls + i) ≡ Some (TermEntry (FunctionShape (BaseShape bases.Unit) shape.0 shape.1 shape.2) set) =
    ap (λ n. lookup inner (n + i)) (sym devices_are) ∙ there.0 ∙ ap (λ s. Some (TermEntry s set)) shape.3 in
    let has = applied inner (length decls + i) shape.0 shape.1 shape.2 set (store_formed (store_typed_from whole)) found in
    let S : Store → Context → Type 0 = λ st c. HasStoreTyping (ValueCell (LiteralTerm UnitLiteral) ∷ st) (TermEntry (BaseShape bases.Unit) empty ∷ c) in
    let H : Context → Term → Type 0 = λ c t. HasType (TermEntry (BaseShape bases.Unit) empty ∷ c) t (capturing (act (putting (Free (length inner))) 0 shape.1) (act_set (putting (Free (length inner))) 0 shape.2)) in
    let term_is : Application (Free (length decls + i)) (Free (length inner)) ≡ term_of term =
    ap (λ n. Application (Free (length decls + i)) (Free n)) (there.1 ∙ ap (λ n. n + length defs) devices_are) ∙ sym is in
    record {
      stored = subst (λ c. S (value_store devices values) c) (context_is devices defs values are) (subst (λ st. S st inner) (store_is devices defs values are) whole);
      type = capturing (act (putting (Free (length inner))) 0 shape.1) (act_set (putting (Free (length inner))) 0 shape.2);
      typed = subst (λ c. H c (term_of term)) (context_is devices defs values are) (subst (λ t. H inner t) term_is has);
    }

-- how many cells there are
pub few_cells : (decls : List DeviceDecl) (defs : List CheckedDef) (values : List TypedValue) (unit : ℕ) → AreCellsOf defs values
    → unit ≡ length decls + length defs → unit < 4294967295 → length (program_store (declared_bases decls) values) < 4294967296
few_cells decls defs values unit are is few =
    let counted = program_counted (declared_bases decls) values in
    let devices = length_map (λ d. declared_base d.kind) decls in
    let cells = length_map value_cell values in
    let definitions = length_map (λ one. ValueCell (term_of one.checked.filled.value)) defs in
    let same = ap length are.cells in
    omega (arith, counted, devices, cells, definitions, same, is, few)

-- What a call ensures of its value holds of the value that is taken of it.
pub of_value : {T E : Type 0} (P : T → Type 0) (r : Result T E) (o : Option T) (x : T) → IfOk r P → o ≡ result_ok r → o ≡ Some x → P x
of_value P (Ok y) o x holds is at = subst P (some_is y x (sym is ∙ at)) holds
of_value P (Err e) o x holds is at = absurd (none_some x (sym is ∙ at))

pub of_condition : {T E : Type 0} (r : Result T E) (P : Type 0) (v x : T) → OkIff r P v → Some x ≡ result_ok r → P × (x ≡ v)
of_condition (Ok y) P v x holds is = (holds.0, some_is x y is ∙ holds.1)
of_condition (Err e) P v x holds is = absurd (none_some x (sym is))

-- how many cells what is loaded has, and that devices fit it
pub loaded_fits : (held start : Configuration) (devices : Devices) → held ≡ erased_configuration start → HasShapesOfCells start.store devices
    → (length held.store ≡ length start.store) × HasShapesOfCells held.store devices
loaded_fits held start devices is fits = (ap (λ h. length h.store) is ∙ length_map erased_cell start.store, fits_back held start (sym is) devices fits)

-- with memory for so many calls, what is loaded has positions for them
pub loaded_ready : (held ready start : Configuration) (devices : Devices) (calls more : ℕ) → held ≡ erased_configuration start → ready ≡ held
    → HasShapesOfCells start.store devices → 0 < length start.store → more ≡ min (calls + 1) 4294967295 → length start.store + more < 4294967296
    → (length held.store + calls < 4294967295) × (length ready.store + calls < 4294967295) × HasShapesOfCells ready.store devices
loaded_ready held ready start devices calls more is same fits some adds few =
    let loaded = loaded_fits held start devices is fits in
    let still : length ready.store ≡ length held.store = ap (λ h. length h.store) same in
    (omega (arith, loaded.0, adds, few, some), omega (arith, loaded.0, still, adds, few, some), subst (λ h. HasShapesOfCells h.store devices) (sym same) loaded.1)
