-- What stands in the cells of variables of base shapes and of exits.
use Rattle.std.proofs.Common.{◌≡◌, ℕ, Bool, true, false, Option, Some, inl, inr, ◌⊎◌, refl, sym, ap, ◌∙◌}
use Rattle.std.specs.Prelude.{ℤ}
use Rattle.cc_base.specs.declared.literal.Base.{Base}
use Rattle.cc_base.specs.declared.literal.Base.TheVariants as bases
use Rattle.cc_base.specs.declared.literal.Op.{Op}
use Rattle.cc_base.specs.declared.literal.Op.TheVariants as operations
use Rattle.cc_capture.specs.declared.var.Var.{Var}
use Rattle.cc_capture.specs.Sets.{Set}
use Rattle.cc_core.specs.Shapes.{Shape, BaseShape, FunctionShape, TypeFunctionShape, BoxShape, ExitShape}
use Rattle.cc_base.specs.Literals.{Literal, UnitLiteral, TruthLiteral, NumberLiteral, TextLiteral}
use Rattle.cc_core.specs.Terms.{Term, LiteralTerm}
use Rattle.cc_core.specs.Contexts.{Context}
use Rattle.cc_core.specs.Captured.{is_value}
use Rattle.cc_core.specs.Typing.{base_of, base_operated}
use Rattle.cc_core.specs.Stores.{Cell, ValueCell, DeviceCell, LabelCell, Store, cell_at, is_device_base}
use Rattle.cc_runs.specs.Machine.{literal_in}
use Rattle.cc_typing_laws.proofs.DirectSubtyping.{SubtypesDirectly, alike, under_any, through_bound, functions, type_functions, boxes, direct_transitive}
use Rattle.cc_typing_laws.proofs.InternalTyping.{HasVariable, TypedExactly, exact_variable, exact_literal, exact_function, exact_type_function, exact_application, exact_type_application, exact_box, exact_unboxing, exact_let, exact_primitive, exact_conditional, exact_repetition, exact_operation, exact_operation_alone, exact_boundary, exact_leave, Typed, widened}
use Rattle.cc_runs.proofs.StoreTyping.{StoreTyped, CellTyped, a_value, a_device, a_label, cell_of}

same_bases : {g : Context} {x y : Shape} → SubtypesDirectly g x y → (b b' : Base) → x ≡ BaseShape b → y ≡ BaseShape b' → b ≡ b'
same_bases alike b b' ex ey = let same : BaseShape b ≡ BaseShape b' = sym ex ∙ ey in cc
same_bases under_any b b' ex ey = cc
same_bases (through_bound there rest) b b' ex ey = cc
same_bases (functions sets takes results body) b b' ex ey = cc
same_bases (type_functions results body) b b' ex ey = cc
same_bases (boxes sets body) b b' ex ey = cc

same_exits : {g : Context} {x y : Shape} → SubtypesDirectly g x y → (s s' : Shape) → x ≡ ExitShape s → y ≡ ExitShape s' → s ≡ s'
same_exits alike s s' ex ey = let same : ExitShape s ≡ ExitShape s' = sym ex ∙ ey in cc
same_exits under_any s s' ex ey = cc
same_exits (through_bound there rest) s s' ex ey = cc
same_exits (functions sets takes results body) s s' ex ey = cc
same_exits (type_functions results body) s s' ex ey = cc
same_exits (boxes sets body) s s' ex ey = cc

-- a literal, or a device
abbrev pub BaseIn : Option Cell → Base → Type 0
BaseIn o b = ((l : Literal) × (o ≡ Some (ValueCell (LiteralTerm l))) × (base_of l ≡ b)) ⊎ ((n : ℕ) × (o ≡ Some (DeviceCell n b)) × (is_device_base b ≡ true))

no_function_base : {g : Context} {s s' : Shape} {c d : Set} {b : Base} → SubtypesDirectly g (FunctionShape s c s' d) (BaseShape b) → ⊥
no_function_base h = elim h [ ]

no_type_function_base : {g : Context} {s s' : Shape} {d : Set} {b : Base} → SubtypesDirectly g (TypeFunctionShape s s' d) (BaseShape b) → ⊥
no_type_function_base h = elim h [ ]

no_box_base : {g : Context} {s : Shape} {d : Set} {b : Base} → SubtypesDirectly g (BoxShape s d) (BaseShape b) → ⊥
no_box_base h = elim h [ ]

no_exit_base : {g : Context} {s : Shape} {b : Base} → SubtypesDirectly g (ExitShape s) (BaseShape b) → ⊥
no_exit_base h = elim h [ ]

base_value : {g : Context} {v : Term} {s : Shape} {c : Set} → TypedExactly g v s c → (b : Base) → is_value v ≡ true → SubtypesDirectly g s (BaseShape b) → BaseIn (Some (ValueCell v)) b
base_value (exact_variable there) b v below = cc
base_value (exact_literal {l = l}) b v below = inl (l, refl, same_bases below (base_of l) b refl refl)
base_value (exact_function kg ke typed) b v below = absurd (no_function_base below)
base_value (exact_type_function kg ke typed) b v below = absurd (no_type_function_base below)
base_value (exact_application function argument) b v below = cc
base_value (exact_type_application function less) b v below = cc
base_value (exact_box has none) b v below = absurd (no_box_base below)
base_value (exact_unboxing has none) b v below = cc
base_value (exact_let right is body ks ke) b v below = cc
base_value (exact_primitive left right) b v below = cc
base_value (exact_conditional test positive negative) b v below = cc
base_value (exact_repetition count function) b v below = cc
base_value (exact_operation receiver taken argument) b v below = cc
base_value (exact_operation_alone receiver taken) b v below = cc
base_value (exact_boundary body) b v below = cc
base_value (exact_leave exit content) b v below = cc

base_typed : {g : Context} {v : Term} {s : Shape} {c : Set} → Typed g v s c → (b : Base) → is_value v ≡ true → SubtypesDirectly g s (BaseShape b) → BaseIn (Some (ValueCell v)) b
base_typed {g = g} {s = s} (widened {s = s0} kt exact captures below ks kc) b v less = base_value exact b v (direct_transitive g s0 s (BaseShape b) below less)

base_cell : {g : Context} {o : Option Cell} {s : Shape} {c : Set} → CellTyped g o s c → (b : Base) → SubtypesDirectly g s (BaseShape b) → BaseIn o b
base_cell (a_value v typed) b below = base_typed typed b v below
base_cell (a_device {n = n} {b = b0} isd) b below =
    let same = same_bases below b0 b refl refl in
    inr (n, ap (λ x. Some (DeviceCell n x)) same, ap is_device_base (sym same) ∙ isd)
base_cell a_label b below = absurd (no_exit_base below)

pub base_at : {st : Store} {g : Context} → StoreTyped st g → {v : Var} {b : Base} {d : Set} → HasVariable g v (BaseShape b) d → BaseIn (cell_at st v) b
base_at stored {b = b} has = base_cell (cell_of stored has) b has.below

-- a literal is of no device's shape
pub literal_base : (l : Literal) → is_device_base (base_of l) ≡ false
literal_base UnitLiteral = refl
literal_base (TruthLiteral t) = refl
literal_base (NumberLiteral z) = refl
literal_base (TextLiteral t) = refl

device_base_operated : (op : Op) → is_device_base (base_operated op) ≡ true
device_base_operated operations.Print = refl
device_base_operated operations.Say = refl
device_base_operated operations.Read = refl
device_base_operated operations.Write = refl
device_base_operated operations.Tick = refl

-- the literal of a variable whose base shape is none of a device
pub literal_at : {st : Store} {g : Context} → StoreTyped st g → {v : Var} {b : Base} {d : Set} → HasVariable g v (BaseShape b) d → is_device_base b ≡ false
    → (l : Literal) × (literal_in (cell_at st v) ≡ Some l) × (base_of l ≡ b)
literal_at {st = st} stored {v = v} {b = b} has no_device =
    elim (base_at stored has) as (λ _. (l : Literal) × (literal_in (cell_at st v) ≡ Some l) × (base_of l ≡ b)) [
      | inl found ↦ (found.0, ap literal_in found.1, found.2)
      | inr found ↦ absurd (let clash : false ≡ true = sym no_device ∙ found.2 in cc)
    ]

number_of : (l : Literal) → base_of l ≡ bases.Int → (z : ℤ) × (l ≡ NumberLiteral z)
number_of UnitLiteral e = cc
number_of (TruthLiteral t) e = cc
number_of (NumberLiteral z) e = (z, refl)
number_of (TextLiteral t) e = cc

truth_of : (l : Literal) → base_of l ≡ bases.Bool → (t : Bool) × (l ≡ TruthLiteral t)
truth_of UnitLiteral e = cc
truth_of (TruthLiteral t) e = (t, refl)
truth_of (NumberLiteral z) e = cc
truth_of (TextLiteral t) e = cc

pub number_at : {st : Store} {g : Context} → StoreTyped st g → {v : Var} {d : Set} → HasVariable g v (BaseShape bases.Int) d → (z : ℤ) × (literal_in (cell_at st v) ≡ Some (NumberLiteral z))
number_at stored has =
    let found = literal_at stored has refl in
    let number = number_of found.0 found.2 in
    (number.0, found.1 ∙ ap (λ l. Some l) number.1)

pub truth_at : {st : Store} {g : Context} → StoreTyped st g → {v : Var} {d : Set} → HasVariable g v (BaseShape bases.Bool) d → (t : Bool) × (literal_in (cell_at st v) ≡ Some (TruthLiteral t))
truth_at stored has =
    let found = literal_at stored has refl in
    let truth = truth_of found.0 found.2 in
    (truth.0, found.1 ∙ ap (λ l. Some l) truth.1)

-- the device of a receiver
pub device_at : {st : Store} {g : Context} → StoreTyped st g → (op : Op) {v : Var} {d : Set} → HasVariable g v (BaseShape (base_operated op)) d → (n : ℕ) × (cell_at st v ≡ Some (DeviceCell n (base_operated op)))
device_at {st = st} stored op {v = v} has =
    elim (base_at stored has) as (λ _. (n : ℕ) × (cell_at st v ≡ Some (DeviceCell n (base_operated op)))) [
      | inl found ↦ absurd (let clash : false ≡ true = sym (literal_base found.0) ∙ ap is_device_base found.2 ∙ device_base_operated op in cc)
      | inr found ↦ (found.0, found.1)
    ]

-- the label of an exit, whose cell is declared with exactly the shape of the exit
abbrev ExitIn : Option Cell → Shape → Shape → Type 0
ExitIn o own s = (n : ℕ) × (o ≡ Some (LabelCell n)) × (own ≡ ExitShape s)

no_base_exit : {g : Context} {b : Base} {s : Shape} → SubtypesDirectly g (BaseShape b) (ExitShape s) → ⊥
no_base_exit h = elim h [ ]

no_function_exit : {g : Context} {s s' t : Shape} {c d : Set} → SubtypesDirectly g (FunctionShape s c s' d) (ExitShape t) → ⊥
no_function_exit h = elim h [ ]

no_type_function_exit : {g : Context} {s s' t : Shape} {d : Set} → SubtypesDirectly g (TypeFunctionShape s s' d) (ExitShape t) → ⊥
no_type_function_exit h = elim h [ ]

no_box_exit : {g : Context} {s t : Shape} {d : Set} → SubtypesDirectly g (BoxShape s d) (ExitShape t) → ⊥
no_box_exit h = elim h [ ]

exit_value : {g : Context} {v : Term} {s : Shape} {c : Set} → TypedExactly g v s c → (t : Shape) → is_value v ≡ true → SubtypesDirectly g s (ExitShape t) → ⊥
exit_value (exact_variable there) t v below = cc
exit_value exact_literal t v below = no_base_exit below
exit_value (exact_function kg ke typed) t v below = no_function_exit below
exit_value (exact_type_function kg ke typed) t v below = no_type_function_exit below
exit_value (exact_application function argument) t v below = cc
exit_value (exact_type_application function less) t v below = cc
exit_value (exact_box has none) t v below = no_box_exit below
exit_value (exact_unboxing has none) t v below = cc
exit_value (exact_let right is body ks ke) t v below = cc
exit_value (exact_primitive left right) t v below = cc
exit_value (exact_conditional test positive negative) t v below = cc
exit_value (exact_repetition count function) t v below = cc
exit_value (exact_operation receiver taken argument) t v below = cc
exit_value (exact_operation_alone receiver taken) t v below = cc
exit_value (exact_boundary body) t v below = cc
exit_value (exact_leave exit content) t v below = cc

exit_typed : {g : Context} {v : Term} {s : Shape} {c : Set} → Typed g v s c → (t : Shape) → is_value v ≡ true → SubtypesDirectly g s (ExitShape t) → ⊥
exit_typed {g = g} {s = s} (widened {s = s0} kt exact captures below ks kc) t v less = exit_value exact t v (direct_transitive g s0 s (ExitShape t) below less)

exit_cell : {g : Context} {o : Option Cell} {s : Shape} {c : Set} → CellTyped g o s c → (t : Shape) → SubtypesDirectly g s (ExitShape t) → ExitIn o s t
exit_cell (a_value v typed) t below = absurd (exit_typed typed t v below)
exit_cell (a_device b) t below = absurd (no_base_exit below)
exit_cell (a_label {n = n} {s = s}) t below = (n, refl, ap ExitShape (same_exits below s t refl refl))

pub exit_at : {st : Store} {g : Context} → StoreTyped st g → {v : Var} {s : Shape} {d : Set} → (has : HasVariable g v (ExitShape s) d) → (n : ℕ) × (cell_at st v ≡ Some (LabelCell n)) × (has.shape ≡ ExitShape s)
exit_at stored {s = s} has = exit_cell (cell_of stored has) s has.below
