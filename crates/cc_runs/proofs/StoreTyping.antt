-- Typed stores: what stands in the cell of a variable that has a type.
use Rattle.cc_core.proofs.SubcapturingContexts.{IsKindedContext, IsKindedContext-from}
use Rattle.std.proofs.Common.{◌≡◌, ℕ, suc, true, [], ◌∷◌, length, Option, Some, inl, inr, refl, sym, ap, ◌∙◌, subst, arith}
use Rattle.cc_base.specs.declared.literal.Base.{Base}
use Rattle.cc_capture.specs.declared.var.Var.{Var}
use Rattle.cc_capture.specs.declared.var.Elem.TheVariants.{Cap}
use Rattle.cc_capture.specs.Sets.{Set}
use Rattle.cc_core.specs.Shapes.{Shape, BaseShape, FunctionShape, TypeFunctionShape, BoxShape, ExitShape}
use Rattle.cc_core.specs.Terms.{Term, VariableTerm, LiteralTerm, FunctionTerm, TypeFunctionTerm, BoxTerm, Application, TypeApplication, Unboxing, Let, Primitive, Conditional, Repetition, Operation, Boundary, Leave}
use Rattle.cc_core.specs.Contexts.{Bind, TermEntry, TypeEntry, Context, lookup}
use Rattle.cc_core.specs.Substitution.{single, opened, opened_set, opened_term}
use Rattle.cc_core.specs.WellFormed.{TermKind, TypeKind, kinds_of}
use Rattle.cc_core.specs.Captured.{is_value}
use Rattle.cc_core.specs.Subcapturing.{SubcapturesSet}
use Rattle.cc_core.specs.Stores.{Cell, ValueCell, DeviceCell, LabelCell, Store, cell_at, is_device_base, is_function, HasStoreTyping, none_stored, value_stored, recursive_stored, device_stored, label_stored}
use Rattle.cc_core.proofs.Lookups.{lookup-newest, lookup-other}
use Rattle.cc_core.proofs.SubcapturingLemmas.{subcaptures_reflexive}
use Rattle.cc_core.proofs.KindFacts.{IsKindedSet, IsKinded, IsKindedTerm, IsKinded-from}
use Rattle.cc_typing_laws.proofs.DirectSubtyping.{SubtypesDirectly, alike, under_any, through_bound, functions, type_functions, boxes, direct_transitive}
use Rattle.cc_typing_laws.proofs.FormedContexts.{kinded_single}
use Rattle.cc_typing_laws.proofs.FreeMaps.{Longer, as_is, more, lookup_cases}
use Rattle.cc_typing_laws.proofs.InternalTyping.{HasVariable, TypedExactly, exact_variable, exact_literal, exact_function, exact_type_function, exact_application, exact_type_application, exact_box, exact_unboxing, exact_let, exact_primitive, exact_conditional, exact_repetition, exact_operation, exact_operation_alone, exact_boundary, exact_leave, Typed, widened}
use Rattle.cc_typing_laws.proofs.TypingMaps.{typed_kinded, typed_kinded_set}
use Rattle.cc_typing_laws.proofs.TypingLemmas.{typed_longer, has_variable_wider}
use Rattle.cc_typing_laws.proofs.InternalConversions.{typed_from}

-- store typing by the form of each value
pub data StoreTyped : Store → Context → Type 0 where
  no_cell : StoreTyped [] []
  value_cell : {st : Store} {g : Context} {v : Term} {s : Shape} {c : Set} → StoreTyped st g → is_value v ≡ true → Typed g v s c
      → StoreTyped (ValueCell v ∷ st) (TermEntry s c ∷ g)
  recursive_cell : {st : Store} {g : Context} {v : Term} {s : Shape} {c : Set} → StoreTyped st g → is_function v ≡ true
      → IsKinded (kinds_of g) [] s → IsKindedSet (kinds_of g) [] c → Typed (TermEntry s c ∷ g) v s c
      → StoreTyped (ValueCell v ∷ st) (TermEntry s c ∷ g)
  device_cell : {st : Store} {g : Context} {n : ℕ} {b : Base} → StoreTyped st g → is_device_base b ≡ true
      → StoreTyped (DeviceCell n b ∷ st) (TermEntry (BaseShape b) (single Cap) ∷ g)
  label_cell : {st : Store} {g : Context} {n : ℕ} {s : Shape} → StoreTyped st g → IsKinded (kinds_of g) [] s
      → StoreTyped (LabelCell n ∷ st) (TermEntry (ExitShape s) (single Cap) ∷ g)

pub store_formed : {st : Store} {g : Context} → StoreTyped st g → IsKindedContext g
store_formed no_cell = tt
store_formed (value_cell stored v typed) = ((typed_kinded typed, typed_kinded_set typed), store_formed stored)
store_formed (recursive_cell stored v ks kc typed) = ((ks, kc), store_formed stored)
store_formed (device_cell {g = g} stored b) = ((tt, kinded_single (kinds_of g) [] Cap tt), store_formed stored)
store_formed (label_cell {g = g} stored ks) = ((ks, kinded_single (kinds_of g) [] Cap tt), store_formed stored)

pub store_length : {st : Store} {g : Context} → StoreTyped st g → length st ≡ length g
store_length no_cell = refl
store_length (value_cell stored v typed) = ap suc (store_length stored)
store_length (recursive_cell stored v ks kc typed) = ap suc (store_length stored)
store_length (device_cell stored b) = ap suc (store_length stored)
store_length (label_cell stored ks) = ap suc (store_length stored)

pub function_is_value : (v : Term) → is_function v ≡ true → is_value v ≡ true
function_is_value (FunctionTerm s c t) h = refl
function_is_value (TypeFunctionTerm s t) h = refl
function_is_value (VariableTerm v) h = cc
function_is_value (LiteralTerm l) h = cc
function_is_value (BoxTerm v) h = cc
function_is_value (Application v w) h = cc
function_is_value (TypeApplication v w) h = cc
function_is_value (Unboxing v w) h = cc
function_is_value (Let n v w) h = cc
function_is_value (Primitive n v w) h = cc
function_is_value (Conditional n v w x) h = cc
function_is_value (Repetition v w) h = cc
function_is_value (Operation n v w) h = cc
function_is_value (Boundary v w) h = cc
function_is_value (Leave n c v w) h = cc

-- the two store typings are one
pub store_typed_from : {st : Store} {g : Context} → HasStoreTyping st g → StoreTyped st g
store_typed_from none_stored = no_cell
store_typed_from (value_stored stored v h) = value_cell (store_typed_from stored) v (typed_from h)
store_typed_from (recursive_stored {context = g} {type = type} stored v wf h) =
    let formed = IsKindedContext-from (TermEntry type.shape type.set ∷ g) h.context_formed in
    recursive_cell (store_typed_from stored) v formed.0.0 formed.0.1 (typed_from h)
store_typed_from (device_stored stored b) = device_cell (store_typed_from stored) b
store_typed_from (label_stored {context = g} {gives = s} stored wf) = label_cell (store_typed_from stored) (IsKinded-from (kinds_of g) [] s wf)

-- what stands in a cell of the type, in a context that has all cells
pub data CellTyped (g : Context) : Option Cell → Shape → Set → Type 0 where
  a_value : {v : Term} {s : Shape} {c : Set} → is_value v ≡ true → Typed g v s c → CellTyped g (Some (ValueCell v)) s c
  a_device : {n : ℕ} {b : Base} → is_device_base b ≡ true → CellTyped g (Some (DeviceCell n b)) (BaseShape b) (single Cap)
  a_label : {n : ℕ} {s : Shape} → CellTyped g (Some (LabelCell n)) (ExitShape s) (single Cap)

cell_typed-longer : {g d : Context} {o : Option Cell} {s : Shape} {c : Set} → CellTyped g o s c → Longer g d → IsKindedContext g → CellTyped d o s c
cell_typed-longer (a_value v typed) l formed = a_value v (typed_longer l formed typed)
cell_typed-longer (a_device b) l formed = a_device b
cell_typed-longer a_label l formed = a_label

-- the newest cell, or an older one
cell_cases : (st : Store) (g : Context) (x : Cell) (b : Bind) (s : Shape) (c : Set) (p : ℕ) → length st ≡ length g → IsKindedContext g
    → ((s' : Shape) (c' : Set) → lookup g p ≡ Some (TermEntry s' c') → CellTyped g (lookup st p) s' c')
    → (TermEntry s c ≡ b → CellTyped (b ∷ g) (Some x) s c)
    → lookup (b ∷ g) p ≡ Some (TermEntry s c) → CellTyped (b ∷ g) (lookup (x ∷ st) p) s c
cell_cases st g x b s c p len formed older newest there =
    elim (lookup_cases b g p (TermEntry s c) there) as (λ _. CellTyped (b ∷ g) (lookup (x ∷ st) p) s c) [
      | inl new ↦
          subst (λ o. CellTyped (b ∷ g) o s c) (sym (ap (lookup (x ∷ st)) (new.0 ∙ sym len) ∙ lookup-newest x st)) (newest new.1)
      | inr old ↦
          subst (λ o. CellTyped (b ∷ g) o s c) (sym (lookup-other x st p (λ e. let less = old.0 in omega arith)))
          (cell_typed-longer (older s c old.1) (more b as_is) formed)
    ]

entry_parts : {s s' : Shape} {c c' : Set} → TermEntry s c ≡ TermEntry s' c' → (s' ≡ s) × (c' ≡ c)
entry_parts e = (cc, cc)

pub cell_typed : {st : Store} {g : Context} → StoreTyped st g → (p : ℕ) (s : Shape) (c : Set) → lookup g p ≡ Some (TermEntry s c) → CellTyped g (lookup st p) s c
cell_typed no_cell p s c there = cc
cell_typed (value_cell {st = st} {g = g} {v = v} {s = s'} {c = c'} stored isv typed) p s c there =
    let formed = store_formed stored in
    cell_cases st g (ValueCell v) (TermEntry s' c') s c p (store_length stored) formed (cell_typed stored p)
    (λ e. let parts = entry_parts e in
    subst (λ x. CellTyped (TermEntry s' c' ∷ g) (Some (ValueCell v)) s x) parts.1 (subst (λ x. CellTyped (TermEntry s' c' ∷ g) (Some (ValueCell v)) x c') parts.0
    (a_value isv (typed_longer (more (TermEntry s' c') as_is) formed typed)))) there
cell_typed (recursive_cell {st = st} {g = g} {v = v} {s = s'} {c = c'} stored isf ks kc typed) p s c there =
    cell_cases st g (ValueCell v) (TermEntry s' c') s c p (store_length stored) (store_formed stored) (cell_typed stored p)
    (λ e. let parts = entry_parts e in
    subst (λ x. CellTyped (TermEntry s' c' ∷ g) (Some (ValueCell v)) s x) parts.1 (subst (λ x. CellTyped (TermEntry s' c' ∷ g) (Some (ValueCell v)) x c') parts.0
    (a_value (function_is_value v isf) typed))) there
cell_typed (device_cell {st = st} {g = g} {n = n} {b = b} stored isd) p s c there =
    cell_cases st g (DeviceCell n b) (TermEntry (BaseShape b) (single Cap)) s c p (store_length stored) (store_formed stored) (cell_typed stored p)
    (λ e. let parts = entry_parts e in
    subst (λ x. CellTyped (TermEntry (BaseShape b) (single Cap) ∷ g) (Some (DeviceCell n b)) s x) parts.1 (subst (λ x. CellTyped (TermEntry (BaseShape b) (single Cap) ∷ g) (Some (DeviceCell n b)) x (single Cap)) parts.0
    (a_device isd))) there
cell_typed (label_cell {st = st} {g = g} {n = n} {s = s'} stored ks) p s c there =
    cell_cases st g (LabelCell n) (TermEntry (ExitShape s') (single Cap)) s c p (store_length stored) (store_formed stored) (cell_typed stored p)
    (λ e. let parts = entry_parts e in
    subst (λ x. CellTyped (TermEntry (ExitShape s') (single Cap) ∷ g) (Some (LabelCell n)) s x) parts.1 (subst (λ x. CellTyped (TermEntry (ExitShape s') (single Cap) ∷ g) (Some (LabelCell n)) x (single Cap)) parts.0
    a_label)) there

-- the cell of a variable that has a type
pub cell_of : {st : Store} {g : Context} → StoreTyped st g → {v : Var} {s : Shape} {c : Set} → (has : HasVariable g v s c) → CellTyped g (cell_at st v) has.shape has.set
cell_of {st = st} {g = g} stored has =
    subst (λ w. CellTyped g (cell_at st w) has.shape has.set) (sym has.is) (cell_typed stored has.position has.shape has.set has.there)

-- Functions stand in the cells of functions.
pub record FunctionIn (g : Context) (o : Option Cell) (takes : Shape) (c : Set) (gives : Shape) (e : Set) : Type 0 where
  pub own_takes : Shape
  pub own_c : Set
  pub body : Term
  pub own_gives : Shape
  pub own_e : Set
  pub at : o ≡ Some (ValueCell (FunctionTerm own_takes own_c body))
  pub kinded_body : IsKindedTerm (kinds_of g) (TermKind ∷ []) body
  pub kinded_gives : IsKinded (kinds_of g) (TermKind ∷ []) own_gives
  pub kinded_e : IsKindedSet (kinds_of g) (TermKind ∷ []) own_e
  pub kinded_takes : IsKinded (kinds_of g) [] own_takes
  pub kinded_c : IsKindedSet (kinds_of g) [] own_c
  pub typed : Typed (TermEntry own_takes own_c ∷ g) (opened_term (length g) body) (opened (length g) own_gives) (opened_set (length g) own_e)
  pub below : SubtypesDirectly g (FunctionShape own_takes own_c own_gives own_e) (FunctionShape takes c gives e)

no_base_function : {g : Context} {b : Base} {t u : Shape} {c e : Set} → SubtypesDirectly g (BaseShape b) (FunctionShape t c u e) → ⊥
no_base_function h = elim h [ ]

no_exit_function : {g : Context} {s t u : Shape} {c e : Set} → SubtypesDirectly g (ExitShape s) (FunctionShape t c u e) → ⊥
no_exit_function h = elim h [ ]

no_box_function : {g : Context} {s t u : Shape} {d c e : Set} → SubtypesDirectly g (BoxShape s d) (FunctionShape t c u e) → ⊥
no_box_function h = elim h [ ]

no_type_function_function : {g : Context} {s s' t u : Shape} {d c e : Set} → SubtypesDirectly g (TypeFunctionShape s s' d) (FunctionShape t c u e) → ⊥
no_type_function_function h = elim h [ ]

function_value : {g : Context} {v : Term} {s takes gives : Shape} {c0 c e : Set} → TypedExactly g v s c0 → is_value v ≡ true → IsKindedTerm (kinds_of g) [] v
    → SubtypesDirectly g s (FunctionShape takes c gives e) → FunctionIn g (Some (ValueCell v)) takes c gives e
function_value (exact_variable there) v k below = cc
function_value exact_literal v k below = absurd (no_base_function below)
function_value (exact_function {takes = takes} {gives = gives} {c = c} {e = e} {body = body} kg ke typed) v k below = record {
  own_takes = takes;
  own_c = c;
  body = body;
  own_gives = gives;
  own_e = e;
  at = refl;
  kinded_body = k.2;
  kinded_gives = kg;
  kinded_e = ke;
  kinded_takes = k.0;
  kinded_c = k.1;
  typed = typed;
  below = below;
}
function_value (exact_type_function kg ke typed) v k below = absurd (no_type_function_function below)
function_value (exact_application function argument) v k below = cc
function_value (exact_type_application function less) v k below = cc
function_value (exact_box has none) v k below = absurd (no_box_function below)
function_value (exact_unboxing has none) v k below = cc
function_value (exact_let right is body ks ke) v k below = cc
function_value (exact_primitive left right) v k below = cc
function_value (exact_conditional test positive negative) v k below = cc
function_value (exact_repetition count function) v k below = cc
function_value (exact_operation receiver taken argument) v k below = cc
function_value (exact_operation_alone receiver taken) v k below = cc
function_value (exact_boundary body) v k below = cc
function_value (exact_leave exit value) v k below = cc

function_typed : {g : Context} {v : Term} {s s' takes gives : Shape} {c0 c e : Set} → Typed g v s c0 → is_value v ≡ true → s ≡ s'
    → SubtypesDirectly g s' (FunctionShape takes c gives e) → FunctionIn g (Some (ValueCell v)) takes c gives e
function_typed {g = g} {s = s} {takes = takes} {gives = gives} {c = c} {e = e} (widened {s = s0} kt exact captures below ks kc) v same less =
    function_value exact v kt (direct_transitive g s0 s (FunctionShape takes c gives e) below (subst (λ x. SubtypesDirectly g x (FunctionShape takes c gives e)) (sym same) less))

function_cell : {g : Context} {o : Option Cell} {s takes gives : Shape} {c0 c e : Set} → CellTyped g o s c0 → SubtypesDirectly g s (FunctionShape takes c gives e) → FunctionIn g o takes c gives e
function_cell (a_value v typed) below = function_typed typed v refl below
function_cell (a_device b) below = absurd (no_base_function below)
function_cell a_label below = absurd (no_exit_function below)

pub function_at : {st : Store} {g : Context} → StoreTyped st g → {v : Var} {takes gives : Shape} {c d e : Set} → HasVariable g v (FunctionShape takes c gives e) d → FunctionIn g (cell_at st v) takes c gives e
function_at stored has = function_cell (cell_of stored has) has.below

-- Type functions stand in the cells of type functions.
pub record TypeFunctionIn (g : Context) (o : Option Cell) (bound : Shape) (gives : Shape) (e : Set) : Type 0 where
  pub body : Term
  pub own_gives : Shape
  pub own_e : Set
  pub at : o ≡ Some (ValueCell (TypeFunctionTerm bound body))
  pub kinded_body : IsKindedTerm (kinds_of g) (TypeKind ∷ []) body
  pub kinded_gives : IsKinded (kinds_of g) (TypeKind ∷ []) own_gives
  pub kinded_e : IsKindedSet (kinds_of g) (TypeKind ∷ []) own_e
  pub kinded_bound : IsKinded (kinds_of g) [] bound
  pub typed : Typed (TypeEntry bound ∷ g) (opened_term (length g) body) (opened (length g) own_gives) (opened_set (length g) own_e)
  pub results : SubcapturesSet (TypeEntry bound ∷ g) (opened_set (length g) own_e) (opened_set (length g) e)
  pub below : SubtypesDirectly (TypeEntry bound ∷ g) (opened (length g) own_gives) (opened (length g) gives)

no_base_type_function : {g : Context} {b : Base} {t u : Shape} {e : Set} → SubtypesDirectly g (BaseShape b) (TypeFunctionShape t u e) → ⊥
no_base_type_function h = elim h [ ]

no_exit_type_function : {g : Context} {s t u : Shape} {e : Set} → SubtypesDirectly g (ExitShape s) (TypeFunctionShape t u e) → ⊥
no_exit_type_function h = elim h [ ]

no_box_type_function : {g : Context} {s t u : Shape} {d e : Set} → SubtypesDirectly g (BoxShape s d) (TypeFunctionShape t u e) → ⊥
no_box_type_function h = elim h [ ]

no_function_type_function : {g : Context} {s s' t u : Shape} {c d e : Set} → SubtypesDirectly g (FunctionShape s c s' d) (TypeFunctionShape t u e) → ⊥
no_function_type_function h = elim h [ ]

-- type functions compare under one bound
pub record TypeFunctionsCompare (g : Context) (bound bound' gives gives' : Shape) (e e' : Set) : Type 0 where
  pub same : bound ≡ bound'
  pub results : SubcapturesSet (TypeEntry bound ∷ g) (opened_set (length g) e) (opened_set (length g) e')
  pub below : SubtypesDirectly (TypeEntry bound ∷ g) (opened (length g) gives) (opened (length g) gives')

type_functions_compare : {g : Context} {x y : Shape} → SubtypesDirectly g x y → (bound bound' gives gives' : Shape) (e e' : Set) → x ≡ TypeFunctionShape bound gives e → y ≡ TypeFunctionShape bound' gives' e'
    → TypeFunctionsCompare g bound bound' gives gives' e e'
type_functions_compare (alike {context = g} {shape = x}) bound bound' gives gives' e e' ex ey =
    let same : TypeFunctionShape bound gives e ≡ TypeFunctionShape bound' gives' e' = sym ex ∙ ey in
    record {
      same = cc;
      results = subst (λ z. SubcapturesSet (TypeEntry bound ∷ g) (opened_set (length g) e) (opened_set (length g) z)) (let k : e ≡ e' = cc in k) (subcaptures_reflexive (TypeEntry bound ∷ g) (opened_set (length g) e));
      below = subst (λ z. SubtypesDirectly (TypeEntry bound ∷ g) (opened (length g) gives) (opened (length g) z)) (let k : gives ≡ gives' = cc in k) alike;
    }
type_functions_compare under_any bound bound' gives gives' e e' ex ey = cc
type_functions_compare (through_bound there rest) bound bound' gives gives' e e' ex ey = cc
type_functions_compare (functions sets takes results body) bound bound' gives gives' e e' ex ey = cc
type_functions_compare (type_functions {context = g} {bound = b} {gives = u} {gives' = u'} {e = c} {e' = c'} results body) bound bound' gives gives' e e' ex ey =
    let eb : b ≡ bound = cc in
    let eb' : b ≡ bound' = cc in
    let eu : u ≡ gives = cc in
    let eu' : u' ≡ gives' = cc in
    let ec : c ≡ e = cc in
    let ec' : c' ≡ e' = cc in
    record {
      same = sym eb ∙ eb';
      results = subst (λ z. SubcapturesSet (TypeEntry z ∷ g) (opened_set (length g) e) (opened_set (length g) e')) eb
          (subst (λ z. SubcapturesSet (TypeEntry b ∷ g) (opened_set (length g) z) (opened_set (length g) e')) ec
          (subst (λ z. SubcapturesSet (TypeEntry b ∷ g) (opened_set (length g) c) (opened_set (length g) z)) ec' results));
      below = subst (λ z. SubtypesDirectly (TypeEntry z ∷ g) (opened (length g) gives) (opened (length g) gives')) eb
          (subst (λ z. SubtypesDirectly (TypeEntry b ∷ g) (opened (length g) z) (opened (length g) gives')) eu
          (subst (λ z. SubtypesDirectly (TypeEntry b ∷ g) (opened (length g) u) (opened (length g) z)) eu' body));
    }
type_functions_compare (boxes sets body) bound bound' gives gives' e e' ex ey = cc

type_function_from : {g : Context} {bound0 bound own_gives gives : Shape} {own_e e : Set} {body : Term} → TypeFunctionsCompare g bound0 bound own_gives gives own_e e
    → IsKindedTerm (kinds_of g) (TypeKind ∷ []) body → IsKinded (kinds_of g) (TypeKind ∷ []) own_gives → IsKindedSet (kinds_of g) (TypeKind ∷ []) own_e → IsKinded (kinds_of g) [] bound0
    → Typed (TypeEntry bound0 ∷ g) (opened_term (length g) body) (opened (length g) own_gives) (opened_set (length g) own_e)
    → TypeFunctionIn g (Some (ValueCell (TypeFunctionTerm bound0 body))) bound gives e
type_function_from {g = g} {bound0 = bound0} {bound = bound} {own_gives = own_gives} {gives = gives} {own_e = own_e} {e = e} {body = body} compared kt kg ke kb typed = record {
  body = body;
  own_gives = own_gives;
  own_e = own_e;
  at = ap (λ b. Some (ValueCell (TypeFunctionTerm b body))) compared.same;
  kinded_body = kt;
  kinded_gives = kg;
  kinded_e = ke;
  kinded_bound = subst (IsKinded (kinds_of g) []) compared.same kb;
  typed = subst (λ b. Typed (TypeEntry b ∷ g) (opened_term (length g) body) (opened (length g) own_gives) (opened_set (length g) own_e)) compared.same typed;
  results = subst (λ b. SubcapturesSet (TypeEntry b ∷ g) (opened_set (length g) own_e) (opened_set (length g) e)) compared.same compared.results;
  below = subst (λ b. SubtypesDirectly (TypeEntry b ∷ g) (opened (length g) own_gives) (opened (length g) gives)) compared.same compared.below;
}

type_function_value : {g : Context} {v : Term} {s : Shape} {c0 : Set} → TypedExactly g v s c0 → (bound gives : Shape) (e : Set) → is_value v ≡ true → IsKindedTerm (kinds_of g) [] v
    → SubtypesDirectly g s (TypeFunctionShape bound gives e) → TypeFunctionIn g (Some (ValueCell v)) bound gives e
type_function_value (exact_variable there) bound gives e v k below = cc
type_function_value exact_literal bound gives e v k below = absurd (no_base_type_function below)
type_function_value (exact_function kg ke typed) bound gives e v k below = absurd (no_function_type_function below)
type_function_value (exact_type_function {bound = bound0} {gives = own_gives} {e = own_e} kg ke typed) bound gives e v k below =
    type_function_from (type_functions_compare below bound0 bound own_gives gives own_e e refl refl) k.1 kg ke k.0 typed
type_function_value (exact_application function argument) bound gives e v k below = cc
type_function_value (exact_type_application function less) bound gives e v k below = cc
type_function_value (exact_box has none) bound gives e v k below = absurd (no_box_type_function below)
type_function_value (exact_unboxing has none) bound gives e v k below = cc
type_function_value (exact_let right is body ks ke) bound gives e v k below = cc
type_function_value (exact_primitive left right) bound gives e v k below = cc
type_function_value (exact_conditional test positive negative) bound gives e v k below = cc
type_function_value (exact_repetition count function) bound gives e v k below = cc
type_function_value (exact_operation receiver taken argument) bound gives e v k below = cc
type_function_value (exact_operation_alone receiver taken) bound gives e v k below = cc
type_function_value (exact_boundary body) bound gives e v k below = cc
type_function_value (exact_leave exit value) bound gives e v k below = cc

type_function_typed : {g : Context} {v : Term} {s : Shape} {c0 : Set} → Typed g v s c0 → (bound gives : Shape) (e : Set) → is_value v ≡ true
    → SubtypesDirectly g s (TypeFunctionShape bound gives e) → TypeFunctionIn g (Some (ValueCell v)) bound gives e
type_function_typed {g = g} {s = s} (widened {s = s0} kt exact captures below ks kc) bound gives e v less =
    type_function_value exact bound gives e v kt (direct_transitive g s0 s (TypeFunctionShape bound gives e) below less)

type_function_cell : {g : Context} {o : Option Cell} {s bound gives : Shape} {c0 e : Set} → CellTyped g o s c0 → SubtypesDirectly g s (TypeFunctionShape bound gives e) → TypeFunctionIn g o bound gives e
type_function_cell {bound = bound} {gives = gives} {e = e} (a_value v typed) below = type_function_typed typed bound gives e v below
type_function_cell (a_device b) below = absurd (no_base_type_function below)
type_function_cell a_label below = absurd (no_exit_type_function below)

pub type_function_at : {st : Store} {g : Context} → StoreTyped st g → {v : Var} {bound gives : Shape} {d e : Set} → HasVariable g v (TypeFunctionShape bound gives e) d → TypeFunctionIn g (cell_at st v) bound gives e
type_function_at stored has = type_function_cell (cell_of stored has) has.below

-- Boxes stand in the cells of boxes, and what they hold has the type of the content.
pub record BoxIn (g : Context) (o : Option Cell) (s : Shape) (c : Set) : Type 0 where
  pub content : Var
  pub at : o ≡ Some (ValueCell (BoxTerm content))
  pub has : HasVariable g content s c

no_base_box : {g : Context} {b : Base} {t : Shape} {e : Set} → SubtypesDirectly g (BaseShape b) (BoxShape t e) → ⊥
no_base_box h = elim h [ ]

no_exit_box : {g : Context} {s t : Shape} {e : Set} → SubtypesDirectly g (ExitShape s) (BoxShape t e) → ⊥
no_exit_box h = elim h [ ]

no_function_box : {g : Context} {s s' t : Shape} {c d e : Set} → SubtypesDirectly g (FunctionShape s c s' d) (BoxShape t e) → ⊥
no_function_box h = elim h [ ]

no_type_function_box : {g : Context} {s s' t : Shape} {d e : Set} → SubtypesDirectly g (TypeFunctionShape s s' d) (BoxShape t e) → ⊥
no_type_function_box h = elim h [ ]

boxes_compare : {g : Context} {x y : Shape} → SubtypesDirectly g x y → (s s' : Shape) (c c' : Set) → x ≡ BoxShape s c → y ≡ BoxShape s' c' → SubcapturesSet g c c' × SubtypesDirectly g s s'
boxes_compare (alike {context = g} {shape = x}) s s' c c' ex ey =
    let same : BoxShape s c ≡ BoxShape s' c' = sym ex ∙ ey in
    let es : s ≡ s' = cc in
    let ec : c ≡ c' = cc in
    (subst (SubcapturesSet g c) ec (subcaptures_reflexive g c), subst (SubtypesDirectly g s) es alike)
boxes_compare under_any s s' c c' ex ey = cc
boxes_compare (through_bound there rest) s s' c c' ex ey = cc
boxes_compare (functions sets takes results body) s s' c c' ex ey = cc
boxes_compare (type_functions results body) s s' c c' ex ey = cc
boxes_compare (boxes {context = g} {content = t} {content' = t'} {c = d} {c' = d'} sets body) s s' c c' ex ey =
    let et : t ≡ s = cc in
    let et' : t' ≡ s' = cc in
    let ed : d ≡ c = cc in
    let ed' : d' ≡ c' = cc in
    (subst (λ z. SubcapturesSet g z c') ed (subst (SubcapturesSet g d) ed' sets), subst (λ z. SubtypesDirectly g z s') et (subst (SubtypesDirectly g t) et' body))

box_value : {g : Context} {v : Term} {s0 : Shape} {c0 : Set} → TypedExactly g v s0 c0 → (s : Shape) (c : Set) → is_value v ≡ true → IsKinded (kinds_of g) [] s → IsKindedSet (kinds_of g) [] c
    → SubtypesDirectly g s0 (BoxShape s c) → BoxIn g (Some (ValueCell v)) s c
box_value (exact_variable there) s c v ks kc below = cc
box_value exact_literal s c v ks kc below = absurd (no_base_box below)
box_value (exact_function kg ke typed) s c v ks kc below = absurd (no_function_box below)
box_value (exact_type_function kg ke typed) s c v ks kc below = absurd (no_type_function_box below)
box_value (exact_application function argument) s c v ks kc below = cc
box_value (exact_type_application function less) s c v ks kc below = cc
box_value (exact_box {content = y} {s = s'} {c = c'} has none) s c v ks kc below =
    let compared = boxes_compare below s' s c' c refl refl in
    record { content = y; at = refl; has = has_variable_wider has compared.0 compared.1 ks kc }
box_value (exact_unboxing has none) s c v ks kc below = cc
box_value (exact_let right is body kx ke) s c v ks kc below = cc
box_value (exact_primitive left right) s c v ks kc below = cc
box_value (exact_conditional test positive negative) s c v ks kc below = cc
box_value (exact_repetition count function) s c v ks kc below = cc
box_value (exact_operation receiver taken argument) s c v ks kc below = cc
box_value (exact_operation_alone receiver taken) s c v ks kc below = cc
box_value (exact_boundary body) s c v ks kc below = cc
box_value (exact_leave exit value) s c v ks kc below = cc

box_typed : {g : Context} {v : Term} {s0 : Shape} {c0 : Set} → Typed g v s0 c0 → (s : Shape) (c : Set) → is_value v ≡ true → IsKinded (kinds_of g) [] s → IsKindedSet (kinds_of g) [] c
    → SubtypesDirectly g s0 (BoxShape s c) → BoxIn g (Some (ValueCell v)) s c
box_typed {g = g} {s0 = s0} (widened {s = s1} kt exact captures below ks0 kc0) s c v ks kc less =
    box_value exact s c v ks kc (direct_transitive g s1 s0 (BoxShape s c) below less)

box_cell : {g : Context} {o : Option Cell} {s0 s : Shape} {c0 c : Set} → CellTyped g o s0 c0 → IsKinded (kinds_of g) [] s → IsKindedSet (kinds_of g) [] c → SubtypesDirectly g s0 (BoxShape s c) → BoxIn g o s c
box_cell {s = s} {c = c} (a_value v typed) ks kc below = box_typed typed s c v ks kc below
box_cell (a_device b) ks kc below = absurd (no_base_box below)
box_cell a_label ks kc below = absurd (no_exit_box below)

pub box_at : {st : Store} {g : Context} → StoreTyped st g → {v : Var} {s : Shape} {c d : Set} → HasVariable g v (BoxShape s c) d → BoxIn g (cell_at st v) s c
box_at stored has = box_cell (cell_of stored has) has.kinded.0 has.kinded.1 has.below
