-- What a typed store holds, and what sets reach through it.
use Rattle.std.proofs.Common.{◌≡◌, ℕ, [], ◌∷◌, Option, Some, inl, inr, refl, sym, ap, ◌∙◌, subst}
use Rattle.cc_base.specs.declared.literal.Base.{Base}
use Rattle.cc_capture.specs.declared.var.Var.{Var}
use Rattle.cc_capture.specs.declared.var.Var.TheVariants.{Bound, Free}
use Rattle.cc_capture.specs.Sets.{Set}
use Rattle.cc_core.specs.Shapes.{Shape, BaseShape, AnyShape, TypeVariable, FunctionShape, TypeFunctionShape, BoxShape, ExitShape, capturing}
use Rattle.cc_core.specs.Terms.{Term}
use Rattle.cc_core.specs.Contexts.{Context, lookup}
use Rattle.cc_core.specs.WellFormed.{TermKind, TypeKind, kinds_of}
use Rattle.cc_core.specs.Typing.{HasType}
use Rattle.cc_core.specs.Stores.{Cell, Store, cell_at, is_device_base}
use Rattle.cc_core.proofs.KindFacts.{IsKinded}
use Rattle.cc_core.proofs.SubcapturingContexts.{IsKindedContext}
use Rattle.cc_typing_laws.proofs.FreeMaps.{lookup_cases}
use Rattle.cc_typing_laws.proofs.InternalTyping.{HasVariable, Typed}
use Rattle.cc_typing_laws.proofs.InternalConversions.{typed_from, type_from}
use Rattle.cc_typing_laws.proofs.TypingMaps.{typed_kinded_term}
use Rattle.cc_typing_laws.proofs.TypingLemmas.{variable_typed, has_variable_typed}
use Rattle.cc_runs.specs.StoreLaws.{HoldsBase, Holds, CellsHoldTheirShapes, ValuesHaveTheirTypes, DeclaredSetsReach, SetsReachWhatIsBelow}
use Rattle.cc_runs.proofs.CanonicalForms.{BaseIn, base_at, literal_base, exit_at}
use Rattle.cc_runs.proofs.ReachLemmas.{value_of, declared_reach, set_reaches-below}
use Rattle.cc_runs.proofs.StoreTyping.{StoreTyped, no_cell, value_cell, recursive_cell, device_cell, label_cell, store_formed, store_typed_from, CellTyped, a_value, a_device, a_label, cell_typed, cell_of, function_at, type_function_at, box_at}

whole : {g : Context} {t : Term} {s : Shape} {c : Set} → IsKindedContext g → Typed g t s c → HasType g t (capturing s c)
whole formed typed = type_from formed (typed_kinded_term typed) typed

-- a store has no types
older_type : (g : Context) (p : ℕ) → (lookup (kinds_of g) p ≡ Some TypeKind → ⊥) → lookup (TermKind ∷ kinds_of g) p ≡ Some TypeKind → ⊥
older_type g p older there =
    elim (lookup_cases TermKind (kinds_of g) p TypeKind there) as (λ _. ⊥) [
      | inl new ↦ let clash : TypeKind ≡ TermKind = new.1 in cc
      | inr old ↦ older old.1
    ]

only_terms : {st : Store} {g : Context} → StoreTyped st g → (p : ℕ) → lookup (kinds_of g) p ≡ Some TypeKind → ⊥
only_terms no_cell p there = cc
only_terms (value_cell {g = g} stored v typed) p there = older_type g p (only_terms stored p) there
only_terms (recursive_cell {g = g} stored v ks kc typed) p there = older_type g p (only_terms stored p) there
only_terms (device_cell {g = g} stored b) p there = older_type g p (only_terms stored p) there
only_terms (label_cell {g = g} stored ks) p there = older_type g p (only_terms stored p) there

no_type_variable : {st : Store} {g : Context} → StoreTyped st g → (v : Var) → IsKinded (kinds_of g) [] (TypeVariable v) → ⊥
no_type_variable stored (Free p) k = only_terms stored p k
no_type_variable stored (Bound i) k = cc

base_held : (o : Option Cell) (b : Base) → BaseIn o b → HoldsBase (is_device_base b) o b
base_held o b (inl found) = subst (λ t. HoldsBase t o b) (sym (ap is_device_base (sym found.2) ∙ literal_base found.0)) found
base_held o b (inr found) = subst (λ t. HoldsBase t o b) (sym found.2) (found.0, found.1)

something_held : {g : Context} {o : Option Cell} {s : Shape} {c : Set} → CellTyped g o s c → (x : Cell) × (o ≡ Some x)
something_held (a_value isv typed) = (_, refl)
something_held (a_device b) = (_, refl)
something_held a_label = (_, refl)

held_at : {st : Store} {g : Context} → StoreTyped st g → (v : Var) (s : Shape) (c : Set) → HasVariable g v s c → Holds g (cell_at st v) s
held_at {st = st} {g = g} stored v (BaseShape b) c has = base_held (cell_at st v) b (base_at stored has)
held_at {st = st} {g = g} stored v AnyShape c has = something_held (cell_of stored has)
held_at stored v (TypeVariable w) c has = no_type_variable stored w has.kinded
held_at stored v (FunctionShape takes d gives e) c has = let found = function_at stored has in (found.own_takes, found.own_c, found.body, found.at)
held_at stored v (TypeFunctionShape bound gives e) c has = let found = type_function_at stored has in (found.body, found.at)
held_at stored v (BoxShape content d) c has =
    let found = box_at stored has in
    (found.content, found.at, whole (store_formed stored) (has_variable_typed found.has))
held_at stored v (ExitShape gives) c has = let found = exit_at stored has in (found.0, found.1)

pub cells_hold_their_shapes : CellsHoldTheirShapes
cells_hold_their_shapes store context variable shape set stored typed =
    held_at (store_typed_from stored) variable shape set (variable_typed (typed_from typed))

pub values_have_their_types : ValuesHaveTheirTypes
values_have_their_types store context position value shape set stored there declared =
    let s = store_typed_from stored in
    whole (store_formed s) (value_of (cell_typed s position shape set declared) value there)

pub declared_sets_reach : DeclaredSetsReach
declared_sets_reach store context position shape set cell stored declared none reaches =
    declared_reach (store_typed_from stored) position shape set cell declared none reaches

pub sets_reach_what_is_below : SetsReachWhatIsBelow
sets_reach_what_is_below store context lower upper cell stored below none reaches =
    set_reaches-below (store_typed_from stored) lower upper below none cell reaches
