-- Typing by the form of the term is typing.
use Rattle.cc_core.proofs.SubcapturingContexts.{IsKindedContext, IsKindedContext-from}
use Rattle.std.proofs.Common.{◌≡◌, ◌≢◌, ℕ, List, [], ◌∷◌, length, refl, sym, subst, arith}
use Rattle.std.proofs.lemmas.Bool.{and_parts, and_from}
use Rattle.cc_capture.specs.declared.var.Var.{Var}
use Rattle.cc_capture.specs.declared.var.Var.TheVariants.{Bound, Free}
use Rattle.cc_capture.specs.declared.var.Elem.TheVariants.{Var as Variable, Cap}
use Rattle.cc_capture.specs.Sets.{Set}
use Rattle.cc_core.specs.Shapes.{Shape, FunctionShape, TypeFunctionShape, CapturingType, capturing}
use Rattle.cc_core.specs.Terms.{Term, VariableTerm}
use Rattle.cc_core.specs.Contexts.{TermEntry, TypeEntry, Context}
use Rattle.cc_core.specs.Occurrences.{Meets, MeetsInSet, IsPositionBelow, without, positions_below, bound_within}
use Rattle.cc_core.specs.WellFormed.{Kind, TermKind, TypeKind, kinds_of, is_well_formed_shape, is_well_formed_set, IsWellFormedType}
use Rattle.cc_core.specs.Subcapturing.{Subcaptures}
use Rattle.cc_core.specs.Typing.{HasTyping, t-var, t-lit, t-abs, t-tabs, t-app, t-tapp, t-box, t-unbox, t-let, t-prim, t-if, t-repeat, t-op, t-op-alone, t-boundary, t-exit, t-sub, HasType}
use Rattle.cc_core.proofs.Moving.{Member-single}
use Rattle.cc_core.proofs.Opening.{closed-opened, opened-closed}
use Rattle.cc_core.proofs.Conditions.{gives_here, Meets-here, MeetsInSet-here}
use Rattle.cc_core.proofs.KindFacts.{IsKindedSet, IsKinded, IsKindedTerm, IsKinded-from, IsKinded-test, IsKindedSet-from, IsKindedSet-test, IsKindedTerm-from, IsKindedTerm-test}
use Rattle.cc_core.proofs.KindedActions.{IsKinded-meets, IsKindedSet-meets}
use Rattle.cc_typing_laws.proofs.DirectSubtyping.{direct_from, direct_to}
use Rattle.cc_typing_laws.proofs.FormedContexts.{IsKindedContext-test, length-kinds_of, kinded_single, kinds_below, kinds_bound, IsKinded-without, IsKindedSet-without, HasKinds-closed, HasKinds-opened}
use Rattle.cc_typing_laws.proofs.InternalTyping.{HasVariable, TypedExactly, exact_variable, exact_literal, exact_function, exact_type_function, exact_application, exact_type_application, exact_box, exact_unboxing, exact_let, exact_primitive, exact_conditional, exact_repetition, exact_operation, exact_operation_alone, exact_boundary, exact_leave, Typed, widened}
use Rattle.cc_typing_laws.proofs.TypingMaps.{typed_is, typed_kinded, typed_kinded_set, typed_wider, typed_exactly}
use Rattle.cc_typing_laws.proofs.TypingLemmas.{variable_typed}
use Rattle.cc_core.proofs.Sorts.{SetSort, ShapeSort, TermSort}

pub formed_type_parts : (g : Context) (s : Shape) (c : Set) → IsWellFormedType g (capturing s c) → IsKinded (kinds_of g) [] s × IsKindedSet (kinds_of g) [] c
formed_type_parts g s c h =
    let parts = and_parts (is_well_formed_shape (kinds_of g) [] s) (is_well_formed_set (kinds_of g) [] c) h in
    (IsKinded-from (kinds_of g) [] s parts.0, IsKindedSet-from (kinds_of g) [] c parts.1)

pub formed_type_from : (g : Context) (s : Shape) (c : Set) → IsKinded (kinds_of g) [] s → IsKindedSet (kinds_of g) [] c → IsWellFormedType g (capturing s c)
formed_type_from g s c ks kc = and_from (is_well_formed_shape (kinds_of g) [] s) (is_well_formed_set (kinds_of g) [] c) (IsKinded-test (kinds_of g) [] s ks) (IsKindedSet-test (kinds_of g) [] c kc)

-- what is well formed in a context has its positions below the next one, and none open
pub below_is_other : (n d : ℕ) (v : Var) → IsPositionBelow n v → v ≢ Free n
below_is_other n d (Free p) h e = let same : p ≡ n = cc in omega arith
below_is_other n d (Bound i) h e = cc

pub fresh_in : (g : Context) (beyond : List Kind) (s : Shape) → IsKinded (kinds_of g) beyond s → Meets (without (length g)) 0 s
fresh_in g beyond s k =
    Meets-here (positions_below (length g)) (without (length g)) (gives_here _ _ (λ d v h. below_is_other (length g) d v h)) 0 s
    (IsKinded-meets (kinds_of g) beyond (positions_below (length g)) (kinds_below (length g) (kinds_of g) beyond (length-kinds_of g)) [] s k)

pub fresh_in_set : (g : Context) (beyond : List Kind) (c : Set) → IsKindedSet (kinds_of g) beyond c → MeetsInSet (without (length g)) 0 c
fresh_in_set g beyond c k =
    MeetsInSet-here (positions_below (length g)) (without (length g)) (gives_here _ _ (λ d v h. below_is_other (length g) d v h)) 0 c
    (IsKindedSet-meets (kinds_of g) beyond (positions_below (length g)) (kinds_below (length g) (kinds_of g) beyond (length-kinds_of g)) [] c k)

pub closed_in : (g : Context) (s : Shape) → IsKinded (kinds_of g) [] s → Meets (bound_within 0) 0 s
closed_in g s k = IsKinded-meets (kinds_of g) [] (bound_within 0) (kinds_bound (kinds_of g)) [] s k

pub closed_in_set : (g : Context) (c : Set) → IsKindedSet (kinds_of g) [] c → MeetsInSet (bound_within 0) 0 c
closed_in_set g c k = IsKindedSet-meets (kinds_of g) [] (bound_within 0) (kinds_bound (kinds_of g)) [] c k

-- each typed term is typed by its form
pub internal_from : {g : Context} {t : Term} {s : Shape} {c : Set} → HasTyping g t s c → IsKindedContext g → IsKindedTerm (kinds_of g) [] t → Typed g t s c
internal_from (t-var there) formed k = typed_exactly formed k (exact_variable there)
internal_from t-lit formed k = typed_exactly formed k exact_literal
internal_from (t-abs {context = g} {takes = takes} {gives = gives} {c = c} {e = e} {body = body} wf typing) formed k =
    let n : ℕ = length g in
    let len = length-kinds_of g in
    let typed = internal_from typing ((k.0, k.1), formed) (HasKinds-opened n TermKind (kinds_of g) len TermSort body k.2) in
    let g' : Context = TermEntry takes c ∷ g in
    typed_exactly formed k
    (exact_function (HasKinds-closed n TermKind (kinds_of g) len ShapeSort gives (typed_kinded typed)) (HasKinds-closed n TermKind (kinds_of g) len SetSort e (typed_kinded_set typed))
    (typed_is refl (sym (opened-closed ShapeSort n 0 gives (closed_in g' gives (typed_kinded typed)))) (sym (opened-closed SetSort n 0 e (closed_in_set g' e (typed_kinded_set typed)))) typed))
internal_from (t-tabs {context = g} {bound = bound} {gives = gives} {e = e} {body = body} wf typing) formed k =
    let n : ℕ = length g in
    let len = length-kinds_of g in
    let typed = internal_from typing (k.0, formed) (HasKinds-opened n TypeKind (kinds_of g) len TermSort body k.1) in
    let g' : Context = TypeEntry bound ∷ g in
    typed_exactly formed k
    (exact_type_function (HasKinds-closed n TypeKind (kinds_of g) len ShapeSort gives (typed_kinded typed)) (HasKinds-closed n TypeKind (kinds_of g) len SetSort e (typed_kinded_set typed))
    (typed_is refl (sym (opened-closed ShapeSort n 0 gives (closed_in g' gives (typed_kinded typed)))) (sym (opened-closed SetSort n 0 e (closed_in_set g' e (typed_kinded_set typed)))) typed))
internal_from (t-app function argument) formed k =
    typed_exactly formed k (exact_application (variable_typed (internal_from function formed k.0)) (variable_typed (internal_from argument formed k.1)))
internal_from (t-tapp function below wf) formed k =
    typed_exactly formed k (exact_type_application (variable_typed (internal_from function formed k.0)) (direct_from below))
internal_from (t-box content none) formed k = typed_exactly formed k (exact_box (variable_typed (internal_from content formed k)) none)
internal_from (t-unbox box wf none) formed k = typed_exactly formed k (exact_unboxing (variable_typed (internal_from box formed k.1)) none)
internal_from (t-let {context = g} {note = note} {right = right} {body = body} {bound = bound} {shape = s} {c = c} {e = e} typing is typing_body ns ne) formed k =
    let n : ℕ = length g in
    let len = length-kinds_of g in
    let typed = internal_from typing formed k.1 in
    let typed_body = internal_from typing_body ((typed_kinded typed, typed_kinded_set typed), formed) (HasKinds-opened n TermKind (kinds_of g) len TermSort body k.2) in
    typed_exactly formed k
    (exact_let typed is typed_body
    (IsKinded-without n TermKind (kinds_of g) len [] 0 s (typed_kinded typed_body) ns)
    (IsKindedSet-without n TermKind (kinds_of g) len [] 0 e (typed_kinded_set typed_body) ne))
internal_from (t-prim left right) formed k = typed_exactly formed k (exact_primitive (variable_typed (internal_from left formed k.0)) (variable_typed (internal_from right formed k.1)))
internal_from (t-if test positive negative) formed k =
    typed_exactly formed k (exact_conditional (variable_typed (internal_from test formed k.1)) (internal_from positive formed k.2) (internal_from negative formed k.3))
internal_from (t-repeat count function) formed k = typed_exactly formed k (exact_repetition (variable_typed (internal_from count formed k.0)) (variable_typed (internal_from function formed k.1)))
internal_from (t-op receiver taken argument) formed k = typed_exactly formed k (exact_operation (variable_typed (internal_from receiver formed k.0)) taken (variable_typed (internal_from argument formed k.1)))
internal_from (t-op-alone receiver taken) formed k = typed_exactly formed k (exact_operation_alone (variable_typed (internal_from receiver formed k.0)) taken)
internal_from (t-boundary {context = g} {body = body} wf typing) formed k =
    typed_exactly formed k (exact_boundary (internal_from typing ((k.0, kinded_single (kinds_of g) [] Cap tt), formed) (HasKinds-opened (length g) TermKind (kinds_of g) (length-kinds_of g) TermSort body k.1)))
internal_from (t-exit exit value wf) formed k = typed_exactly formed k (exact_leave (variable_typed (internal_from exit formed k.2)) (variable_typed (internal_from value formed k.3)))
internal_from (t-sub {context = g} {shape' = s'} {c' = c'} typing captures below wf) formed k =
    let parts = formed_type_parts g s' c' wf in
    typed_wider (internal_from typing formed k) captures (direct_from below) parts.0 parts.1

-- and the other way round
pub has_typing_variable : {g : Context} {v : Var} {s : Shape} {c : Set} → HasVariable g v s c → HasTyping g (VariableTerm v) s c
has_typing_variable {g = g} {s = s} {c = c} has =
    subst (λ w. HasTyping g (VariableTerm w) s c) (sym has.is)
    (t-sub (t-var has.there) (λ x h. subst (λ y. Subcaptures g y c) (sym (Member-single x (Variable (Free has.position)) h)) has.captured) (direct_to has.below) (formed_type_from g s c has.kinded has.kinded_set))

pub typing_is : {g : Context} {t : Term} {s s' : Shape} {c c' : Set} → s ≡ s' → c ≡ c' → HasTyping g t s c → HasTyping g t s' c'
typing_is {g = g} {t = t} {s' = s'} {c = c} es ec h = subst (HasTyping g t s') ec (subst (λ x. HasTyping g t x c) es h)

mutual
  exact_typing : {g : Context} {t : Term} {s : Shape} {c : Set} → TypedExactly g t s c → IsKindedTerm (kinds_of g) [] t → HasTyping g t s c
  exact_typing (exact_variable there) k = t-var there
  exact_typing exact_literal k = t-lit
  exact_typing (exact_function {g = g} {takes = takes} {gives = gives} {c = c} {e = e} kg ke typed) k =
      typing_is
      (λ i. FunctionShape takes c (closed-opened ShapeSort (length g) 0 gives (fresh_in g (TermKind ∷ []) gives kg) i) (closed-opened SetSort (length g) 0 e (fresh_in_set g (TermKind ∷ []) e ke) i)) refl
      (t-abs (formed_type_from g takes c k.0 k.1) (internal_typing typed))
  exact_typing (exact_type_function {g = g} {bound = bound} {gives = gives} {e = e} kg ke typed) k =
      typing_is
      (λ i. TypeFunctionShape bound (closed-opened ShapeSort (length g) 0 gives (fresh_in g (TypeKind ∷ []) gives kg) i) (closed-opened SetSort (length g) 0 e (fresh_in_set g (TypeKind ∷ []) e ke) i)) refl
      (t-tabs (IsKinded-test (kinds_of g) [] bound k.0) (internal_typing typed))
  exact_typing (exact_application function argument) k = t-app (has_typing_variable function) (has_typing_variable argument)
  exact_typing (exact_type_application {g = g} {argument = r} function below) k = t-tapp (has_typing_variable function) (direct_to below) (IsKinded-test (kinds_of g) [] r k.1)
  exact_typing (exact_box has none) k = t-box (has_typing_variable has) none
  exact_typing (exact_unboxing {g = g} {c = c} has none) k = t-unbox (has_typing_variable has) (IsKindedSet-test (kinds_of g) [] c has.kinded.1) none
  exact_typing (exact_let {g = g} {s = s} {e = e} typed is typed_body ks ke) k = t-let (internal_typing typed) is (internal_typing typed_body) (fresh_in g [] s ks) (fresh_in_set g [] e ke)
  exact_typing (exact_primitive left right) k = t-prim (has_typing_variable left) (has_typing_variable right)
  exact_typing (exact_conditional test positive negative) k = t-if (has_typing_variable test) (internal_typing positive) (internal_typing negative)
  exact_typing (exact_repetition count function) k = t-repeat (has_typing_variable count) (has_typing_variable function)
  exact_typing (exact_operation receiver taken argument) k = t-op (has_typing_variable receiver) taken (has_typing_variable argument)
  exact_typing (exact_operation_alone receiver taken) k = t-op-alone (has_typing_variable receiver) taken
  exact_typing (exact_boundary {g = g} {gives = gives} typed) k = t-boundary (IsKinded-test (kinds_of g) [] gives k.0) (internal_typing typed)
  exact_typing (exact_leave {g = g} {gives = gives} {c = c} exit value) k = t-exit (has_typing_variable exit) (has_typing_variable value) (formed_type_from g gives c k.0 k.1)

  pub internal_typing : {g : Context} {t : Term} {s : Shape} {c : Set} → Typed g t s c → HasTyping g t s c
  internal_typing (widened {g = g} {s' = s'} {c' = c'} kt exact captures below ks kc) = t-sub (exact_typing exact kt) captures (direct_to below) (formed_type_from g s' c' ks kc)

-- The two relations are one on what is well formed.
pub typed_from : {g : Context} {t : Term} {type : CapturingType} → HasType g t type → Typed g t type.shape type.set
typed_from {g = g} {t = t} h = internal_from h.typing (IsKindedContext-from g h.context_formed) (IsKindedTerm-from (kinds_of g) [] t h.term_formed)

pub type_from : {g : Context} {t : Term} {s : Shape} {c : Set} → IsKindedContext g → IsKindedTerm (kinds_of g) [] t → Typed g t s c → HasType g t (capturing s c)
type_from {g = g} {t = t} {s = s} {c = c} formed k typed = record {
  context_formed = IsKindedContext-test g formed;
  term_formed = IsKindedTerm-test (kinds_of g) [] t k;
  type_formed = formed_type_from g s c (typed_kinded typed) (typed_kinded_set typed);
  typing = internal_typing typed;
}
