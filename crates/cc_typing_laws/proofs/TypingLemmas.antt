-- What the map lemma gives: typing in longer contexts, of bodies with a variable or a shape put in, and what answers
-- capture.
use Rattle.cc_core.proofs.SubcapturingContexts.{IsKinded-added, IsKindedContext, IsKindedSet-added, entry_kinded, kind_of_entry}
use Rattle.cc_core.proofs.Sorts.{ShapeSort, SetSort, TermSort}
use Rattle.std.proofs.Common.{◌≡◌, ℕ, true, [], ◌∷◌, length, refl, sym, ap, ◌∙◌, subst}
use Rattle.cc_capture.specs.declared.var.Var.{Var}
use Rattle.cc_capture.specs.declared.var.Var.TheVariants.{Free}
use Rattle.cc_capture.specs.declared.var.Elem.TheVariants.{Var as Variable}
use Rattle.cc_capture.specs.Sets.{Set, empty}
use Rattle.cc_core.specs.Shapes.{Shape, TypeVariable}
use Rattle.cc_core.specs.Terms.{Term, VariableTerm, FunctionTerm, TypeFunctionTerm}
use Rattle.cc_core.specs.Contexts.{TermEntry, TypeEntry, Context}
use Rattle.cc_core.specs.Traversal.{act, act_set, act_term}
use Rattle.cc_core.specs.Substitution.{putting, putting_shape, opened, opened_set, opened_term, freely, overridden}
use Rattle.cc_core.specs.WellFormed.{TermKind, TypeKind, kinds_of}
use Rattle.cc_core.specs.Captured.{is_value, captured_variables, variable_set}
use Rattle.cc_core.specs.Subcapturing.{Subcaptures, SubcapturesSet}
use Rattle.cc_core.proofs.Lookups.{lookup-newest}
use Rattle.cc_core.proofs.SubcapturingLemmas.{subcaptures_reflexive, subcaptures_transitive}
use Rattle.cc_core.proofs.Moving.{Member-single, Member-single_itself}
use Rattle.cc_core.proofs.KindFacts.{IsKindedSet, IsKinded, IsKindedTerm}
use Rattle.cc_typing_laws.proofs.DirectSubtyping.{SubtypesDirectly, alike}
use Rattle.cc_typing_laws.proofs.FormedContexts.{length-kinds_of, HasKinds-opened}
use Rattle.cc_typing_laws.proofs.FreeMaps.{Longer, lookup-kept, subcaptures_element-kept, subtypes-kept, same_position, same_variable, still, still_set, still_term, maps_longer, maps_value, maps_shape, value_put, shape_put, map_subtypes, map_subcaptures, agree_kinded, variable_below_declared}
use Rattle.cc_core.proofs.Renaming.{overridden-below}
use Rattle.cc_typing_laws.proofs.InternalTyping.{HasVariable, TypedExactly, exact_variable, exact_literal, exact_function, exact_type_function, exact_application, exact_type_application, exact_box, exact_unboxing, exact_let, exact_primitive, exact_conditional, exact_repetition, exact_operation, exact_operation_alone, exact_boundary, exact_leave, Typed, widened}
use Rattle.cc_typing_laws.proofs.TypingMaps.{typed_is, typed_wider, map_typed}

-- weakening
pub typed_longer : {g d : Context} → Longer g d → IsKindedContext g → {t : Term} {s : Shape} {c : Set} → Typed g t s c → Typed d t s c
typed_longer {g = g} {d = d} l formed {t = t} {s = s} {c = c} typed =
    typed_is (still_term 0 t) (still 0 s) (still_set 0 c) (map_typed typed d same_position same_variable (maps_longer g d l) formed)

pub has_variable_longer : {g d : Context} → Longer g d → IsKindedContext g → {v : Var} {s : Shape} {c : Set} → HasVariable g v s c
    → IsKinded (kinds_of d) [] s → IsKindedSet (kinds_of d) [] c → HasVariable d v s c
has_variable_longer {g = g} {d = d} l formed {s = s} {c = c} has ks kc = record {
  position = has.position;
  is = has.is;
  shape = has.shape;
  set = has.set;
  there = lookup-kept l has.position (TermEntry has.shape has.set) has.there;
  below = subtypes-kept l formed has.shape s (entry_kinded g has.position (TermEntry has.shape has.set) formed has.there).0 has.kinded has.below;
  captured = subcaptures_element-kept l (Variable (Free has.position)) c has.captured;
  kinded = ks;
  kinded_set = kc;
}

-- a variable that is typed has its type, and the other way round
pub variable_typed : {g : Context} {v : Var} {s : Shape} {c : Set} → Typed g (VariableTerm v) s c → HasVariable g v s c
variable_typed (widened kt (exact_variable {p = p} {s = s} {c = c} there) captures below ks kc) = record {
  position = p;
  is = refl;
  shape = s;
  set = c;
  there = there;
  below = below;
  captured = captures (Variable (Free p)) (Member-single_itself (Variable (Free p)));
  kinded = ks;
  kinded_set = kc;
}

pub has_variable_typed : {g : Context} {v : Var} {s : Shape} {c : Set} → HasVariable g v s c → Typed g (VariableTerm v) s c
has_variable_typed {g = g} {s = s} {c = c} has =
    subst (λ w. Typed g (VariableTerm w) s c) (sym has.is)
    (widened (kind_of_entry g has.position (TermEntry has.shape has.set) has.there) (exact_variable has.there)
    (λ x h. subst (λ y. Subcaptures g y c) (sym (Member-single x (Variable (Free has.position)) h)) has.captured)
    has.below has.kinded has.kinded_set)

pub has_variable_wider : {g : Context} {v : Var} {s s' : Shape} {c c' : Set} → HasVariable g v s c → SubcapturesSet g c c' → SubtypesDirectly g s s'
    → IsKinded (kinds_of g) [] s' → IsKindedSet (kinds_of g) [] c' → HasVariable g v s' c'
has_variable_wider has captures below ks kc = variable_typed (typed_wider (has_variable_typed has) captures below ks kc)

-- A body with a variable that has the type of its binder.
module _ (g : Context) (formed : IsKindedContext g) (s : Shape) (c : Set) (v : Var) (has : HasVariable g v s c) where
  put_to : ℕ → ℕ
  put_to = overridden same_position (length g) has.position

  put_shapes : ℕ → Shape
  put_shapes = overridden same_variable (length g) (TypeVariable (Free has.position))

  put_typed : (body : Term) (gives : Shape) (e : Set) → IsKindedTerm (kinds_of g) (TermKind ∷ []) body → IsKinded (kinds_of g) (TermKind ∷ []) gives → IsKindedSet (kinds_of g) (TermKind ∷ []) e
      → Typed (TermEntry s c ∷ g) (opened_term (length g) body) (opened (length g) gives) (opened_set (length g) e)
      → Typed g (act_term (putting (Free has.position)) 0 body) (act (putting (Free has.position)) 0 gives) (act_set (putting (Free has.position)) 0 e)
  put_typed body gives e kt kg ke typed =
      typed_is (value_put g has.position TermKind TermSort body kt) (value_put g has.position TermKind ShapeSort gives kg) (value_put g has.position TermKind SetSort e ke)
      (map_typed typed g (overridden same_position (length g) has.position) (overridden same_variable (length g) (TypeVariable (Free has.position)))
      (maps_value g formed s c has.kinded has.kinded_set has.position has.shape has.set has.there has.below has.captured)
      ((has.kinded, has.kinded_set), formed))

  pub body_typed : (body : Term) (gives : Shape) (e : Set) → IsKindedTerm (kinds_of g) (TermKind ∷ []) body → IsKinded (kinds_of g) (TermKind ∷ []) gives → IsKindedSet (kinds_of g) (TermKind ∷ []) e
      → Typed (TermEntry s c ∷ g) (opened_term (length g) body) (opened (length g) gives) (opened_set (length g) e)
      → Typed g (act_term (putting v) 0 body) (act (putting v) 0 gives) (act_set (putting v) 0 e)
  body_typed body gives e kt kg ke typed =
      subst (λ w. Typed g (act_term (putting w) 0 body) (act (putting w) 0 gives) (act_set (putting w) 0 e)) (sym has.is) (put_typed body gives e kt kg ke typed)

  -- where the type does not name the variable
  pub let_body_typed : (body : Term) (gives : Shape) (e : Set) → IsKindedTerm (kinds_of g) (TermKind ∷ []) body → IsKinded (kinds_of g) [] gives → IsKindedSet (kinds_of g) [] e
      → Typed (TermEntry s c ∷ g) (opened_term (length g) body) gives e
      → Typed g (act_term (putting v) 0 body) gives e
  unfolding put_to put_shapes
  let_body_typed body gives e kt kg ke typed =
      subst (λ w. Typed g (act_term (putting w) 0 body) gives e) (sym has.is)
      (typed_is (value_put g has.position TermKind TermSort body kt)
      (agree_kinded g same_position put_to same_variable put_shapes (overridden-below same_position (length g) has.position) (overridden-below same_variable (length g) (TypeVariable (Free has.position))) ShapeSort gives kg ∙ still 0 gives)
      (agree_kinded g same_position put_to same_variable put_shapes (overridden-below same_position (length g) has.position) (overridden-below same_variable (length g) (TypeVariable (Free has.position))) SetSort e ke ∙ still_set 0 e)
      (map_typed typed g put_to put_shapes
      (maps_value g formed s c has.kinded has.kinded_set has.position has.shape has.set has.there has.below has.captured)
      ((has.kinded, has.kinded_set), formed)))

  pub put_subtypes : (x y : Shape) → IsKinded (kinds_of g) (TermKind ∷ []) x → IsKinded (kinds_of g) (TermKind ∷ []) y
      → SubtypesDirectly (TermEntry s c ∷ g) (opened (length g) x) (opened (length g) y) → SubtypesDirectly g (act (putting v) 0 x) (act (putting v) 0 y)
  unfolding put_to put_shapes
  put_subtypes x y kx ky below =
      subst (λ w. SubtypesDirectly g (act (putting w) 0 x) (act (putting w) 0 y)) (sym has.is)
      (subst (λ z. SubtypesDirectly g z (act (putting (Free has.position)) 0 y)) (value_put g has.position TermKind ShapeSort x kx)
      (subst (λ z. SubtypesDirectly g (act (freely put_to put_shapes) 0 (opened (length g) x)) z) (value_put g has.position TermKind ShapeSort y ky)
      (map_subtypes below g put_to put_shapes
      (maps_value g formed s c has.kinded has.kinded_set has.position has.shape has.set has.there has.below has.captured)
      ((has.kinded, has.kinded_set), formed)
      (HasKinds-opened (length g) TermKind (kinds_of g) (length-kinds_of g) ShapeSort x kx) (HasKinds-opened (length g) TermKind (kinds_of g) (length-kinds_of g) ShapeSort y ky))))

  pub put_subcaptures : (x y : Set) → IsKindedSet (kinds_of g) (TermKind ∷ []) x → IsKindedSet (kinds_of g) (TermKind ∷ []) y
      → SubcapturesSet (TermEntry s c ∷ g) (opened_set (length g) x) (opened_set (length g) y) → SubcapturesSet g (act_set (putting v) 0 x) (act_set (putting v) 0 y)
  unfolding put_to put_shapes
  put_subcaptures x y kx ky below =
      subst (λ w. SubcapturesSet g (act_set (putting w) 0 x) (act_set (putting w) 0 y)) (sym has.is)
      (subst (λ z. SubcapturesSet g z (act_set (putting (Free has.position)) 0 y)) (value_put g has.position TermKind SetSort x kx)
      (subst (λ z. SubcapturesSet g (act_set (freely put_to put_shapes) 0 (opened_set (length g) x)) z) (value_put g has.position TermKind SetSort y ky)
      (map_subcaptures (TermEntry s c ∷ g) g put_to put_shapes
      (maps_value g formed s c has.kinded has.kinded_set has.position has.shape has.set has.there has.below has.captured)
      (opened_set (length g) x) (opened_set (length g) y) below)))

-- A body with a shape below the bound of its binder.
module _ (g : Context) (formed : IsKindedContext g) (b r : Shape) (kb : IsKinded (kinds_of g) [] b) (kr : IsKinded (kinds_of g) [] r) (less : SubtypesDirectly g r b) where
  pub type_body_typed : (body : Term) (gives : Shape) (e : Set) → IsKindedTerm (kinds_of g) (TypeKind ∷ []) body → IsKinded (kinds_of g) (TypeKind ∷ []) gives → IsKindedSet (kinds_of g) (TypeKind ∷ []) e
      → Typed (TypeEntry b ∷ g) (opened_term (length g) body) (opened (length g) gives) (opened_set (length g) e)
      → Typed g (act_term (putting_shape r) 0 body) (act (putting_shape r) 0 gives) (act_set (putting_shape r) 0 e)
  type_body_typed body gives e kt kg ke typed =
      typed_is (shape_put g r TermSort body kt) (shape_put g r ShapeSort gives kg) (shape_put g r SetSort e ke)
      (map_typed typed g same_position (overridden same_variable (length g) r) (maps_shape g formed b kb r kr less) (kb, formed))

  pub shape_put_subtypes : (x y : Shape) → IsKinded (kinds_of g) (TypeKind ∷ []) x → IsKinded (kinds_of g) (TypeKind ∷ []) y
      → SubtypesDirectly (TypeEntry b ∷ g) (opened (length g) x) (opened (length g) y) → SubtypesDirectly g (act (putting_shape r) 0 x) (act (putting_shape r) 0 y)
  shape_put_subtypes x y kx ky below =
      subst (λ z. SubtypesDirectly g z (act (putting_shape r) 0 y)) (shape_put g r ShapeSort x kx)
      (subst (λ z. SubtypesDirectly g (act (freely same_position (overridden same_variable (length g) r)) 0 (opened (length g) x)) z) (shape_put g r ShapeSort y ky)
      (map_subtypes below g same_position (overridden same_variable (length g) r) (maps_shape g formed b kb r kr less) (kb, formed)
      (HasKinds-opened (length g) TypeKind (kinds_of g) (length-kinds_of g) ShapeSort x kx) (HasKinds-opened (length g) TypeKind (kinds_of g) (length-kinds_of g) ShapeSort y ky)))

  pub shape_put_subcaptures : (x y : Set) → IsKindedSet (kinds_of g) (TypeKind ∷ []) x → IsKindedSet (kinds_of g) (TypeKind ∷ []) y
      → SubcapturesSet (TypeEntry b ∷ g) (opened_set (length g) x) (opened_set (length g) y) → SubcapturesSet g (act_set (putting_shape r) 0 x) (act_set (putting_shape r) 0 y)
  shape_put_subcaptures x y kx ky below =
      subst (λ z. SubcapturesSet g z (act_set (putting_shape r) 0 y)) (shape_put g r SetSort x kx)
      (subst (λ z. SubcapturesSet g (act_set (freely same_position (overridden same_variable (length g) r)) 0 (opened_set (length g) x)) z) (shape_put g r SetSort y ky)
      (map_subcaptures (TypeEntry b ∷ g) g same_position (overridden same_variable (length g) r) (maps_shape g formed b kb r kr less)
      (opened_set (length g) x) (opened_set (length g) y) below))

-- the newest variable has the declared type of a smaller one
pub newest_has : (g : Context) (s : Shape) (c : Set) → IsKinded (kinds_of g) [] s → IsKindedSet (kinds_of g) [] c → HasVariable (TermEntry s c ∷ g) (Free (length g)) s c
newest_has g s c ks kc = record {
  position = length g;
  is = refl;
  shape = s;
  set = c;
  there = lookup-newest (TermEntry s c) g;
  below = alike;
  captured = variable_below_declared (lookup-newest (TermEntry s c) g);
  kinded = IsKinded-added TermKind (kinds_of g) [] s ks;
  kinded_set = IsKindedSet-added TermKind (kinds_of g) [] c kc;
}

-- a value captures what its type says
value_captures : {g : Context} {t : Term} {s : Shape} {c : Set} → TypedExactly g t s c → is_value t ≡ true → SubcapturesSet g (captured_variables t) c
value_captures (exact_variable there) v = cc
value_captures (exact_literal {g = g}) v = subcaptures_reflexive g empty
value_captures (exact_function {g = g} {takes = takes} {c = c} {body = body} kg ke typed) v = subcaptures_reflexive g (captured_variables (FunctionTerm takes c body))
value_captures (exact_type_function {g = g} {bound = bound} {body = body} kg ke typed) v = subcaptures_reflexive g (captured_variables (TypeFunctionTerm bound body))
value_captures (exact_application function argument) v = cc
value_captures (exact_type_application function below) v = cc
value_captures (exact_box {g = g} has none) v = subcaptures_reflexive g empty
value_captures (exact_unboxing has none) v = cc
value_captures (exact_let right is body ks ke) v = cc
value_captures (exact_primitive left right) v = cc
value_captures (exact_conditional test positive negative) v = cc
value_captures (exact_repetition count function) v = cc
value_captures (exact_operation receiver taken argument) v = cc
value_captures (exact_operation_alone receiver taken) v = cc
value_captures (exact_boundary body) v = cc
value_captures (exact_leave exit value) v = cc

pub answer_captures : {g : Context} {t : Term} {s : Shape} {c : Set} → Typed g t s c → is_value t ≡ true → SubcapturesSet g (captured_variables t) c
answer_captures {g = g} {t = t} {c = c} (widened {c = c0} kt exact captures below ks kc) v = subcaptures_transitive g (captured_variables t) c0 c (value_captures exact v) captures

pub variable_captures : {g : Context} {v : Var} {s : Shape} {c : Set} → HasVariable g v s c → SubcapturesSet g (variable_set v) c
variable_captures {g = g} {v = v} {c = c} has x h =
    subst (λ y. Subcaptures g y c) (sym (Member-single x (Variable v) h ∙ ap (λ w. Variable w) has.is)) has.captured
